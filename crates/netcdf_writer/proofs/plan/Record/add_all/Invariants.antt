use Rattle.std.proofs.Common.{◌≡◌, ◌++◌, false, List, take}
use Rattle.netcdf_writer.specs.Causes.{records_clash}
use Rattle.netcdf_writer.specs.Variables.{Variable}
use Rattle.netcdf_writer.specs.inner.Planned.{IsRecord}
use Rattle.netcdf_writer.specs.inner.Tables.{variable_views}
use Rattle.netcdf_writer.proofs.plan.Record.add_all.Given as goal

abbrev pub invariant-loop-variable : goal.invariant-loop-variable
invariant-loop-variable l = (earlier : List Variable) → IsRecord l.fn.self earlier
    → (records_clash earlier (variable_views (take l.variable-index l.variables)) ≡ false) × IsRecord l.self (earlier ++ variable_views (take l.variable-index l.variables))
