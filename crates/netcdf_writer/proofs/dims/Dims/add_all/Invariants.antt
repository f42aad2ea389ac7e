use Rattle.std.proofs.Common.{◌≡◌, ◌++◌, false, List, take}
use Rattle.netcdf_writer.specs.Causes.{dims_clash}
use Rattle.netcdf_writer.specs.Variables.{all_dims}
use Rattle.netcdf_writer.specs.inner.Planned.{AreDims, Dimension}
use Rattle.netcdf_writer.specs.inner.Tables.{variable_views}
use Rattle.netcdf_writer.proofs.dims.Dims.add_all.Given as goal

abbrev pub invariant-loop-variable : goal.invariant-loop-variable
invariant-loop-variable l = (earlier : List Dimension) → AreDims l.fn.self earlier
    → (dims_clash earlier (all_dims (variable_views (take l.variable-index l.variables))) ≡ false) × AreDims l.self (earlier ++ all_dims (variable_views (take l.variable-index l.variables)))
