use Rattle.std.proofs.Common.{◌≡◌, take}
use Rattle.netcdf_writer.specs.Variables.{fixed_bytes}
use Rattle.netcdf_writer.specs.inner.Tables.{variable_views}
use Rattle.netcdf_writer.proofs.header.fixed_bytes.Given as goal

abbrev pub invariant-loop-variable : goal.invariant-loop-variable
invariant-loop-variable l = l.bytes ≡ fixed_bytes (variable_views (take l.variable-index l.variables))
