use Rattle.std.proofs.Common.{◌≡◌, ◌++◌, take}
use Rattle.netcdf_writer.specs.inner.Tables.{variable_views}
use Rattle.netcdf_writer.proofs.plan.append.Given as goal

abbrev pub invariant-loop-variable : goal.invariant-loop-variable
invariant-loop-variable l = variable_views l.out.items ≡ variable_views l.fn.out.items ++ variable_views (take l.variable-index l.more)
