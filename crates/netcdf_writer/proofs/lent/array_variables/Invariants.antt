use Rattle.std.proofs.Common.{◌≡◌, ◌++◌, drop, map}
use Rattle.dap_types.specs.View.{tree_view}
use Rattle.netcdf_writer.specs.Variables.{array_variables}
use Rattle.netcdf_writer.specs.inner.Tables.{variable_views}
use Rattle.netcdf_writer.proofs.lent.array_variables.Given as goal

abbrev pub invariant-loop-k : goal.invariant-loop-k
invariant-loop-k l = variable_views l.out.items ++ array_variables (drop l.k l.arrays) (map tree_view (drop l.k l.trees)) ≡ array_variables l.arrays (map tree_view l.trees)
