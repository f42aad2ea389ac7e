use Rattle.std.proofs.Common.{◌≡◌, drop, map}
use Rattle.std.specs.Cmp.Lexicographic.{pointwise}
use Rattle.dap_types.specs.View.{tree_view}
use Rattle.netcdf_writer.specs.Variables.{same_element}
use Rattle.netcdf_writer.proofs.same.same_elements.Given as goal

abbrev pub invariant-loop-k : goal.invariant-loop-k
invariant-loop-k l = pointwise same_element (map tree_view (drop l.k l.a)) (map tree_view (drop l.k l.b)) ≡ pointwise same_element (map tree_view l.a) (map tree_view l.b)
