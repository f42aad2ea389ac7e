use Rattle.std.proofs.Common.{◌≡◌, ◌+◌, ◌∷◌, ◌++◌, drop, map}
use Rattle.dap_types.specs.Model.{array}
use Rattle.dap_types.specs.View.{member_view}
use Rattle.dap_model.specs.Filter.{marked, counted}
use Rattle.grid_projection.specs.Resolved.{marks_in}
use Rattle.grid_projection.proofs.grids.leave_parts.Given as goal

abbrev pub invariant-loop-map : goal.invariant-loop-map
invariant-loop-map l = record {
  numbered : l.part ≡ l.number + 2 + l.map-index;
  left : map member_view l.parts ++ map array (marked counted (marks_in l.marks) l.part (drop l.map-index l.maps)) ≡ map array (marked counted (marks_in l.marks) (l.number + 1) (l.array ∷ l.maps));
}
