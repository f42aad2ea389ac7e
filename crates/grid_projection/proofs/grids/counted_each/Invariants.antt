use Rattle.std.proofs.Common.{◌≡◌, ◌+◌, ◌++◌, drop}
use Rattle.dap_model.specs.Filter.{marked, counted}
use Rattle.grid_projection.specs.Resolved.{marks_in}
use Rattle.grid_projection.proofs.grids.counted_each.Given as goal

abbrev pub invariant-loop-array : goal.invariant-loop-array
invariant-loop-array l = record {
  numbered : l.number ≡ l.first + l.array-index;
  left : l.left ++ marked counted (marks_in l.marks) l.number (drop l.array-index l.arrays) ≡ marked counted (marks_in l.marks) l.first l.arrays;
}
