use Rattle.std.proofs.Common.{◌≡◌, ◌+◌, drop}
use Rattle.dap_model.specs.Filter.{all_pick}
use Rattle.grid_projection.specs.Resolved.{marks_in}
use Rattle.grid_projection.proofs.grids.all_pick.Given as goal

abbrev pub invariant-loop-k : goal.invariant-loop-k
invariant-loop-k l = all_pick (marks_in l.marks) (l.first + l.k) (drop l.k l.slabs) ≡ all_pick (marks_in l.marks) l.first l.slabs
