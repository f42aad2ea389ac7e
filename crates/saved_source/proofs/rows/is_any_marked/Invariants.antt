use Rattle.std.proofs.Common.{◌≡◌, ◌+◌, ◌-◌, length}
use Rattle.dap_model.specs.Filter.{one_marked}
use Rattle.grid_projection.specs.Resolved.{marks_in}
use Rattle.saved_source.proofs.rows.is_any_marked.Given as goal

abbrev pub invariant-loop-k : goal.invariant-loop-k
invariant-loop-k l = one_marked (marks_in l.marks) l.first (length l.columns) ≡ one_marked (marks_in l.marks) (l.first + l.k) (length l.columns - l.k)
