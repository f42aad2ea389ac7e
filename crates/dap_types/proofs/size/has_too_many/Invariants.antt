use Rattle.std.proofs.Common.{◌≡◌, ◌+◌, ◌≤◌}
use Rattle.dap_types.proofs.Counting.{left, steps}
use Rattle.dap_types.specs.Model.{count_all}
use Rattle.dap_types.specs.View.{members_view}
use Rattle.dap_types.proofs.size.has_too_many.Given as goal

abbrev pub invariant-loop-level : goal.invariant-loop-level
invariant-loop-level l = record { sum : l.met + left l.open.items ≡ count_all (members_view l.fn.members); few : l.met ≤ 1000000 }

abbrev pub decreases-loop-level : goal.decreases-loop-level
decreases-loop-level l = steps l.open.items
