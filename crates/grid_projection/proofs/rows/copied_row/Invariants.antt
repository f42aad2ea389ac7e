use Rattle.std.proofs.Common.{◌≡◌, take}
use Rattle.grid_projection.proofs.rows.copied_row.Given as goal

abbrev pub invariant-loop-mark : goal.invariant-loop-mark
invariant-loop-mark l = l.again.items ≡ take l.mark-index l.row
