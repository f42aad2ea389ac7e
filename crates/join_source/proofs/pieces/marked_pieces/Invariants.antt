use Rattle.grid_projection.specs.Resolved.{marks_in}
use Rattle.join_source.specs.Wanted.{Gathered}
use Rattle.join_source.proofs.pieces.marked_pieces.Given as goal

abbrev pub invariant-loop-k : goal.invariant-loop-k
invariant-loop-k l = Gathered l.headers (marks_in l.marks) l.pieces l.k l.sent
