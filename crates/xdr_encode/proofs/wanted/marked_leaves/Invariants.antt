use Rattle.grid_projection.specs.Resolved.{marks_in}
use Rattle.xdr_encode.specs.Wanted.{Gathered}
use Rattle.xdr_encode.proofs.wanted.marked_leaves.Given as goal

abbrev pub invariant-loop-k : goal.invariant-loop-k
invariant-loop-k l = Gathered l.header.contents l.header.length (marks_in l.marks) l.leaves l.k
