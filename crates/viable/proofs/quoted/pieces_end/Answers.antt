use Rattle.std.proofs.Common.{arith}
use Rattle.viable.proofs.Pieces.{one_plain, one_pair}
use Rattle.viable.proofs.quoted.pieces_end.Goals as goal

pub loop-at-preserved-then-text-at-ne92 : goal.loop-at-preserved-then-text-at-ne92
loop-at-preserved-then-text-at-ne92 c = record {
  low = omega arith;
  high = omega arith;
  pieces = one_plain _ _ _ c.loop-at.invariant.pieces c.loop-at-test.true c.if-text-at-ne34.true c.if-text-at-ne92.true;
}

pub loop-at-preserved : goal.loop-at-preserved
loop-at-preserved c = record {
  low = omega arith;
  high = omega arith;
  pieces = one_pair _ _ _ c.loop-at.invariant.pieces c.loop-at-test.true c.if-text-at-ne92.false c.if-at-text.true;
}
