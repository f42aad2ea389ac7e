use Rattle.std.proofs.Common.{arith, sym}
use Rattle.constraint_parse.proofs.Places.{blank_passes}
use Rattle.constraint_parse.proofs.scan.skip_blanks.Goals as goal

pub loop-at-preserved : goal.loop-at-preserved
loop-at-preserved c = record {
  low = omega arith;
  high = omega arith;
  stands = λ s st. blank_passes (c.loop-at.invariant.stands s st) c.loop-at-test.true (sym c.if-is_blank_byte.ensures);
}
