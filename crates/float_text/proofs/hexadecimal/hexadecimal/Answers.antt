use Rattle.std.proofs.Common.{arith}
use Rattle.float_text.proofs.Hex.{one-more}
use Rattle.float_text.proofs.hexadecimal.hexadecimal.Goals as goal

pub loop-i-preserved : goal.loop-i-preserved
loop-i-preserved c = (
  one-more c.loop-i.text.items c.push-in-loop-i.new.self.items _ c.hex_digit.result c.digit_before.result c.args.digits c.loop-i.i c.args.bits c.loop-i-test.true c.push-in-loop-i.ensures.items c.hex_digit.ensures c.digit_before.ensures.digit c.loop-i.invariant.0,
  omega (arith, c.push-in-loop-i.ensures.len, c.loop-i.invariant.1),
)
