use Rattle.text_lines.proofs.Hex.{one-more}
use Rattle.text_lines.proofs.lines.put_hex.Goals as goal

pub loop-i-preserved : goal.loop-i-preserved
loop-i-preserved c =
    one-more c.loop-i.out.items c.push.new.self.items _ c.hex_digit.result c.digit_before.result c.args.digits c.loop-i.i c.args.bits c.loop-i-test.true c.in_ok-push.ensures.items c.hex_digit.ensures c.digit_before.ensures.digit c.loop-i.invariant
