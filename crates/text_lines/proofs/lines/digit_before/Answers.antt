use Rattle.std.proofs.Common.{◌%◌, arith, sym, ap}
use Rattle.text_lines.proofs.Hex.{none-before}
use Rattle.text_lines.proofs.lines.digit_before.Goals as goal

pub returns-else-behind-lt16-clause-digit : goal.returns-else-behind-lt16-clause-digit
returns-else-behind-lt16-clause-digit c = sym (ap (λ x. x % 16) (none-before c.args.behind c.args.bits (omega (arith, c.if-behind-lt16.false)) c.ranges.bits.fits))
