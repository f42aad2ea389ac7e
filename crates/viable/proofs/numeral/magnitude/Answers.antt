use Rattle.std.proofs.Common.{◌≡◌, ◌^◌}
use Rattle.viable.specs.Numerals.{decimal}
use Rattle.viable.proofs.Decimals.{decimal_exceeds, decimal_ends}
use Rattle.viable.proofs.numeral.magnitude.Goals as goal

pub returns-in_default : goal.returns-in_default
returns-in_default c = decimal_exceeds c.loop-digit.value c.loop-digit.digit-index (2 ^ 128) c.args.digits.now c.loop-digit-test.true c.loop-digit.invariant.value c.in_default.ensures

pub returns : goal.returns
returns c =
    let e : c.loop-digit.value ≡ decimal c.args.digits.now = decimal_ends c.loop-digit.value c.loop-digit.digit-index c.args.digits.now c.loop-digit-test.false c.loop-digit.invariant.value in
    (rw (← e) c.loop-digit.invariant.fits, e)
