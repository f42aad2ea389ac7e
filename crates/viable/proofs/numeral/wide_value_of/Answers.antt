use Rattle.std.proofs.Common.{◌≡◌, ◌<◌, ◌^◌, ◌∙◌, arith}
use Rattle.std.specs.Str.Parse.{digits_value}
use Rattle.viable.specs.Numerals.{decimal}
use Rattle.viable.proofs.Decimals.{decimal_is}
use Rattle.viable.proofs.Digits.{value_below}
use Rattle.viable.proofs.numeral.wide_value_of.Goals as goal

pub unreachable-requires : goal.unreachable-requires
unreachable-requires c =
    let is : decimal c.args.digits.now ≡ digits_value 10 c.args.digits.now = decimal_is c.args.digits.now c.requires.0 in
    let below : digits_value 10 c.args.digits.now < 10 ^ 20 = value_below c.args.digits.now 20 c.requires.0 c.requires.1 in
    c.in-None.ensures (omega (arith, is, below))

pub returns : goal.returns
returns c = c.in-Some.ensures.1 ∙ decimal_is c.args.digits.now c.requires.0
