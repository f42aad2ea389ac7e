use Rattle.std.proofs.Common.{◌≡◌, ◌<◌, ◌^◌, arith}
use Rattle.std.specs.Str.Parse.{digits_value}
use Rattle.viable.proofs.Digits.{value_below}
use Rattle.viable.proofs.numeral.value_of.Goals as goal

pub overflow_cast-result : goal.overflow_cast-result
overflow_cast-result c =
    let below : digits_value 10 c.args.digits.now < 10 ^ 19 = value_below c.args.digits.now 19 c.requires.0 c.requires.1 in
    let is : c.wide_value_of.result ≡ digits_value 10 c.args.digits.now = c.wide_value_of.ensures in
    omega (arith, is, below)

pub returns-clause-bound : goal.returns-clause-bound
returns-clause-bound c = λ most le. rw c.wide_value_of.ensures (value_below c.args.digits.now most c.requires.0 le)
