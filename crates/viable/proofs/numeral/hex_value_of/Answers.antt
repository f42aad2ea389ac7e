use Rattle.std.proofs.Common.{arith, ◌≤◌, ◌<◌, ◌^◌}
use Rattle.std.proofs.Math.Nat.{pow-le-pow_right}
use Rattle.std.proofs.lemmas.Int.Digits.{digits_value_more}
use Rattle.viable.proofs.Digits.{hex_more}
use Rattle.viable.proofs.numeral.hex_value_of.Goals as goal

pub overflow_mul-value : goal.overflow_mul-value
overflow_mul-value c =
    let some : 0 < 16 = omega arith in
    let few : c.loop-digit.digit-index ≤ 15 = omega (arith, c.requires.few, c.loop-digit-test.true) in
    let most : 16 ^ c.loop-digit.digit-index ≤ 16 ^ 15 = pow-le-pow_right some few in
    omega (arith, most, c.loop-digit.invariant.bound)

pub overflow_add-value : goal.overflow_add-value
overflow_add-value c =
    let some : 0 < 16 = omega arith in
    let few : c.loop-digit.digit-index ≤ 15 = omega (arith, c.requires.few, c.loop-digit-test.true) in
    let most : 16 ^ c.loop-digit.digit-index ≤ 16 ^ 15 = pow-le-pow_right some few in
    omega (arith, most, c.loop-digit.invariant.bound, c.value_of_hex_digit.ensures.small, c.from.ensures)

pub loop-digit-preserved : goal.loop-digit-preserved
loop-digit-preserved c =
    let more = digits_value_more 16 c.args.digits.now c.loop-digit.digit-index c.loop-digit-test.true in
    record {
      value = omega (arith, more, c.loop-digit.invariant.value, c.value_of_hex_digit.ensures.value, c.from.ensures);
      bound = hex_more c.loop-digit.value c.from.result c.loop-digit.digit-index c.loop-digit.invariant.bound (omega (arith, c.value_of_hex_digit.ensures.small, c.from.ensures));
    }
