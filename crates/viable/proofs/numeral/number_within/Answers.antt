use Rattle.std.proofs.Common.{arith, sym, ◌∙◌, ◌≡◌, ◌+◌, length, get_or, take, true, false, inl, inr, refl}
use Rattle.std.specs.Prelude.{◌==◌}
use Rattle.std.specs.Char.{is_ascii_digit}
use Rattle.std.proofs.lemmas.Bool.Decides.{nat_tests}
use Rattle.std.proofs.lemmas.Int.Digits.{digits_value_more}
use Rattle.std.proofs.lemmas.List.{take_all}
use Rattle.std.proofs.lemmas.List.Folds.{list_all_at, list_all_more}
use Rattle.viable.proofs.Digits.{digit_is, front_le}
use Rattle.viable.proofs.Runs.{run_of_none, run_of_some}
use Rattle.viable.proofs.numeral.number_within.Goals as goal

pub returns-then-is_empty-clause-number : goal.returns-then-is_empty-clause-number
returns-then-is_empty-clause-number c = inl (run_of_none is_ascii_digit c.args.digits.now (grind (arith, nat_tests, c.is_empty.ensures, c.if-is_empty.true)))

pub returns-then-not-is_ascii_digit-clause-number : goal.returns-then-not-is_ascii_digit-clause-number
returns-then-not-is_ascii_digit-clause-number c =
    let bad : is_ascii_digit (get_or c.args.digits.now c.loop-digit.digit-index 0) ≡ false = sym c.is_ascii_digit.ensures.value ∙ c.if-not-is_ascii_digit.true in
    let some : (length c.args.digits.now == 0) ≡ false = grind (arith, nat_tests, c.is_empty.ensures, c.if-is_empty.false) in
    inl (run_of_some is_ascii_digit c.args.digits.now some ∙ list_all_at is_ascii_digit c.args.digits.now c.loop-digit.digit-index 0 c.loop-digit-test.true bad)

pub returns-then-value-most-clause-number : goal.returns-then-value-most-clause-number
returns-then-value-most-clause-number c =
    let good : is_ascii_digit (get_or c.args.digits.now c.loop-digit.digit-index 0) ≡ true = sym c.is_ascii_digit.ensures.value ∙ c.if-not-is_ascii_digit.false in
    let digit = digit_is (get_or c.args.digits.now c.loop-digit.digit-index 0) good in
    let next = digits_value_more 10 c.args.digits.now c.loop-digit.digit-index c.loop-digit-test.true in
    inr (omega (arith, next, digit.0, c.from.ensures, c.loop-digit.invariant.value, front_le c.args.digits.now (c.loop-digit.digit-index + 1), c.if-value-most.true))

pub loop-digit-preserved : goal.loop-digit-preserved
loop-digit-preserved c =
    let more = list_all_more is_ascii_digit c.args.digits.now c.loop-digit.digit-index 0 c.loop-digit-test.true in
    let good : is_ascii_digit (get_or c.args.digits.now c.loop-digit.digit-index 0) ≡ true = sym c.is_ascii_digit.ensures.value ∙ c.if-not-is_ascii_digit.false in
    let digit = digit_is (get_or c.args.digits.now c.loop-digit.digit-index 0) good in
    let next = digits_value_more 10 c.args.digits.now c.loop-digit.digit-index c.loop-digit-test.true in
    record {
      digits = more ∙ rw (c.loop-digit.invariant.digits, good) refl;
      value = omega (arith, next, digit.0, c.from.ensures, c.loop-digit.invariant.value);
      bound = omega (arith, c.if-value-most.false);
    }

pub returns-clause-number : goal.returns-clause-number
returns-clause-number c =
    let whole : take c.loop-digit.digit-index c.args.digits.now ≡ c.args.digits.now = take_all c.loop-digit.digit-index c.args.digits.now (omega (arith, c.loop-digit-test.false)) in
    let some : (length c.args.digits.now == 0) ≡ false = grind (arith, nat_tests, c.is_empty.ensures, c.if-is_empty.false) in
    (run_of_some is_ascii_digit c.args.digits.now some ∙ rw whole at c.loop-digit.invariant.digits, rw whole at c.loop-digit.invariant.value)
