use Rattle.std.proofs.Common.{arith, to_z, of_z, sym, ap, ◌∙◌, ◌≡◌, true, false}
use Rattle.std.proofs.lemmas.Int.{ints}
use Rattle.std.specs.Int.{w64}
use Rattle.csv_source.specs.Cells.{is_in, trimmed, without_end_spaces}
use Rattle.csv_source.proofs.Wholes.{whole-none, whole-some}
use Rattle.csv_source.proofs.numbers.whole.Goals as goal

pub returns-in_err-number : goal.returns-in_err-number
returns-in_err-number c =
    let text : c.without_end_spaces.result.now ≡ trimmed c.args.field.now = c.without_end_spaces.ensures ∙ ap without_end_spaces c.without_front_spaces.ensures in
    rw c.from_residual.ensures (whole-none c.args.base c.args.field.now c.without_end_spaces.result.now text c.in_err-number.ensures.number)

pub returns-then-is_in : goal.returns-then-is_in
returns-then-is_in c =
    let text : c.without_end_spaces.result.now ≡ trimmed c.args.field.now = c.without_end_spaces.ensures ∙ ap without_end_spaces c.without_front_spaces.ensures in
    let (good, is) = c.in_ok-number.ensures.number in
    let small = c.in_ok-number.ensures.small in
    let kept : to_z w64 (of_z w64 c.in_ok-number.number) ≡ c.in_ok-number.number = omega (arith, ints, small) in
    let fits : is_in c.args.base c.in_ok-number.number ≡ true = rw kept at (sym c.is_in.ensures) ∙ c.if-is_in.true in
    let some = whole-some c.args.base c.args.field.now c.without_end_spaces.result.now c.in_ok-number.number true text good is fits in
    (some.0, kept ∙ some.1)

pub returns-else-is_in : goal.returns-else-is_in
returns-else-is_in c =
    let text : c.without_end_spaces.result.now ≡ trimmed c.args.field.now = c.without_end_spaces.ensures ∙ ap without_end_spaces c.without_front_spaces.ensures in
    let (good, is) = c.in_ok-number.ensures.number in
    let small = c.in_ok-number.ensures.small in
    let kept : to_z w64 (of_z w64 c.in_ok-number.number) ≡ c.in_ok-number.number = omega (arith, ints, small) in
    let fits : is_in c.args.base c.in_ok-number.number ≡ false = rw kept at (sym c.is_in.ensures) ∙ c.if-is_in.false in
    (whole-some c.args.base c.args.field.now c.without_end_spaces.result.now c.in_ok-number.number false text good is fits).0
