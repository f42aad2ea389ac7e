use Rattle.std.proofs.Common.{◌≤◌, arith, length}
use Rattle.std.proofs.lemmas.Result.{err_from_is_err_and}
use Rattle.constraint_parse.specs.Language.{no_items, some_items}
use Rattle.constraint_parse.proofs.Ends.{start_naming, start_clausal, after_clausal}
use Rattle.constraint_parse.proofs.items.first_items.Goals as goal

pub returns-then-at-text-clause-spelled : goal.returns-then-at-text-clause-spelled
returns-then-at-text-clause-spelled c = λ st. (no_items, c.new.ensures, start_clausal st c.requires (λ h. absurd (omega arith)))

pub returns-then-is_at-clause-spelled : goal.returns-then-is_at-clause-spelled
returns-then-is_at-clause-spelled c = λ st. (no_items, c.new-then-is_at.ensures, start_clausal st c.requires (λ h. c.if-is_at.ensures.1))

pub returns-in_err-items-clause-spelled : goal.returns-in_err-items-clause-spelled
returns-in_err-items-clause-spelled c = λ st.
    let within : c.args.at ≤ length c.args.text.now = c.requires.within in
    let p = err_from_is_err_and c.from_residual.result c.from_residual.ensures.1 in
    rw (p.1, p.2) (c.in_err-items.ensures.spelled (start_naming st c.requires (omega arith) c.if-is_at.ensures))

pub returns-clause-spelled : goal.returns-clause-spelled
returns-clause-spelled c = λ st.
    let within : c.args.at ≤ length c.args.text.now = c.requires.within in
    let (front, last, vs, after) = c.in_ok-items.ensures.spelled (start_naming st c.requires (omega arith) c.if-is_at.ensures) in
    (some_items front last, vs, after_clausal front last after c.in_ok-items.ensures.onward c.in_ok-items.ensures.no_item)
