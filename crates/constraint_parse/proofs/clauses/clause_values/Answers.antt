use Rattle.std.proofs.Common.{[], ap, sym, ◌∙◌, inr}
use Rattle.std.proofs.lemmas.Result.{err_from_is_err_and}
use Rattle.constraint_parse.specs.Language.{among, compare}
use Rattle.constraint_parse.specs.inner.Machine.{Compared, with_last}
use Rattle.constraint_parse.specs.Values.{value_constant, compared_value}
use Rattle.constraint_parse.proofs.Moves.{compared_open}
use Rattle.constraint_parse.proofs.Words.{compared_behind}
use Rattle.constraint_parse.proofs.Lists.{map_with_last}
use Rattle.constraint_parse.proofs.clauses.clause_values.Goals as goal

pub returns-in_err-values-clause-spelled : goal.returns-in_err-values-clause-spelled
returns-in_err-values-clause-spelled c = λ items clauses labels n o st.
    let q = err_from_is_err_and c.from_residual.result c.from_residual.ensures.1 in
    rw (q.1, q.2) (c.in_err-values.ensures.spelled items clauses labels n o (c.skip_blanks.ensures.stands _ (compared_open st c.if-is_at.ensures.0 c.if-is_at.ensures.1)))

pub returns-then-is_at-clause-spelled : goal.returns-then-is_at-clause-spelled
returns-then-is_at-clause-spelled c = λ items clauses labels n o st.
    let (front, v, vs, stands) = c.in_ok-values.ensures.spelled items clauses labels n o (c.skip_blanks.ensures.stands _ (compared_open st c.if-is_at.ensures.0 c.if-is_at.ensures.1)) in
    (among labels n o front v, ap (compared_value (with_last labels n) o) (sym vs), stands)

pub returns-in_err-value-clause-spelled : goal.returns-in_err-value-clause-spelled
returns-in_err-value-clause-spelled c = λ items clauses labels n o st.
    let q = err_from_is_err_and c.from_residual-in_err-value.result c.from_residual-in_err-value.ensures.1 in
    rw (q.1, q.2) (c.in_err-value.ensures.spelled (Compared items clauses labels n o) tt (inr c.if-is_at.ensures) st)

pub returns-clause-spelled : goal.returns-clause-spelled
returns-clause-spelled c = λ items clauses labels n o st.
    let (v, vv, behind) = c.in_ok-value.ensures.spelled (Compared items clauses labels n o) tt (inr c.if-is_at.ensures) st in
    (compare labels n o v, ap (compared_value (with_last labels n) o) (sym (c.in_ok-push.ensures.ok ∙ map_with_last value_constant _ _ [] v c.new-values.ensures vv)), compared_behind c.args.text.now _ items clauses labels n o v behind)
