use Rattle.std.proofs.Common.{[], sym, ◌∙◌, refl}
use Rattle.std.proofs.lemmas.Result.{err_from_is_err_and}
use Rattle.constraint_parse.specs.Language.{call_clause}
use Rattle.constraint_parse.specs.inner.Machine.{ClauseNaming, ClauseNamed, with_last}
use Rattle.constraint_parse.proofs.Words.{comparison_is}
use Rattle.constraint_parse.proofs.clauses.clause.Goals as goal

pub returns-in_err-first-clause-spelled : goal.returns-in_err-first-clause-spelled
returns-in_err-first-clause-spelled c = λ items clauses st.
    let q = err_from_is_err_and c.from_residual.result c.from_residual.ensures.1 in
    rw (q.1, q.2) (c.in_err-first.ensures.spelled (ClauseNaming items clauses []) tt st)

pub returns-in_err-behind-clause-spelled : goal.returns-in_err-behind-clause-spelled
returns-in_err-behind-clause-spelled c = λ items clauses st.
    let (n, vn, named) = c.in_ok-first.ensures.spelled (ClauseNaming items clauses []) tt st in
    let q = err_from_is_err_and c.from_residual-in_err-behind.result c.from_residual-in_err-behind.ensures.1 in
    rw (q.1, q.2) (c.in_err-behind.ensures.spelled (ClauseNamed items clauses [] n) tt (named _ refl))

pub returns-then-is_at-clause-spelled : goal.returns-then-is_at-clause-spelled
returns-then-is_at-clause-spelled c = λ items clauses st.
    let (n, vn, named) = c.in_ok-first.ensures.spelled (ClauseNaming items clauses []) tt st in
    let (a, behind) = c.in_ok-behind.ensures.spelled (ClauseNamed items clauses [] n) tt (named _ refl) in
    (call_clause n a, refl, behind _ refl)

pub returns-in_err-path-clause-spelled : goal.returns-in_err-path-clause-spelled
returns-in_err-path-clause-spelled c = λ items clauses st.
    let (n, vn, named) = c.in_ok-first.ensures.spelled (ClauseNaming items clauses []) tt st in
    let q = err_from_is_err_and c.from_residual-in_err-path.result c.from_residual-in_err-path.ensures.1 in
    rw (q.1, q.2) (c.in_err-path.ensures.spelled items clauses n vn c.if-is_at.ensures (named _ refl))

pub returns-in_err-op-clause-spelled : goal.returns-in_err-op-clause-spelled
returns-in_err-op-clause-spelled c = λ items clauses st.
    let (n, vn, named) = c.in_ok-first.ensures.spelled (ClauseNaming items clauses []) tt st in
    let (front, last, vp, may, stands) = c.in_ok-path.ensures.spelled items clauses n vn c.if-is_at.ensures (named _ refl) in
    let q = err_from_is_err_and c.from_residual-in_err-op.result c.from_residual-in_err-op.ensures.1 in
    rw (q.1, q.2) (c.in_err-op.ensures.spelled items clauses front last stands c.in_ok-path.ensures.no_label may)

pub returns-in_err-values-clause-spelled : goal.returns-in_err-values-clause-spelled
returns-in_err-values-clause-spelled c = λ items clauses st.
    let (n, vn, named) = c.in_ok-first.ensures.spelled (ClauseNaming items clauses []) tt st in
    let (front, last, vp, may, stands) = c.in_ok-path.ensures.spelled items clauses n vn c.if-is_at.ensures (named _ refl) in
    let (o, vo, stands') = c.in_ok-op.ensures.spelled items clauses front last stands c.in_ok-path.ensures.no_label may in
    let q = err_from_is_err_and c.from_residual-in_err-values.result c.from_residual-in_err-values.ensures.1 in
    rw (q.1, q.2) (c.in_err-values.ensures.spelled items clauses front last o stands')

pub returns-clause-spelled : goal.returns-clause-spelled
returns-clause-spelled c = λ items clauses st.
    let (n, vn, named) = c.in_ok-first.ensures.spelled (ClauseNaming items clauses []) tt st in
    let (front, last, vp, may, stands) = c.in_ok-path.ensures.spelled items clauses n vn c.if-is_at.ensures (named _ refl) in
    let (o, vo, stands') = c.in_ok-op.ensures.spelled items clauses front last stands c.in_ok-path.ensures.no_label may in
    let (t, vt, stands'') = c.in_ok-values.ensures.spelled items clauses front last o stands' in
    (t, c.comparison.ensures ∙ rw (vp, vo) (comparison_is (with_last front last) o _) ∙ sym vt, stands'')
