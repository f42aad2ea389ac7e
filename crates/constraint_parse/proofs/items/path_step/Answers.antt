use Rattle.std.proofs.Common.{refl}
use Rattle.std.proofs.lemmas.Result.{err_from_is_err_and}
use Rattle.constraint_parse.specs.inner.Machine.{Naming, step_of}
use Rattle.constraint_parse.proofs.items.path_step.Goals as goal

pub returns-in_err-name-clause-spelled : goal.returns-in_err-name-clause-spelled
returns-in_err-name-clause-spelled c = λ items steps st.
    let p = err_from_is_err_and c.from_residual.result c.from_residual.ensures.1 in
    rw (p.1, p.2) (c.in_err-name.ensures.spelled (Naming items steps) tt st)

pub returns-in_err-slabs-clause-spelled : goal.returns-in_err-slabs-clause-spelled
returns-in_err-slabs-clause-spelled c = λ items steps st.
    let (n, vn, behind) = c.in_ok-name.ensures.spelled (Naming items steps) tt st in
    let p = err_from_is_err_and c.from_residual-in_err-slabs.result c.from_residual-in_err-slabs.ensures.1 in
    rw (p.1, p.2) (c.in_err-slabs.ensures.spelled items steps n (behind _ refl))

pub returns-clause-spelled : goal.returns-clause-spelled
returns-clause-spelled c = λ items steps st.
    let (n, vn, behind) = c.in_ok-name.ensures.spelled (Naming items steps) tt st in
    let (t, vt, stands) = c.in_ok-slabs.ensures.spelled items steps n (behind _ refl) in
    (step_of n t, rw (vn, vt) refl, stands)
