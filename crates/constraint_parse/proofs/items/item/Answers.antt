use Rattle.std.proofs.Common.{List, [], ◌≡◌, ap, sym, ◌∙◌, subst, refl, map}
use Rattle.std.proofs.lemmas.Result.{err_from_is_err_and}
use Rattle.constraint_parse.specs.Language.{SlabTree, path, call}
use Rattle.constraint_parse.specs.inner.Machine.{Stepped}
use Rattle.constraint_parse.specs.inner.Standing.{StandsAt}
use Rattle.constraint_parse.specs.Values.{slab_value}
use Rattle.constraint_parse.specs.declared.constraint.Step.{Step}
use Rattle.constraint_parse.specs.declared.constraint.Item.TheVariants.{Path}
use Rattle.constraint_parse.proofs.Lists.{map_is_nil}
use Rattle.constraint_parse.proofs.items.item.Goals as goal

pub returns-in_err-first-clause-spelled : goal.returns-in_err-first-clause-spelled
returns-in_err-first-clause-spelled c = λ items st.
    let p = err_from_is_err_and c.from_residual.result c.from_residual.ensures.1 in
    rw (p.1, p.2) (c.in_err-first.ensures.spelled items [] st)

pub returns-in_err-behind-clause-spelled : goal.returns-in_err-behind-clause-spelled
returns-in_err-behind-clause-spelled c = λ items st.
    let (t, vt, stands) = c.in_ok-first.ensures.spelled items [] st in
    let no_slabs : t.slabs ≡ [] = map_is_nil slab_value t.slabs (sym (ap (λ (x : Step). x.slabs) vt) ∙ c.if-is_call.ensures.0) in
    let stands' = subst (λ (x : List SlabTree). StandsAt c.args.text.now c.in_ok-first.at (Stepped items [] t.label x)) no_slabs stands in
    let p = err_from_is_err_and c.from_residual-in_err-behind.result c.from_residual-in_err-behind.ensures.1 in
    rw (p.1, p.2) (c.in_err-behind.ensures.spelled (Stepped items [] t.label []) tt stands')

pub returns-then-is_call-clause-spelled : goal.returns-then-is_call-clause-spelled
returns-then-is_call-clause-spelled c = λ items st.
    let (t, vt, stands) = c.in_ok-first.ensures.spelled items [] st in
    let no_slabs : t.slabs ≡ [] = map_is_nil slab_value t.slabs (sym (ap (λ (x : Step). x.slabs) vt) ∙ c.if-is_call.ensures.0) in
    let stands' = subst (λ (x : List SlabTree). StandsAt c.args.text.now c.in_ok-first.at (Stepped items [] t.label x)) no_slabs stands in
    let (a, behind) = c.in_ok-behind.ensures.spelled (Stepped items [] t.label []) tt stands' in
    (call t.label a, refl, behind _ refl)

pub returns-in_err-steps-clause-spelled : goal.returns-in_err-steps-clause-spelled
returns-in_err-steps-clause-spelled c = λ items st.
    let (t, vt, stands) = c.in_ok-first.ensures.spelled items [] st in
    let p = err_from_is_err_and c.from_residual-in_err-steps.result c.from_residual-in_err-steps.ensures.1 in
    rw (p.1, p.2) (c.in_err-steps.ensures.spelled items t vt (λ m. c.if-is_call.ensures (ap (λ (x : Step). x.slabs) vt ∙ ap (map slab_value) m.1)) stands)

pub returns-clause-spelled : goal.returns-clause-spelled
returns-clause-spelled c = λ items st.
    let (t, vt, stands) = c.in_ok-first.ensures.spelled items [] st in
    let (front, last, vs, may, stands') = c.in_ok-steps.ensures.spelled items t vt (λ m. c.if-is_call.ensures (ap (λ (x : Step). x.slabs) vt ∙ ap (map slab_value) m.1)) stands in
    (path front last, ap Path vs, (stands', c.in_ok-steps.ensures.no_slab c.in_ok-first.ensures.no_slab, c.in_ok-steps.ensures.no_step, may))
