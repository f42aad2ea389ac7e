use Rattle.std.proofs.Common.{◌≡◌, ◌+◌, ◌++◌, ◌∷◌, [], None, refl, sym, ap, ◌∙◌, arith, subst, take, drop, take_all}
use Rattle.std.proofs.lemmas.List.{drop_all}
use Rattle.dap_types.specs.Model.{count}
use Rattle.netcdf_writer.specs.Causes.{first_cause, why}
use Rattle.netcdf_writer.specs.inner.Planned.{GoesOn, IsPlanned}
use Rattle.netcdf_writer.specs.inner.Tables.{top_view, top_views}
use Rattle.netcdf_writer.proofs.Listing.{counted, top_views_here, top_views_more}
use Rattle.netcdf_writer.proofs.Planning.{cause_behind, cause_here, cause_none, no_other_kind}
use Rattle.netcdf_writer.proofs.plan.planned.Goals as goal

pub loop-top-init : goal.loop-top-init
loop-top-init c = record { planned = c.new-plan.ensures (top_views c.args.tops.now); number = refl; cause = refl }

pub overflow_cast-result : goal.overflow_cast-result
overflow_cast-result c =
    let within = counted c.args.tops.now c.loop-top.top-index c.top-item.result c.loop-top-test.true c.top-item.is in
    omega (arith, within.1, c.loop-top.invariant.number, c.requires)

pub returns-in-Some : goal.returns-in-Some
returns-in-Some c =
    let all = top_views c.args.tops.now in
    let front = top_views (take c.loop-top.top-index c.args.tops.now) in
    let step = c.in_ok-why.ensures all front c.in_ok-names.ensures c.loop-top.invariant.planned in
    c.loop-top.invariant.cause ∙ cause_here all front c.loop-top.number (top_view c.top-item.result) (top_views (drop (c.loop-top.top-index + 1) c.args.tops.now)) _ c.in-Some.why
    (top_views_here c.args.tops.now c.loop-top.top-index c.top-item.result c.loop-top-test.true c.top-item.is) (sym c.in-Some.is ∙ step.0)

pub overflow_add-number : goal.overflow_add-number
overflow_add-number c =
    let all = top_views c.args.tops.now in
    let front = top_views (take c.loop-top.top-index c.args.tops.now) in
    let step = c.in_ok-why.ensures all front c.in_ok-names.ensures c.loop-top.invariant.planned in
    let same = c.count-number.ensures (no_other_kind all front (top_view c.top-item.result) (sym step.0 ∙ c.in_default.is)) in
    let within = counted c.args.tops.now c.loop-top.top-index c.top-item.result c.loop-top-test.true c.top-item.is in
    omega (arith, within.1, c.loop-top.invariant.number, c.requires, same)

pub loop-top-preserved : goal.loop-top-preserved
loop-top-preserved c =
    let all = top_views c.args.tops.now in
    let front = top_views (take c.loop-top.top-index c.args.tops.now) in
    let top = top_view c.top-item.result in
    let behind = top_views (drop (c.loop-top.top-index + 1) c.args.tops.now) in
    let step = c.in_ok-why.ensures all front c.in_ok-names.ensures c.loop-top.invariant.planned in
    let none : why all front top ≡ None = sym step.0 ∙ c.in_default.is in
    let same = c.count-number.ensures (no_other_kind all front top none) in
    let within = counted c.args.tops.now c.loop-top.top-index c.top-item.result c.loop-top-test.true c.top-item.is in
    let more = top_views_more c.args.tops.now c.loop-top.top-index c.top-item.result c.loop-top-test.true c.top-item.is in
    record {
      planned = subst (IsPlanned c.add.new.self all) (sym more) (subst (GoesOn c.add.new.self all (front ++ top ∷ [])) c.in_default.is step.1);
      number = omega (arith, within.0, c.loop-top.invariant.number, same);
      cause = c.loop-top.invariant.cause ∙ cause_behind all front c.loop-top.number top behind _ (top_views_here c.args.tops.now c.loop-top.top-index c.top-item.result c.loop-top-test.true c.top-item.is) (sym none)
          ∙ ap (λ l. first_cause all l (c.loop-top.number + count top.0) behind) (sym more) ∙ ap (λ n. first_cause all (top_views (take (c.loop-top.top-index + 1) c.args.tops.now)) (c.loop-top.number + n) behind) (sym same);
    }

pub returns : goal.returns
returns c =
    let all = top_views c.args.tops.now in
    let whole = ap top_views (take_all c.loop-top.top-index c.args.tops.now c.loop-top-test.false) in
    let rest = ap top_views (drop_all c.loop-top.top-index c.args.tops.now c.loop-top-test.false) in (
      c.loop-top.invariant.cause ∙ ap (first_cause all (top_views (take c.loop-top.top-index c.args.tops.now)) c.loop-top.number) rest ∙ cause_none all (top_views (take c.loop-top.top-index c.args.tops.now)) c.loop-top.number,
      subst (IsPlanned c.loop-top.plan all) whole c.loop-top.invariant.planned,
    )
