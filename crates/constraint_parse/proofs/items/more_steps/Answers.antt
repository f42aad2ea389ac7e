use Rattle.std.proofs.Common.{[], ◌∙◌, arith}
use Rattle.std.proofs.lemmas.Result.{err_from_is_err_and}
use Rattle.constraint_parse.specs.inner.Machine.{with_last}
use Rattle.constraint_parse.specs.Values.{step_value}
use Rattle.constraint_parse.proofs.Moves.{stepped_dot}
use Rattle.constraint_parse.proofs.Lists.{map_with_last, not_empty}
use Rattle.constraint_parse.proofs.items.more_steps.Goals as goal

pub dots-init : goal.dots-init
dots-init c = record {
  further = omega arith;
  place = c.requires;
  no_slab = λ h. h;
  spelled = λ items t vt call st. ([], t, c.in_ok-push.ensures.ok ∙ map_with_last step_value _ _ [] t c.new-steps.ensures vt, call, st);
}

pub returns-in_err-step-clause-spelled : goal.returns-in_err-step-clause-spelled
returns-in_err-step-clause-spelled c = λ items t vt call st.
    let (front, last, vs, call', stands) = c.dots.invariant.spelled items t vt call st in
    let p = err_from_is_err_and c.from_residual-in_err-step.result c.from_residual-in_err-step.ensures.1 in
    rw (p.1, p.2) (c.in_err-step.ensures.spelled items (with_last front last) (c.skip_blanks.ensures.stands _ (stepped_dot stands c.dots-test.ensures.0 c.dots-test.ensures.1)))

pub dots-preserved : goal.dots-preserved
dots-preserved c = record {
  further = omega (arith, c.in_ok-step.ensures.onward.0, c.skip_blanks.ensures.onward, c.dots.invariant.further);
  place = c.in_ok-step.ensures.onward.1;
  no_slab = λ h. c.in_ok-step.ensures.no_slab;
  spelled = λ items t vt call st.
      let (front, last, vs, call', stands) = c.dots.invariant.spelled items t vt call st in
      let (one, v1, stands1) = c.in_ok-step.ensures.spelled items (with_last front last) (c.skip_blanks.ensures.stands _ (stepped_dot stands c.dots-test.ensures.0 c.dots-test.ensures.1)) in
      (with_last front last, one, c.in_ok-push-2.ensures.ok ∙ map_with_last step_value _ _ (with_last front last) one vs v1, (λ m. absurd (not_empty front last m.0)), stands1);
}
