use Rattle.std.proofs.Common.{[], ◌∙◌}
use Rattle.std.proofs.lemmas.Result.{err_from_is_err_and}
use Rattle.constraint_parse.specs.inner.Machine.{with_last}
use Rattle.constraint_parse.specs.Values.{item_value}
use Rattle.constraint_parse.proofs.Ends.{after_comma}
use Rattle.constraint_parse.proofs.Lists.{map_with_last}
use Rattle.constraint_parse.proofs.items.item_list.Goals as goal

pub returns-in_err-first-clause-spelled : goal.returns-in_err-first-clause-spelled
returns-in_err-first-clause-spelled c = λ st.
    let p = err_from_is_err_and c.from_residual.result c.from_residual.ensures.1 in
    rw (p.1, p.2) (c.in_err-first.ensures.spelled [] st)

pub commas-init : goal.commas-init
commas-init c = record {
  place = c.in_ok-first.ensures.onward.1;
  spelled = λ st. let (t, vt, after) = c.in_ok-first.ensures.spelled [] st in
      ([], t, c.in_ok-push.ensures.ok ∙ map_with_last item_value _ _ [] t c.new-items.ensures vt, after);
}

pub returns-in_err-item-clause-spelled : goal.returns-in_err-item-clause-spelled
returns-in_err-item-clause-spelled c = λ st.
    let (front, last, vs, after) = c.commas.invariant.spelled st in
    let p = err_from_is_err_and c.from_residual-in_err-item.result c.from_residual-in_err-item.ensures.1 in
    rw (p.1, p.2) (c.in_err-item.ensures.spelled (with_last front last) (c.skip_blanks.ensures.stands _ (after_comma front last after c.commas-test.ensures.0 c.commas-test.ensures.1)))

pub commas-preserved : goal.commas-preserved
commas-preserved c = record {
  place = c.in_ok-item.ensures.onward.1;
  spelled = λ st.
      let (front, last, vs, after) = c.commas.invariant.spelled st in
      let (one, v1, after1) = c.in_ok-item.ensures.spelled (with_last front last) (c.skip_blanks.ensures.stands _ (after_comma front last after c.commas-test.ensures.0 c.commas-test.ensures.1)) in
      (with_last front last, one, c.in_ok-push-2.ensures.ok ∙ map_with_last item_value _ _ (with_last front last) one vs v1, after1);
}
