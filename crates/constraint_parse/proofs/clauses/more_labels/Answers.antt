use Rattle.std.proofs.Common.{[], ◌∙◌, arith, refl}
use Rattle.std.proofs.lemmas.Result.{err_from_is_err_and}
use Rattle.dap_types.specs.Names.{constraint_id}
use Rattle.constraint_parse.specs.inner.Machine.{ClauseNaming, with_last}
use Rattle.constraint_parse.proofs.Moves.{clause_named_dot}
use Rattle.constraint_parse.proofs.Lists.{map_with_last, not_empty}
use Rattle.constraint_parse.proofs.clauses.more_labels.Goals as goal

pub dots-init : goal.dots-init
dots-init c = record {
  further = omega arith;
  place = c.requires;
  spelled = λ items clauses n vn lacks st. ([], n, c.in_ok-push.ensures.ok ∙ map_with_last constraint_id _ _ [] n c.new-labels.ensures vn, (λ e. lacks), st);
}

pub returns-in_err-name-clause-spelled : goal.returns-in_err-name-clause-spelled
returns-in_err-name-clause-spelled c = λ items clauses n vn lacks st.
    let (front, last, vs, may, stands) = c.dots.invariant.spelled items clauses n vn lacks st in
    let p = err_from_is_err_and c.from_residual-in_err-name.result c.from_residual-in_err-name.ensures.1 in
    rw (p.1, p.2) (c.in_err-name.ensures.spelled (ClauseNaming items clauses (with_last front last)) tt (c.skip_blanks.ensures.stands _ (clause_named_dot stands c.dots-test.ensures.0 c.dots-test.ensures.1)))

pub dots-preserved : goal.dots-preserved
dots-preserved c = record {
  further = omega (arith, c.in_ok-name.ensures.onward.0, c.skip_blanks.ensures.onward, c.dots.invariant.further);
  place = c.in_ok-name.ensures.onward.1;
  spelled = λ items clauses n vn lacks st.
      let (front, last, vs, may, stands) = c.dots.invariant.spelled items clauses n vn lacks st in
      let (one, v1, behind) = c.in_ok-name.ensures.spelled (ClauseNaming items clauses (with_last front last)) tt (c.skip_blanks.ensures.stands _ (clause_named_dot stands c.dots-test.ensures.0 c.dots-test.ensures.1)) in
      (with_last front last, one, c.in_ok-push-2.ensures.ok ∙ map_with_last constraint_id _ _ (with_last front last) one vs v1, (λ e. absurd (not_empty front last e)), behind _ refl);
}
