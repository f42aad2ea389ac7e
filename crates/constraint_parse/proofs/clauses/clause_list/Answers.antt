use Rattle.std.proofs.Common.{[], ◌∙◌}
use Rattle.std.proofs.lemmas.Result.{err_from_is_err_and}
use Rattle.constraint_parse.specs.inner.Machine.{with_last}
use Rattle.constraint_parse.specs.Values.{clause_value}
use Rattle.constraint_parse.proofs.Moves.{clausal_ampersand}
use Rattle.constraint_parse.proofs.Lists.{map_with_last}
use Rattle.constraint_parse.proofs.clauses.clause_list.Goals as goal

pub ampersands-init : goal.ampersands-init
ampersands-init c = record { place = c.requires; spelled = λ items st. ([], c.new-clauses.ensures, st) }

pub returns-in_err-clause-clause-spelled : goal.returns-in_err-clause-clause-spelled
returns-in_err-clause-clause-spelled c = λ items st.
    let (t, vt, stands) = c.ampersands.invariant.spelled items st in
    let p = err_from_is_err_and c.from_residual.result c.from_residual.ensures.1 in
    rw (p.1, p.2) (c.in_err-clause.ensures.spelled items t (c.skip_blanks.ensures.stands _ (clausal_ampersand stands c.ampersands-test.ensures.0 c.ampersands-test.ensures.1)))

pub ampersands-preserved : goal.ampersands-preserved
ampersands-preserved c = record {
  place = c.in_ok-clause.ensures.onward.1;
  spelled = λ items st.
      let (t, vt, stands) = c.ampersands.invariant.spelled items st in
      let (one, v1, stands1) = c.in_ok-clause.ensures.spelled items t (c.skip_blanks.ensures.stands _ (clausal_ampersand stands c.ampersands-test.ensures.0 c.ampersands-test.ensures.1)) in
      (with_last t one, c.in_ok-push.ensures.ok ∙ map_with_last clause_value _ _ t one vt v1, stands1);
}
