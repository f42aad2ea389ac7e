use Rattle.std.proofs.Common.{[], ◌∙◌, arith, inl}
use Rattle.std.proofs.lemmas.Result.{err_from_is_err_and}
use Rattle.constraint_parse.specs.inner.Machine.{Bracing, with_last}
use Rattle.constraint_parse.specs.Values.{value_constant}
use Rattle.constraint_parse.proofs.Moves.{braced_comma, braced_close}
use Rattle.constraint_parse.proofs.Words.{bracing_behind, braced_faults}
use Rattle.constraint_parse.proofs.Lists.{map_with_last}
use Rattle.constraint_parse.proofs.clauses.braced_values.Goals as goal

pub commas-init : goal.commas-init
commas-init c = record { further = omega arith; place = c.requires; spelled = λ items clauses labels n o st. ([], c.new-values.ensures, st) }

pub returns-in_err-value-clause-spelled : goal.returns-in_err-value-clause-spelled
returns-in_err-value-clause-spelled c = λ items clauses labels n o st.
    let (front, vf, stands) = c.commas.invariant.spelled items clauses labels n o st in
    let q = err_from_is_err_and c.from_residual.result c.from_residual.ensures.1 in
    rw (q.1, q.2) (c.in_err-value.ensures.spelled (Bracing items clauses labels n o front) tt (inl tt) stands)

pub returns-then-is_at-clause-spelled : goal.returns-then-is_at-clause-spelled
returns-then-is_at-clause-spelled c = λ items clauses labels n o st.
    let (front, vf, stands) = c.commas.invariant.spelled items clauses labels n o st in
    let (v, vv, behind) = c.in_ok-value.ensures.spelled (Bracing items clauses labels n o front) tt (inl tt) stands in
    (front, v, c.in_ok-push.ensures.ok ∙ map_with_last value_constant _ _ front v vf vv, c.skip_blanks.ensures.stands _ (braced_close (bracing_behind c.args.text.now _ items clauses labels n o front v behind) c.if-is_at.ensures.0 c.if-is_at.ensures.1))

pub returns-then-not-is_at-clause-spelled : goal.returns-then-not-is_at-clause-spelled
returns-then-not-is_at-clause-spelled c = λ items clauses labels n o st.
    let (front, vf, stands) = c.commas.invariant.spelled items clauses labels n o st in
    let (v, vv, behind) = c.in_ok-value.ensures.spelled (Bracing items clauses labels n o front) tt (inl tt) stands in
    rw c.at.ensures (braced_faults (bracing_behind c.args.text.now _ items clauses labels n o front v behind) c.in_ok-value.ensures.onward.1 c.if-not-is_at.ensures c.if-is_at.ensures)

pub commas-preserved : goal.commas-preserved
commas-preserved c = record {
  further = omega (arith, c.in_ok-value.ensures.onward.0, c.skip_blanks-at.ensures.onward, c.commas.invariant.further);
  place = c.skip_blanks-at.ensures.place;
  spelled = λ items clauses labels n o st.
      let (front, vf, stands) = c.commas.invariant.spelled items clauses labels n o st in
      let (v, vv, behind) = c.in_ok-value.ensures.spelled (Bracing items clauses labels n o front) tt (inl tt) stands in
      (with_last front v, c.in_ok-push.ensures.ok ∙ map_with_last value_constant _ _ front v vf vv, c.skip_blanks-at.ensures.stands _ (braced_comma (bracing_behind c.args.text.now _ items clauses labels n o front v behind) c.if-not-is_at.ensures.0 c.if-not-is_at.ensures.1));
}
