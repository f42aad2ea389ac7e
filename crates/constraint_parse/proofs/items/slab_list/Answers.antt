use Rattle.std.proofs.Common.{[], ◌∙◌, arith}
use Rattle.std.proofs.lemmas.Result.{err_from_is_err_and}
use Rattle.constraint_parse.specs.inner.Machine.{with_last}
use Rattle.constraint_parse.specs.Values.{slab_value}
use Rattle.constraint_parse.proofs.Moves.{stepped_open}
use Rattle.constraint_parse.proofs.Lists.{map_with_last}
use Rattle.constraint_parse.proofs.items.slab_list.Goals as goal

pub loop-slabs-init : goal.loop-slabs-init
loop-slabs-init c = record {
  further = omega arith;
  place = c.requires;
  spelled = λ items steps n st. ([], c.new-slabs.ensures, st);
}

pub returns-in_err-slab-clause-spelled : goal.returns-in_err-slab-clause-spelled
returns-in_err-slab-clause-spelled c = λ items steps n st.
    let (t, vt, stands) = c.loop-slabs.invariant.spelled items steps n st in
    let p = err_from_is_err_and c.from_residual.result c.from_residual.ensures.1 in
    rw (p.1, p.2) (c.in_err-slab.ensures.spelled items steps n t (c.skip_blanks.ensures.stands _ (stepped_open stands c.loop-slabs-test.ensures.0 c.loop-slabs-test.ensures.1)))

pub loop-slabs-preserved : goal.loop-slabs-preserved
loop-slabs-preserved c = record {
  further = omega (arith, c.in_ok-slab.ensures.onward.0, c.skip_blanks.ensures.onward, c.loop-slabs.invariant.further);
  place = c.in_ok-slab.ensures.onward.1;
  spelled = λ items steps n st.
      let (t, vt, stands) = c.loop-slabs.invariant.spelled items steps n st in
      let (one, v1, stands1) = c.in_ok-slab.ensures.spelled items steps n t (c.skip_blanks.ensures.stands _ (stepped_open stands c.loop-slabs-test.ensures.0 c.loop-slabs-test.ensures.1)) in
      (with_last t one, c.in_ok-push.ensures.ok ∙ map_with_last slab_value _ _ t one vt v1, stands1);
}
