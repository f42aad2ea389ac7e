use Rattle.std.proofs.Common.{sym, ◌∙◌}
use Rattle.dap_outside.proofs.Transfers.{part_within}
use Rattle.dap_outside.proofs.Passing.{front_as, front_second, passes_as, passes_two, puts_failed}
use Rattle.xdr_decode.proofs.Texts.{part-rest, shown-more, shown-parts}
use Rattle.xdr_decode.proofs.value_text.put_escaped.Goals as goal

pub returns-in_err-at-clause-puts : goal.returns-in_err-at-clause-puts
returns-in_err-at-clause-puts g c =
    let text = c.args.text.now in
    let at = c.loop-at.at in
    puts_failed c.from_residual.result _ _ _ _ _ c.from_residual.ensures.0
    (front_as _ _ _ _ _ (sym (shown-parts at text)) (front_second _ _ _ _ _ _ _ c.loop-at.invariant.passed (rw (part-rest at text) at c.in_err-at.ensures.err)))

pub loop-at-preserved : goal.loop-at-preserved
loop-at-preserved g c =
    let text = c.args.text.now in
    let at = c.loop-at.at in
    let kept = c.loop-at.invariant in
    let given = c.in_ok-at.ensures in
    record {
      within = part_within at _ _ text kept.within given.most;
      passed = passes_as _ _ _ _ _ _ (shown-more at c.in_ok-at.field-0 text) (passes_two _ _ _ _ _ _ _ _ kept.passed (rw (part-rest at text) at given.puts));
      count = given.cause.kept ∙ kept.count;
      beside = c.put_front.ensures.beside ∙ kept.beside;
    }
