use Rattle.std.proofs.Common.{◌∙◌, ap, arith}
use Rattle.dap_commands.proofs.Visiting.{loop-all, loop-none, loop-part, loop-step}
use Rattle.dap_commands.proofs.serving.serve_links.Goals as goal

pub returns-in-Err-put_line-clause-served : goal.returns-in-Err-put_line-clause-served
returns-in-Err-put_line-clause-served g c =
    let kept = c.loop-number.invariant in
    loop-part _ _ _ _ _ _ _ _ _ _ _ _ _ _ c.in-Ok.served kept.files c.loop-number-test.true kept.so_far c.in-Ok.ensures.served c.in-Ok.ensures.later c.in-Err-put_line.ensures.err

pub returns-in-Err-clause-served : goal.returns-in-Err-clause-served
returns-in-Err-clause-served g c =
    let kept = c.loop-number.invariant in
    loop-none _ _ _ _ _ _ _ _ _ _ _ _ c.loop-number-test.true kept.so_far c.in-Err.ensures.err.0 (ap g.S.Shelf.faults c.in-Err.ensures.err.1) (ap g.S.Shelf.asked c.in-Err.ensures.err.1)

pub loop-number-preserved : goal.loop-number-preserved
loop-number-preserved g c =
    let kept = c.loop-number.invariant in
    record {
      within = omega (arith, c.loop-number-test.true);
      so_far = loop-step _ _ _ _ _ _ _ _ _ _ _ _ _ _ c.in-Ok.served kept.files c.loop-number-test.true kept.so_far c.in-Ok.ensures.served c.in-Ok.ensures.later c.in-Ok-put_line.ensures.ok;
      listens = c.in-Ok.ensures.port ∙ kept.listens;
      files = c.in-Ok.ensures.files ∙ kept.files;
      beside = c.in-Ok-put_line.ensures.beside ∙ kept.beside;
      door_count = c.in-Ok.ensures.cause.kept ∙ kept.door_count;
      out_count = c.in-Ok-put_line.ensures.cause.kept ∙ kept.out_count;
    }

pub returns-clause-served : goal.returns-clause-served
returns-clause-served g c = loop-all _ _ _ _ _ _ c.loop-number-test.false c.loop-number.invariant.so_far
