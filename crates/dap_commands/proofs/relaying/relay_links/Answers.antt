use Rattle.std.proofs.Common.{◌∙◌, arith}
use Rattle.dap_commands.proofs.Gateways.{came-for, loop-all, loop-none, loop-part, loop-step}
use Rattle.dap_commands.proofs.relaying.relay_links.Goals as goal

pub returns-in-Err-put_line-clause-relayed : goal.returns-in-Err-put_line-clause-relayed
returns-in-Err-put_line-clause-relayed g c =
    let kept = c.loop-number.invariant in
    loop-part _ _ _ _ _ _ _ _ _ _ _ _ _ c.in-Ok.relayed c.loop-number-test.true kept.so_far (came-for _ _ _ _ _ _ _ kept.room _ _ _ _ _ _ _ c.in-Ok.ensures.relayed) c.in-Err-put_line.ensures.err

pub returns-in-Err-clause-relayed : goal.returns-in-Err-clause-relayed
returns-in-Err-clause-relayed g c =
    let kept = c.loop-number.invariant in
    loop-none _ _ _ _ _ _ _ _ _ _ _ c.loop-number-test.true kept.so_far c.in-Err.ensures.err.0 c.in-Err.ensures.err.1

pub loop-number-preserved : goal.loop-number-preserved
loop-number-preserved g c =
    let kept = c.loop-number.invariant in
    record {
      within = omega (arith, c.loop-number-test.true);
      so_far = loop-step _ _ _ _ _ _ _ _ _ _ _ _ _ c.in-Ok.relayed c.loop-number-test.true kept.so_far (came-for _ _ _ _ _ _ _ kept.room _ _ _ _ _ _ _ c.in-Ok.ensures.relayed) c.in-Ok.ensures.backed c.in-Ok-put_line.ensures.ok;
      room = c.in-Ok.ensures.room ∙ kept.room;
      listens = c.in-Ok.ensures.port ∙ kept.listens;
      beside = c.in-Ok-put_line.ensures.beside ∙ kept.beside;
      door_count = c.in-Ok.ensures.cause.kept ∙ kept.door_count;
      out_count = c.in-Ok-put_line.ensures.cause.kept ∙ kept.out_count;
    }

pub returns-clause-relayed : goal.returns-clause-relayed
returns-clause-relayed g c = loop-all _ _ _ _ _ _ _ c.loop-number-test.false c.loop-number.invariant.so_far
