use Rattle.std.proofs.Common.{Err, refl, ◌∙◌, inl, inr}
use Rattle.dap_errors.specs.declared.cause.Cause.TheVariants.{OutOfMemory}
use Rattle.dap_server.specs.inner.Serving.{request_in}
use Rattle.dap_server.proofs.Replying.{cause-reply, reply-put}
use Rattle.dap_server.proofs.answer.put_cause.Goals as goal

pub returns-in-Ok-clause-puts : goal.returns-in-Ok-clause-puts
returns-in-Ok-clause-puts g c =
    let q = request_in c.args.head.now c.args.ends in (
      c.args.cause.now,
      inl refl,
      reply-put q (Err c.args.cause.now) _ _ _ _ _ c.put_reply.result
          (c.bytes.ensures ∙ cause-reply q c.args.cause.now c.is_last-last.result c.is_head.result c.in-Ok.text c.is_last-last.ensures (c.is_head.ensures c.args.ends) c.in-Ok.ensures)
          c.status.ensures c.is_last-last.ensures c.put_reply.ensures.puts,
    )

pub returns-in-Err-clause-puts : goal.returns-in-Err-clause-puts
returns-in-Err-clause-puts g c = (OutOfMemory, inr refl, c.put_memory.ensures.puts)
