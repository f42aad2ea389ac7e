use Rattle.std.proofs.Common.{Err, true, refl, ◌∙◌}
use Rattle.dap_errors.specs.declared.cause.Cause.TheVariants.{OutOfMemory}
use Rattle.dap_server.specs.inner.Serving.{request_in}
use Rattle.dap_server.proofs.Replying.{memory-last, memory-reply, reply-put}
use Rattle.dap_server.proofs.answer.put_memory.Goals as goal

pub returns-clause-puts : goal.returns-clause-puts
returns-clause-puts g c =
    let q = request_in c.args.head.now c.args.ends in
    reply-put q (Err OutOfMemory) _ 503 true _ _ c.put_reply.result (c.memory_reply.ensures ∙ memory-reply q c.is_head.result (c.is_head.ensures c.args.ends)) refl (memory-last q) c.put_reply.ensures.puts
