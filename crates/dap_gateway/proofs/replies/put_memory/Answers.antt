use Rattle.std.proofs.Common.{◌∙◌, false}
use Rattle.dap_gateway.proofs.Sending.{memory-reply, puts-as}
use Rattle.dap_gateway.proofs.replies.put_memory.Goals as goal

pub returns-clause-puts : goal.returns-clause-puts
returns-clause-puts g c = puts-as _ _ 503 false _ _ c.put_whole.result (c.memory_reply.ensures ∙ memory-reply c.args.head_alone) c.put_whole.ensures.puts
