use Rattle.std.proofs.Common.{◌∙◌, false, inl, inr}
use Rattle.dap_gateway.proofs.Sending.{puts-as, status-as}
use Rattle.dap_gateway.proofs.replies.put_cause.Goals as goal

pub returns-in-Ok-clause-puts : goal.returns-in-Ok-clause-puts
returns-in-Ok-clause-puts g c =
    inl (status-as _ _ _ false _ _ c.put_whole.result c.status.ensures (puts-as _ _ c.status.result false _ _ c.put_whole.result (c.bytes.ensures ∙ c.in-Ok.ensures) c.put_whole.ensures.puts))

pub returns-in-Err-clause-puts : goal.returns-in-Err-clause-puts
returns-in-Err-clause-puts g c = inr c.put_memory.ensures.puts
