use Rattle.std.proofs.Common.{refl, ◌∙◌, inl, inr}
use Rattle.dap_errors.specs.declared.cause.Cause.TheVariants.{OutOfMemory}
use Rattle.dap_server.proofs.Requesting.{last-put, no-memory}
use Rattle.dap_server.proofs.connection.refuse.Goals as goal

pub returns-in-Ok-clause-puts : goal.returns-in-Ok-clause-puts
returns-in-Ok-clause-puts g c =
    (c.args.cause.now, inl refl, last-put _ _ _ _ _ _ _ _ c.put_last.result (c.bytes.ensures ∙ c.in-Ok.ensures) c.status.ensures c.put_last.ensures.puts)

pub returns-in-Err-clause-puts : goal.returns-in-Err-clause-puts
returns-in-Err-clause-puts g c =
    (OutOfMemory, inr refl, last-put _ _ 503 _ _ _ _ _ c.put_last-in-Err.result (c.memory_reply.ensures ∙ no-memory) refl c.put_last-in-Err.ensures.puts)
