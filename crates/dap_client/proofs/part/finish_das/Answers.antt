use Rattle.std.proofs.Common.{◌∙◌}
use Rattle.dap_client.proofs.TextBodies.{das_finished, no_memory, nothing_gained}
use Rattle.dap_client.specs.declared.outcome.Outcome.TheVariants as outcome
use Rattle.dap_client.proofs.part.finish_das.Goals as goal

pub returns-in-Ok-clause-finished : goal.returns-in-Ok-clause-finished
returns-in-Ok-clause-finished g c form bytes long small text e =
    das_finished form bytes c.bytes.result.now c.args.attributes c.args.taken _ _ c.put_text.result long small e (c.bytes.ensures ∙ c.in-Ok.ensures.text) c.put_text.ensures.put

pub returns-clause-finished : goal.returns-clause-finished
returns-clause-finished g c form bytes long small text e = nothing_gained form bytes _ outcome.Memory (no_memory form bytes text)
