use Rattle.std.proofs.Common.{◌∙◌, subst}
use Rattle.dap_commands.specs.Lines.{IsSaid}
use Rattle.dap_commands.proofs.Pieces.{line-pieces}
use Rattle.dap_commands.proofs.lines.say_bad_reply.Goals as goal

pub returns-clause-said : goal.returns-clause-said
returns-clause-said g c =
    subst (λ l. IsSaid l (g.E.Sink.put_faults c.args.err.now) (g.E.Sink.put_faults c.say.new.err) (g.E.Sink.written c.args.err.now) (g.E.Sink.written c.say.new.err))
    (line-pieces c.args.bad c.as_bytes-name.result.now c.as_bytes-place.result.now (c.as_bytes-name.ensures.value ∙ c.name.ensures) (c.as_bytes-place.ensures.value ∙ c.format.ensures.text))
    c.say.ensures.said
