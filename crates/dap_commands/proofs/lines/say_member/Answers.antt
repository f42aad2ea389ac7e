use Rattle.std.proofs.Common.{List, ℕ, ◌∙◌, subst}
use Rattle.dap_commands.specs.Lines.{IsSaid}
use Rattle.dap_commands.specs.Save.{reason_line}
use Rattle.dap_commands.proofs.lines.say_member.Goals as goal

pub returns-clause-said : goal.returns-clause-said
returns-clause-said g c =
    subst (λ (l : List ℕ). IsSaid (reason_line c.args.member.now l) (g.E.Sink.put_faults c.args.err.now) (g.E.Sink.put_faults c.say_reason.new.err) (g.E.Sink.written c.args.err.now) (g.E.Sink.written c.say_reason.new.err))
    (c.as_bytes.ensures.value ∙ c.why_text.ensures) c.say_reason.ensures.said
