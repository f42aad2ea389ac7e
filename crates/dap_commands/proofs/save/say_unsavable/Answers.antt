use Rattle.std.proofs.Common.{List, ℕ, ◌∙◌, subst}
use Rattle.dap_commands.specs.Lines.{IsSaid}
use Rattle.dap_commands.specs.Save.{member_line}
use Rattle.dap_commands.proofs.save.say_unsavable.Goals as goal

pub returns-clause-said : goal.returns-clause-said
returns-clause-said g c =
    subst (λ (l : List ℕ). IsSaid (member_line l c.args.why) (g.E.Sink.put_faults c.args.err.now) (g.E.Sink.put_faults c.say_member.new.err) (g.E.Sink.written c.args.err.now) (g.E.Sink.written c.say_member.new.err))
    (c.as_bytes.ensures.value ∙ c.format.ensures.text) c.say_member.ensures.said
