use Rattle.std.proofs.Common.{◌∙◌, subst, OnErr, OnOk}
use Rattle.std.specs.Io.KnownBytes.{Appends}
use Rattle.dap_outside.specs.Streams.{AppendsFront}
use Rattle.dap_commands.proofs.Gateways.{line-is}
use Rattle.dap_commands.proofs.relaying.put_line.Goals as goal

pub returns-clause-ok : goal.returns-clause-ok
returns-clause-ok g c =
    subst (λ l. OnOk c.put_each.result (Appends (g.O.Sink.written c.args.out.now) (g.O.Sink.written c.put_each.new.out) l))
    (line-is c.args.number c.args.relayed c.as_bytes-number.result.now c.as_bytes-ending.result.now c.as_bytes-source.result.now
    (c.as_bytes-number.ensures.value ∙ c.format.ensures.text) (c.as_bytes-ending.ensures.value ∙ c.relayed_name.ensures) (c.as_bytes-source.ensures.value ∙ c.source_name.ensures))
    c.put_each.ensures.ok

pub returns-clause-err : goal.returns-clause-err
returns-clause-err g c =
    subst (λ l. OnErr c.put_each.result (AppendsFront (g.O.Sink.written c.args.out.now) (g.O.Sink.written c.put_each.new.out) l))
    (line-is c.args.number c.args.relayed c.as_bytes-number.result.now c.as_bytes-ending.result.now c.as_bytes-source.result.now
    (c.as_bytes-number.ensures.value ∙ c.format.ensures.text) (c.as_bytes-ending.ensures.value ∙ c.relayed_name.ensures) (c.as_bytes-source.ensures.value ∙ c.source_name.ensures))
    c.put_each.ensures.err
