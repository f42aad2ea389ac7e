use Rattle.std.proofs.Common.{refl, sym, ap, inr, ◌∙◌, rules}
use Rattle.dap_http.specs.Requests.{is_other}
use Rattle.dap_http.specs.Targets.{target_of, asked_of}
use Rattle.dap_http.specs.Texts.{version}
use Rattle.dap_http.specs.declared.kind.Kind.TheVariants.{Ver}
use Rattle.dap_gateway.specs.Given.{text}
use Rattle.dap_gateway.specs.Turns.{is_head_method}
use Rattle.dap_gateway.proofs.Coming.{early-comes, memory-comes, wanted}
use Rattle.dap_gateway.proofs.connection.relay_target.Goals as goal

pub returns-in-Ver-clause-comes : goal.returns-in-Ver-clause-comes
returns-in-Ver-clause-comes g c = λ bytes rest tree first head.
    early-comes _ _ _ _ _ bytes _ _ _ _ c.put_version.result c.is_head.result (text Ver version)
    (inr (
      tree,
      rest,
      first,
      c.is_head.ensures ∙ ap is_head_method head.method,
      inr (inr (ap is_other (sym head.method) ∙ c.requires.served, (asked_of c.args.target.now, ap target_of (sym head.target) ∙ c.requires.target, c.in-Ver.is), refl)),
    )) c.put_version.ensures.puts refl refl

pub returns-in-Ok : goal.returns-in-Ok
returns-in-Ok g c = record {
  comes = λ bytes rest tree first head.
      c.relay_wanted.ensures.comes bytes (rw c.in-Ok.ensures (wanted c.args.host.now c.args.port bytes c.args.head.now c.args.target.now _ tree rest first head c.requires.served c.requires.target refl (search rules)));
  write_fault = c.relay_wanted.ensures.write_fault;
  kept = c.relay_wanted.ensures.kept;
  no_read_fault = c.relay_wanted.ensures.no_read_fault;
  later = c.relay_wanted.ensures.later;
  later_dial = c.relay_wanted.ensures.later_dial;
  room = c.relay_wanted.ensures.room;
  beside = c.relay_wanted.ensures.beside;
}

pub returns-in-Err : goal.returns-in-Err
returns-in-Err g c = record {
  comes = λ bytes rest tree first head.
      memory-comes _ _ _ _ _ bytes _ _ _ _ c.put_memory.result c.is_head-in-Err.result (inr (tree, rest, first, c.is_head-in-Err.ensures ∙ ap is_head_method head.method)) c.put_memory.ensures.puts refl refl;
  write_fault = c.put_memory.ensures.fault;
  kept = c.put_memory.ensures.kept;
  no_read_fault = search rules;
  later = c.put_memory.ensures.later;
  later_dial = search rules;
  room = refl;
  beside = c.put_memory.ensures.beside;
}
