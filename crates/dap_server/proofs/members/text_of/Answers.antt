use Rattle.dap_server.proofs.MemberNames.{name-text}
use Rattle.dap_server.proofs.members.text_of.Goals as goal

pub unreachable-requires : goal.unreachable-requires
unreachable-requires c = c.in-Err.ensures.cases.0 (name-text c.args.name.now c.requires)
