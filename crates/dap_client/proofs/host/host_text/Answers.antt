use Rattle.dap_client.proofs.Hosts.{host-text}
use Rattle.dap_client.proofs.host.host_text.Goals as goal

pub unreachable-requires : goal.unreachable-requires
unreachable-requires c = c.in-Err.ensures.cases.0 (host-text c.args.host.now c.requires)
