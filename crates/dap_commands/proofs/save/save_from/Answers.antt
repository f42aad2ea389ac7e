use Rattle.dap_commands.proofs.Saved.{link-fault, other-link, other-write, saves-as}
use Rattle.dap_commands.proofs.save.save_from.Goals as goal

pub returns-clause-says : goal.returns-clause-says
returns-clause-says g c = (c.save_url.result, saves-as _ _ c.args.ce.now c.as_bytes.result.now _ _ _ _ c.save_url.result c.as_bytes.ensures.value c.save_url.ensures.saves, c.said.ensures.status, c.said.ensures.line)

pub returns-clause-link_fault : goal.returns-clause-link_fault
returns-clause-link_fault g c = link-fault _ c.save_url.result c.said.result c.said.ensures.status c.save_url.ensures.link_fault

pub returns-clause-dial_kept : goal.returns-clause-dial_kept
returns-clause-dial_kept g c = λ other. c.save_url.ensures.kept_dial (other-link c.save_url.result c.said.result c.said.ensures.status other)

pub returns-clause-out_kept : goal.returns-clause-out_kept
returns-clause-out_kept g c = λ other. c.save_url.ensures.kept (other-write c.save_url.result c.said.result c.said.ensures.status other)
