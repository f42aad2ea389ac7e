use Rattle.target_names.proofs.NameText.{name-text}
use Rattle.dap_http.proofs.target.Target.name_of.Goals as goal

pub unreachable-requires : goal.unreachable-requires
unreachable-requires c = c.in-Err.ensures.cases.0 (name-text c.args.name.now c.requires)
