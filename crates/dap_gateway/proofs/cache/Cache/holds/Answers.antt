use Rattle.std.proofs.Common.{sym, ap, ◌∙◌}
use Rattle.std.specs.Prelude.{is_some}
use Rattle.dap_gateway.proofs.Shown.{lookup-shown}
use Rattle.dap_gateway.proofs.cache.Cache.holds.Goals as goal

pub returns : goal.returns
returns c = c.contains.ensures ∙ ap is_some (sym (lookup-shown c.args.key.now c.args.self.now.kept.entries))
