use Rattle.std.proofs.Common.{Some, sym, ap, ◌∙◌}
use Rattle.std.specs.Option.{option_copied}
use Rattle.dap_gateway.proofs.Shown.{lookup-shown}
use Rattle.dap_gateway.proofs.cache.Cache.body.Goals as goal

pub returns-in-Some : goal.returns-in-Some
returns-in-Some c =
    lookup-shown c.args.key.now c.args.self.now.kept.entries ∙ (sym c.peek.ensures ∙ ap option_copied c.in-Some.is) ∙ ap Some (sym c.bytes.ensures)

pub returns-in-None : goal.returns-in-None
returns-in-None c = lookup-shown c.args.key.now c.args.self.now.kept.entries ∙ (sym c.peek.ensures ∙ ap option_copied c.in-None.is)
