use Rattle.std.proofs.Common.{[], refl}
use Rattle.dap_commands.proofs.Gateways.{none-came, none-had, whole-for}
use Rattle.dap_commands.proofs.relaying.relay.Goals as goal

pub returns-in_default-clause-relayed : goal.returns-in_default-clause-relayed
returns-in_default-clause-relayed g c = ([], none-had _ _ _, λ some. absurd (some refl))

pub returns-clause-relayed : goal.returns-clause-relayed
returns-clause-relayed g c = ([], none-came _ _ _ _ _ _ c.requires.asked c.in-Err.ensures.back, λ some. absurd (some refl))

pub returns-in-Ok-listen-clause-relayed : goal.returns-in-Ok-listen-clause-relayed
returns-in-Ok-listen-clause-relayed g c =
    whole-for _ _ _ _ _ _ _ _ _ _ _ _ _ _ _ _ _ _ c.in-Ok.ensures.room c.in-Ok.ensures.empty c.in-Ok-listen.ensures.back c.relay_links.ensures.port c.in-Ok-listen.ensures.port c.relay_links.ensures.relayed
