use Rattle.std.proofs.Common.{refl, sym, ◌∙◌}
use Rattle.dap_gateway.proofs.Coming.{hit-comes, miss-comes}
use Rattle.dap_gateway.proofs.connection.relay_wanted.Goals as goal

pub returns-then-holds-clause-comes : goal.returns-then-holds-clause-comes
returns-then-holds-clause-comes g c = λ bytes wants.
    hit-comes _ _ _ _ _ bytes _ _ _ _ c.relay_hit.result c.args.wanted.now c.bytes.result.now c.args.wanted.now.key c.bytes.ensures refl wants (sym c.holds.ensures ∙ c.if-holds.true) c.relay_hit.ensures.puts refl

pub returns-clause-comes : goal.returns-clause-comes
returns-clause-comes g c = λ bytes wants.
    miss-comes _ _ _ _ _ bytes _ _ _ _ c.relay_outcome.result c.args.wanted.now c.ask-outcome.result c.bytes.result.now c.bytes-2.result.now c.args.wanted.now.key c.bytes.ensures c.bytes-2.ensures refl wants
    (sym c.holds.ensures ∙ c.if-holds.false) c.ask-outcome.ensures.dials c.relay_outcome.ensures.puts
