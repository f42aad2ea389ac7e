use Rattle.std.proofs.Common.{false, inl}
use Rattle.dap_gateway.proofs.Front.{object-puts}
use Rattle.dap_gateway.proofs.answering.relay_object.Goals as goal

pub returns-in-Ok-clause-puts : goal.returns-in-Ok-clause-puts
returns-in-Ok-clause-puts g c =
    inl (object-puts c.args.wanted.now.minor c.args.object.now c.in-Ok.ready c.args.wanted.now.head_alone false _ _ c.put.result (c.in-Ok.ensures.text c.args.wanted.now.minor) c.in-Ok.ensures.status c.put.ensures.puts)
