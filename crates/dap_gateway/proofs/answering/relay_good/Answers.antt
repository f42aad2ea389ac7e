use Rattle.std.proofs.Common.{inl, false, ◌≡◌, Some, rules}
use Rattle.std.specs.Map.{lookup}
use Rattle.std.specs.Str.{bytes_eq}
use Rattle.dap_gateway.specs.Pairs.{pairs}
use Rattle.dap_gateway.specs.Turns.{IsReady}
use Rattle.dap_gateway.proofs.Front.{lookup-front, ready-puts}
use Rattle.dap_gateway.proofs.answering.relay_good.Goals as goal

pub returns-in-Ok-keep-clause-puts : goal.returns-in-Ok-keep-clause-puts
returns-in-Ok-keep-clause-puts g c =
    let kept : lookup (bytes_eq c.args.wanted.now.key) (pairs c.keep.new.self) ≡ Some c.args.body = rw (c.in-Ok-keep.ensures.ok, c.bytes-3.ensures) (lookup-front c.args.wanted.now.key c.args.body _) in
    let ready : IsReady c.args.wanted.now.kind c.args.wanted.now.minor c.args.wanted.now.head_alone c.args.body c.in-Ok.ready = (search rules, search rules) in
    inl (ready-puts c.args.wanted.now.kind c.args.wanted.now.minor c.args.body c.in-Ok.ready c.args.wanted.now.head_alone false _ _ c.put_kept.result ready (c.put_kept.ensures.puts c.args.body kept), search rules)
