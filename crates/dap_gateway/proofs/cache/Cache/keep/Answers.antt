use Rattle.std.proofs.Common.{◌≡◌, ◌-◌, ◌∷◌, None, ap, ◌∙◌, take}
use Rattle.std.specs.Map.{lookup}
use Rattle.std.specs.Str.{bytes_eq}
use Rattle.dap_gateway.specs.Pairs.{pairs, room_of}
use Rattle.dap_gateway.proofs.Shown.{put-shown}
use Rattle.dap_gateway.proofs.cache.Cache.keep.Goals as goal

pub returns-clause-ok : goal.returns-clause-ok
returns-clause-ok c =
    let none : lookup (bytes_eq c.in_ok-key.key.items) (pairs c.args.self.now) ≡ None = rw c.in_ok-key.ensures.items c.requires in
    rw c.in_ok-put.ensures.entries
    (put-shown c.args.self.now.kept c.in_ok-key.key c.args.body none ∙ ap (λ k. (k, c.args.body) ∷ take (room_of c.args.self.now - 1) (pairs c.args.self.now)) c.in_ok-key.ensures.items)
