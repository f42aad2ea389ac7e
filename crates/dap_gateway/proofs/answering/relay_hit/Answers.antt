use Rattle.std.proofs.Common.{ap, inl, true, ◌∙◌}
use Rattle.std.specs.Str.{bytes_eq}
use Rattle.lru.specs.LruCache.{promoted}
use Rattle.dap_gateway.specs.Pairs.{pairs}
use Rattle.dap_gateway.proofs.Front.{lookup-promoted, ready-puts, some-promoted}
use Rattle.dap_gateway.proofs.answering.relay_hit.Goals as goal

pub put_kept-requires : goal.put_kept-requires
put_kept-requires g c = rw (c.promote.ensures.pairs, c.bytes.ensures) (some-promoted (bytes_eq c.args.wanted.now.key) (pairs c.args.cache.now) c.requires)

pub returns-in-Ok-clause-puts : goal.returns-in-Ok-clause-puts
returns-in-Ok-clause-puts g c = λ body is.
    inl (
      ready-puts c.args.wanted.now.kind c.args.wanted.now.minor body c.in-Ok.ready c.args.wanted.now.head_alone true _ _ c.put_kept.result (c.in-Ok.ensures body is)
          (c.put_kept.ensures.puts body (rw (c.promote.ensures.pairs, c.bytes.ensures) (lookup-promoted (bytes_eq c.args.wanted.now.key) (pairs c.args.cache.now) body is))),
      c.promote.ensures.pairs ∙ ap (λ k. promoted (bytes_eq k) (pairs c.args.cache.now)) c.bytes.ensures,
    )
