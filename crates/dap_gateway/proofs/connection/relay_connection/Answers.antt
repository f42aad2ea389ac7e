use Rattle.std.proofs.Common.{refl, ap, subst, inl, inr, [], false, List, ℕ}
use Rattle.dap_http.proofs.HeadReading.{nothing-requested}
use Rattle.plain_lemmas.proofs.Lists.{nothing_in_front}
use Rattle.dap_errors.specs.declared.cause.Cause.TheVariants.{BadRequest, HeadTooLong}
use Rattle.dap_http.specs.Requests.{FirstRequest, IsBadRequest, IsTooLong}
use Rattle.dap_gateway.specs.Given.{refused}
use Rattle.dap_gateway.proofs.Coming.{comes-from, early-comes, first-from, memory-comes, nothing-taken}
use Rattle.dap_gateway.proofs.Worth.{backed-comes}
use Rattle.dap_gateway.proofs.connection.relay_connection.Goals as goal

pub returns-in_default-clause-relays : goal.returns-in_default-clause-relays
returns-in_default-clause-relays g c =
    ([], nothing-taken _ _ (g.met.L.Link.keeps_left _ _ c.put_memory.ensures.beside), inr (memory-comes _ _ _ _ _ [] _ _ _ _ c.put_memory.result false (inl (refl, nothing-requested)) c.put_memory.ensures.puts refl refl))

pub returns-in-Head-clause-relays : goal.returns-in-Head-clause-relays
returns-in-Head-clause-relays g c =
    let (taken, consumes, gives) = c.in-Head.ensures.reads in
    let (tree, first, head) = gives in (
      taken,
      rw (g.met.L.Link.keeps_left _ _ c.relay.ensures.beside) consumes,
      inr (comes-from _ _ _ _ _ taken _ _ _ _ _ _ c.relay.result (g.met.L.Link.keeps_written _ _ c.in-Head.ensures.beside)
          (c.relay.ensures.comes taken _ tree (first-from _ taken tree _ c.in-Ok.ensures first) head)),
    )

pub returns-in-Head-clause-backed : goal.returns-in-Head-clause-backed
returns-in-Head-clause-backed g c = λ tells backed.
    let (taken, consumes, gives) = c.in-Head.ensures.reads in
    let (tree, first, head) = gives in
    backed-comes _ _ _ _ _ _ _ _ _ _ c.relay.result tells (λ same. ap (λ d. g.C.Dial.back d) same) (c.relay.ensures.comes _ _ tree first head) backed

pub returns-in-BadRequest-clause-relays : goal.returns-in-BadRequest-clause-relays
returns-in-BadRequest-clause-relays g c =
    let (taken, consumes, gives) = c.in-BadRequest.ensures.reads in (
      taken,
      rw (g.met.L.Link.keeps_left _ _ c.put_cause.ensures.beside) consumes,
      inr (comes-from _ _ _ _ _ taken _ _ _ _ _ _ c.put_cause.result (g.met.L.Link.keeps_written _ _ c.in-BadRequest.ensures.beside)
          (early-comes _ _ _ _ _ taken _ _ _ _ c.put_cause.result false (refused BadRequest) (inl (refl, inl (refl, subst IsBadRequest (nothing_in_front _ taken c.in-Ok.ensures) gives.0))) c.put_cause.ensures.puts refl refl)),
    )

pub returns-in-HeadTooLong-clause-relays : goal.returns-in-HeadTooLong-clause-relays
returns-in-HeadTooLong-clause-relays g c =
    let (taken, consumes, gives) = c.in-HeadTooLong.ensures.reads in (
      taken,
      rw (g.met.L.Link.keeps_left _ _ c.put_cause-in-HeadTooLong.ensures.beside) consumes,
      inr (comes-from _ _ _ _ _ taken _ _ _ _ _ _ c.put_cause-in-HeadTooLong.result (g.met.L.Link.keeps_written _ _ c.in-HeadTooLong.ensures.beside)
          (early-comes _ _ _ _ _ taken _ _ _ _ c.put_cause-in-HeadTooLong.result false (refused HeadTooLong) (inl (refl, inr (refl, subst IsTooLong (nothing_in_front _ taken c.in-Ok.ensures) gives.0))) c.put_cause-in-HeadTooLong.ensures.puts refl refl)),
    )

pub returns-clause-relays : goal.returns-clause-relays
returns-clause-relays g c =
    let (taken, consumes, gives) = c.in-Memory.ensures.reads in
    let (tree, rest, first, is) = gives.0 in (
      taken,
      rw (g.met.L.Link.keeps_left _ _ c.put_memory-in-Memory.ensures.beside) consumes,
      inr (comes-from _ _ _ _ _ taken _ _ _ _ _ _ c.put_memory-in-Memory.result (g.met.L.Link.keeps_written _ _ c.in-Memory.ensures.beside)
          (memory-comes _ _ _ _ _ taken _ _ _ _ c.put_memory-in-Memory.result c.in-Memory.head (inr (tree, rest, subst (λ (b : List ℕ). FirstRequest b tree rest) (nothing_in_front _ taken c.in-Ok.ensures) first, is))
          c.put_memory-in-Memory.ensures.puts refl refl)),
    )
