use Rattle.std.proofs.Common.{◌≡◌, ◌++◌, ℕ, List, [], Err, length, refl, sym, subst, ap, ◌∙◌, arith, append_assoc, append-nil, length-append}
use Rattle.std.proofs.KnownBytes.{Consumes-nil, Consumes-trans}
use Rattle.dap_http.specs.Delivered.{IsBrokenBody, IsWholeBody}
use Rattle.dap_http.specs.Following.{Follows, IsInTime, body_coding, part_of, waiting}
use Rattle.dap_http.specs.declared.body_parts.Arrived.TheVariants.{Part, ReadFault as SourceFault}
use Rattle.dap_client.proofs.Behind.{part-room}
use Rattle.dap_client.proofs.HeldPieces.{counted-few, held-goes-on}
use Rattle.dap_client.proofs.HeldReplies.{behind-as, broken-behind, taken-behind, whole-behind}
use Rattle.dap_client.proofs.InTime.{part-in-time, stops-in-time, time-on}
use Rattle.dap_client.proofs.Telling.{rose-same}
use Rattle.dap_client.specs.inner.Holding.{IsHolding, IsTaken}
use Rattle.dap_client.specs.declared.body_outcome.BodyOutcome.{BodyOutcome}
use Rattle.dap_client.proofs.reading.read_parts.Goals as goal

part-no-fault : Part ≡ SourceFault → ⊥
part-no-fault e = cc e

pub loop-holding-init : goal.loop-holding-init
loop-holding-init g c = record {
  moved = ([], [], Consumes-nil _, λ bytes f. subst (λ (t : List ℕ). Follows c.args.parts.now t []) (sym (append-nil bytes)) f, λ bytes f t. subst (λ (l : List ℕ). IsInTime (body_coding c.args.parts.now) l []) (sym (append-nil bytes)) t, λ form limit is. is);
  coding = refl;
  reading = refl;
  whole = refl;
  beside = refl;
}

pub next-requires : goal.next-requires
next-requires g c =
    let (form, limit, begun) = c.requires.holds in
    let (bytes, first) = c.requires.follows in
    let (taken, body, before, on, kept, holds) = c.loop-holding.invariant.moved in
    (bytes ++ taken, body, on bytes first, omega (arith, (counted-few c.loop-holding.holding.reader body (holds form limit begun).after).1))

pub take-requires-clause-holds : goal.take-requires-clause-holds
take-requires-clause-holds g c =
    let (form, limit, begun) = c.requires.holds in
    let (taken, body, before, on, kept, holds) = c.loop-holding.invariant.moved in
    (form, limit, body, holds form limit begun)

pub take-requires-clause-few : goal.take-requires-clause-few
take-requires-clause-few g c = omega (arith, ap length c.part.ensures, part-room c.next.new.self)

pub finish-requires : goal.finish-requires
finish-requires g c =
    let (form, limit, begun) = c.requires.holds in
    let (taken, body, before, on, kept, holds) = c.loop-holding.invariant.moved in
    (form, limit, body, holds form limit begun)

pub break_off-requires : goal.break_off-requires
break_off-requires g c =
    let (form, limit, begun) = c.requires.holds in
    let (taken, body, before, on, kept, holds) = c.loop-holding.invariant.moved in
    (form, limit, body, holds form limit begun)

pub loop-holding-smaller : goal.loop-holding-smaller
loop-holding-smaller g c =
    let (form, limit, begun) = c.requires.holds in
    let (bytes, first) = c.requires.follows in
    let (t, body, before, on, kept, holds) = c.loop-holding.invariant.moved in
    let (u, after, gives, times) = c.in-Part.ensures.arrives in
    let held = holds form limit begun in
    let longer : IsHolding form limit (body ++ c.part.result.now) c.in-Ok.on = c.in-Ok.ensures form limit body held in
    omega (
      arith,
      (gives (bytes ++ t) body (on bytes first)).0,
      ap length c.part.ensures,
      length-append body c.part.result.now,
      (counted-few c.loop-holding.holding.reader body held.after).0,
      (counted-few c.in-Ok.on.reader (body ++ c.part.result.now) longer.after).0,
      (counted-few c.in-Ok.on.reader (body ++ c.part.result.now) longer.after).1,
    )

pub loop-holding-preserved : goal.loop-holding-preserved
loop-holding-preserved g c =
    let (t, body, before, on, kept, holds) = c.loop-holding.invariant.moved in
    let (u, after, gives, times) = c.in-Part.ensures.arrives in
    record {
      moved = (
        t ++ u,
        body ++ part_of c.next.new.self,
        Consumes-trans _ _ _ t u before after,
        λ bytes first. subst (λ (l : List ℕ). Follows c.next.new.self l (body ++ part_of c.next.new.self)) (append_assoc bytes t u) (gives (bytes ++ t) body (on bytes first)).1,
        λ bytes first begun. part-in-time (body_coding c.args.parts.now) (bytes ++ (t ++ u)) body (part_of c.next.new.self) (time-on (body_coding c.args.parts.now) (body_coding c.loop-holding.parts) bytes t u body c.loop-holding.invariant.coding (times (bytes ++ t) body (on bytes first)) (kept bytes first begun)),
        λ form limit begun. subst (λ (l : List ℕ). IsHolding form limit (body ++ l) c.in-Ok.on) c.part.ensures (c.in-Ok.ensures form limit body (holds form limit begun)),
      );
      coding = c.next.ensures.coding ∙ c.loop-holding.invariant.coding;
      reading = c.in-Part.ensures.kept part-no-fault ∙ c.loop-holding.invariant.reading;
      whole = c.next.ensures.whole ∙ c.loop-holding.invariant.whole;
      beside = c.next.ensures.beside ∙ c.loop-holding.invariant.beside;
    }

pub returns-in-Err-clause-says : goal.returns-in-Err-clause-says
returns-in-Err-clause-says g c =
    let (t, body, before, on, kept, holds) = c.loop-holding.invariant.moved in
    let (u, after, gives, times) = c.in-Part.ensures.arrives in
    let all = body ++ part_of c.next.new.self in (
      t ++ u,
      Consumes-trans _ _ _ t u before after,
      λ form limit bytes begun first.
          let follows : Follows c.next.new.self (bytes ++ (t ++ u)) all = subst (λ (l : List ℕ). Follows c.next.new.self l all) (append_assoc bytes t u) (gives (bytes ++ t) body (on bytes first)).1 in
          let taken : IsTaken form limit all (Err c.in-Err.outcome) =
          subst (λ (l : List ℕ). IsTaken form limit (body ++ l) (Err c.in-Err.outcome)) c.part.ensures (c.in-Err.ensures form limit body (holds form limit begun)) in
          behind-as form limit (body_coding c.next.new.self) (body_coding c.args.parts.now) (bytes ++ (t ++ u)) (g.I.Source.ended c.next.new.source) c.in-Err.outcome (c.next.ensures.coding ∙ c.loop-holding.invariant.coding)
          (taken-behind form limit c.next.new.self (bytes ++ (t ++ u)) all (g.I.Source.ended c.next.new.source) c.in-Err.outcome follows taken),
      λ form limit bytes held first begun.
          stops-in-time form (body_coding c.args.parts.now) (bytes ++ (t ++ u)) body
          (time-on (body_coding c.args.parts.now) (body_coding c.loop-holding.parts) bytes t u body c.loop-holding.invariant.coding (times (bytes ++ t) body (on bytes first)) (kept bytes first begun))
          (held-goes-on form limit body c.loop-holding.holding (holds form limit held)),
    )

pub returns-in-Err-clause-read_fault : goal.returns-in-Err-clause-read_fault
returns-in-Err-clause-read_fault g c = λ e.
    let (form, limit, begun) = c.requires.holds in
    let (t, body, before, on, kept, holds) = c.loop-holding.invariant.moved in
    absurd (subst (λ (o : BodyOutcome). IsTaken form limit (body ++ c.part.result.now) (Err o)) e (c.in-Err.ensures form limit body (holds form limit begun)))

pub returns-in-End-clause-says : goal.returns-in-End-clause-says
returns-in-End-clause-says g c =
    let (t, body, before, on, kept, holds) = c.loop-holding.invariant.moved in
    let (u, after, gives, times) = c.in-End.ensures.arrives in
    let ended = g.I.Source.ended c.next.new.source in
    let coding = body_coding c.next.new.self in (
      t ++ u,
      Consumes-trans _ _ _ t u before after,
      λ form limit bytes begun first.
          let whole : IsWholeBody coding (bytes ++ (t ++ u)) ended body (waiting c.next.new.self) =
          subst (λ (l : List ℕ). IsWholeBody coding l ended body (waiting c.next.new.self)) (append_assoc bytes t u) (gives (bytes ++ t) body (on bytes first)) in
          behind-as form limit coding (body_coding c.args.parts.now) (bytes ++ (t ++ u)) ended c.finish.result (c.next.ensures.coding ∙ c.loop-holding.invariant.coding)
          (whole-behind form limit coding (bytes ++ (t ++ u)) ended body (waiting c.next.new.self) c.finish.result whole (c.finish.ensures.says form limit body (holds form limit begun))),
      λ form limit bytes held first begun.
          stops-in-time form (body_coding c.args.parts.now) (bytes ++ (t ++ u)) body
          (time-on (body_coding c.args.parts.now) (body_coding c.loop-holding.parts) bytes t u body c.loop-holding.invariant.coding (times (bytes ++ t) body (on bytes first)) (kept bytes first begun))
          (held-goes-on form limit body c.loop-holding.holding (holds form limit held)),
    )

pub returns-in-End-clause-read_fault : goal.returns-in-End-clause-read_fault
returns-in-End-clause-read_fault g c = λ e. absurd (c.finish.ensures.no_fault e)

pub returns-in-Refused-clause-says : goal.returns-in-Refused-clause-says
returns-in-Refused-clause-says g c =
    let (t, body, before, on, kept, holds) = c.loop-holding.invariant.moved in
    let (u, after, gives, times) = c.in-Refused.ensures.arrives in
    let ended = g.I.Source.ended c.next.new.source in
    let coding = body_coding c.next.new.self in (
      t ++ u,
      Consumes-trans _ _ _ t u before after,
      λ form limit bytes begun first.
          let broken : IsBrokenBody coding (bytes ++ (t ++ u)) ended body c.in-Refused.wrong =
          subst (λ (l : List ℕ). IsBrokenBody coding l ended body c.in-Refused.wrong) (append_assoc bytes t u) (gives (bytes ++ t) body (on bytes first)) in
          behind-as form limit coding (body_coding c.args.parts.now) (bytes ++ (t ++ u)) ended c.break_off.result (c.next.ensures.coding ∙ c.loop-holding.invariant.coding)
          (broken-behind form limit coding (bytes ++ (t ++ u)) ended body c.in-Refused.wrong c.break_off.result broken (c.break_off.ensures.says form limit body (holds form limit begun))),
      λ form limit bytes held first begun.
          stops-in-time form (body_coding c.args.parts.now) (bytes ++ (t ++ u)) body
          (time-on (body_coding c.args.parts.now) (body_coding c.loop-holding.parts) bytes t u body c.loop-holding.invariant.coding (times (bytes ++ t) body (on bytes first)) (kept bytes first begun))
          (held-goes-on form limit body c.loop-holding.holding (holds form limit held)),
    )

pub returns-in-Refused-clause-read_fault : goal.returns-in-Refused-clause-read_fault
returns-in-Refused-clause-read_fault g c = λ e. absurd (c.break_off.ensures.no_fault e)

pub returns-in-ReadFault-clause-says : goal.returns-in-ReadFault-clause-says
returns-in-ReadFault-clause-says g c =
    let (t, body, before, on, kept, holds) = c.loop-holding.invariant.moved in
    let (u, after, gives, times) = c.in-ReadFault.ensures.arrives in (
      t ++ u,
      Consumes-trans _ _ _ t u before after,
      λ form limit bytes begun first. tt,
      λ form limit bytes held first begun.
          stops-in-time form (body_coding c.args.parts.now) (bytes ++ (t ++ u)) body
          (time-on (body_coding c.args.parts.now) (body_coding c.loop-holding.parts) bytes t u body c.loop-holding.invariant.coding (times (bytes ++ t) body (on bytes first)) (kept bytes first begun))
          (held-goes-on form limit body c.loop-holding.holding (holds form limit held)),
    )

pub returns-in-ReadFault-clause-read_fault : goal.returns-in-ReadFault-clause-read_fault
returns-in-ReadFault-clause-read_fault g c = λ e. rose-same _ _ _ c.loop-holding.invariant.reading (c.in-ReadFault.ensures.fault refl)

pub returns-in-Err-clause-later : goal.returns-in-Err-clause-later
returns-in-Err-clause-later g c = omega (arith, c.next.ensures.later, c.loop-holding.invariant.reading)

pub returns-in-Err-clause-whole : goal.returns-in-Err-clause-whole
returns-in-Err-clause-whole g c = c.next.ensures.whole ∙ c.loop-holding.invariant.whole

pub returns-in-Err-clause-beside : goal.returns-in-Err-clause-beside
returns-in-Err-clause-beside g c = c.next.ensures.beside ∙ c.loop-holding.invariant.beside

pub returns-in-End-clause-later : goal.returns-in-End-clause-later
returns-in-End-clause-later g c = omega (arith, c.next.ensures.later, c.loop-holding.invariant.reading)

pub returns-in-End-clause-whole : goal.returns-in-End-clause-whole
returns-in-End-clause-whole g c = c.next.ensures.whole ∙ c.loop-holding.invariant.whole

pub returns-in-End-clause-beside : goal.returns-in-End-clause-beside
returns-in-End-clause-beside g c = c.next.ensures.beside ∙ c.loop-holding.invariant.beside

pub returns-in-Refused-clause-later : goal.returns-in-Refused-clause-later
returns-in-Refused-clause-later g c = omega (arith, c.next.ensures.later, c.loop-holding.invariant.reading)

pub returns-in-Refused-clause-whole : goal.returns-in-Refused-clause-whole
returns-in-Refused-clause-whole g c = c.next.ensures.whole ∙ c.loop-holding.invariant.whole

pub returns-in-Refused-clause-beside : goal.returns-in-Refused-clause-beside
returns-in-Refused-clause-beside g c = c.next.ensures.beside ∙ c.loop-holding.invariant.beside

pub returns-in-ReadFault-clause-later : goal.returns-in-ReadFault-clause-later
returns-in-ReadFault-clause-later g c = omega (arith, c.next.ensures.later, c.loop-holding.invariant.reading)

pub returns-in-ReadFault-clause-whole : goal.returns-in-ReadFault-clause-whole
returns-in-ReadFault-clause-whole g c = c.next.ensures.whole ∙ c.loop-holding.invariant.whole

pub returns-in-ReadFault-clause-beside : goal.returns-in-ReadFault-clause-beside
returns-in-ReadFault-clause-beside g c = c.next.ensures.beside ∙ c.loop-holding.invariant.beside

pub returns-in-Err-clause-kept : goal.returns-in-Err-clause-kept
returns-in-Err-clause-kept g c = λ n. c.in-Part.ensures.kept part-no-fault ∙ c.loop-holding.invariant.reading

pub returns-in-End-clause-kept : goal.returns-in-End-clause-kept
returns-in-End-clause-kept g c = λ n. c.in-End.ensures.kept (λ e. cc e) ∙ c.loop-holding.invariant.reading

pub returns-in-Refused-clause-kept : goal.returns-in-Refused-clause-kept
returns-in-Refused-clause-kept g c = λ n. c.in-Refused.ensures.kept (λ e. cc e) ∙ c.loop-holding.invariant.reading

pub returns-in-ReadFault-clause-kept : goal.returns-in-ReadFault-clause-kept
returns-in-ReadFault-clause-kept g c = λ n. absurd (n refl)
