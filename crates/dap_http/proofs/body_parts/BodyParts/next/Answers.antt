use Rattle.std.proofs.Common.{◌≡◌, ◌∙◌, refl, sym, subst, arith, false, Some, List, ℕ, ◌++◌, append_assoc}
use Rattle.std.proofs.KnownBytes.{Consumes-trans}
use Rattle.dap_http.specs.Delivered.{IsWholeBody}
use Rattle.dap_http.specs.Following.{Arrives, Follows, body_coding}
use Rattle.dap_http.specs.declared.body_parts.Arrived.{Arrived}
use Rattle.dap_http.specs.declared.body_parts.Arrived.TheVariants.{End}
use Rattle.dap_http.specs.declared.body_parts.BodyParts.{BodyParts}
use Rattle.dap_http.specs.declared.coding.Coding.{Coding}
use Rattle.dap_http.specs.inner.Parting.{TakesPiece}
use Rattle.dap_http.proofs.InTime.{in-time-on}
use Rattle.dap_http.proofs.Parts.{few-taken, still-short}
use Rattle.dap_http.proofs.body_parts.BodyParts.next.Goals as goal

is-end : (a : Arrived) → Some a ≡ Some End → a ≡ End
is-end a e = cc

pub turn-requires : goal.turn-requires
turn-requires g c = let (x, before, on, timely) = c.loop-arrived.invariant.taken in still-short c.args.self.now c.loop-arrived.self x c.requires on

pub returns-in-Some-clause-arrives : goal.returns-in-Some-clause-arrives
returns-in-Some-clause-arrives g c =
    let (x, before, on, timely) = c.loop-arrived.invariant.taken in
    let (y, after, gives) = c.in-Some.ensures.turns in (
      x ++ y,
      Consumes-trans _ _ _ x y before after,
      λ bytes body follows. subst (λ (t : List ℕ). Arrives c.turn.new.self t body (g.I.Source.ended c.turn.new.source) c.in-Some.arrived) (append_assoc bytes x y) (gives (bytes ++ x) body (on bytes body follows)).0,
      λ bytes body follows t.
          in-time-on (body_coding c.args.self.now) bytes x y body (timely bytes body follows t)
          (subst (λ (d : Coding). TakesPiece d (bytes ++ x) body y) c.loop-arrived.invariant.coding (gives (bytes ++ x) body (on bytes body follows)).1),
    )

pub returns-in-Some-clause-ended : goal.returns-in-Some-clause-ended
returns-in-Some-clause-ended g c = λ bytes body rest follows whole.
    let (same, source) = c.loop-arrived.invariant.begun bytes body rest follows whole in
    let here : Follows c.loop-arrived.self bytes body = subst (λ (p : BodyParts). Follows p bytes body) (sym same) follows in
    let there : IsWholeBody (body_coding c.loop-arrived.self) bytes false body rest = subst (λ (d : Coding). IsWholeBody d bytes false body rest) (sym c.loop-arrived.invariant.coding) whole in
    let (is, left) = c.in-Some.ensures.ended bytes body rest here there in
    (is-end c.in-Some.arrived is, left ∙ source)

pub loop-arrived-preserved : goal.loop-arrived-preserved
loop-arrived-preserved g c =
    let (x, before, on, timely) = c.loop-arrived.invariant.taken in
    let (y, after, gives) = c.in_default.ensures.turns in
    record {
      taken = (
        x ++ y,
        Consumes-trans _ _ _ x y before after,
        λ bytes body follows. subst (λ (t : List ℕ). Follows c.turn.new.self t body) (append_assoc bytes x y) (gives (bytes ++ x) body (on bytes body follows)).0,
        λ bytes body follows t.
            in-time-on (body_coding c.args.self.now) bytes x y body (timely bytes body follows t)
            (subst (λ (d : Coding). TakesPiece d (bytes ++ x) body y) c.loop-arrived.invariant.coding (gives (bytes ++ x) body (on bytes body follows)).1),
      );
      begun = λ bytes body rest follows whole.
          let (same, source) = c.loop-arrived.invariant.begun bytes body rest follows whole in
          let here : Follows c.loop-arrived.self bytes body = subst (λ (p : BodyParts). Follows p bytes body) (sym same) follows in
          let there : IsWholeBody (body_coding c.loop-arrived.self) bytes false body rest = subst (λ (d : Coding). IsWholeBody d bytes false body rest) (sym c.loop-arrived.invariant.coding) whole in
          let (clash, left) = c.in_default.ensures.ended bytes body rest here there in
          absurd (cc);
      coding = c.turn.ensures.coding ∙ c.loop-arrived.invariant.coding;
      count = c.in_default.ensures.kept (λ e. cc) ∙ c.loop-arrived.invariant.count;
      stays = λ e. c.turn.ensures.stays (c.loop-arrived.invariant.stays e);
      whole = c.turn.ensures.whole ∙ c.loop-arrived.invariant.whole;
      beside = c.turn.ensures.beside ∙ c.loop-arrived.invariant.beside;
    }

pub loop-arrived-smaller : goal.loop-arrived-smaller
loop-arrived-smaller g c =
    let (x, before, on, timely) = c.loop-arrived.invariant.taken in
    omega (arith, few-taken c.loop-arrived.self (still-short c.args.self.now c.loop-arrived.self x c.requires on), c.in_default.ensures.more refl)
