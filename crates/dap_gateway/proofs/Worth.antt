-- A cache that is backed is so behind a connection.
use Rattle.std.proofs.Common.{◌≡◌, ◌∷◌, ◌-◌, ℕ, inl, inr, Bool, true, false, cond, List, length, take, Option, Some, None, if◌then◌else◌, refl, sym, ap, subst}
use Rattle.std.specs.Prelude.{IsSome, IsTrue, nat_le}
use Rattle.std.specs.Map.{lookup}
use Rattle.std.specs.Str.{bytes_eq}
use Rattle.std.proofs.lemmas.Bool.{leb-true}
use Rattle.target_names.specs.Names.{is_name}
use Rattle.dap_types.specs.Limits.{most_kept}
use Rattle.dap_outside.specs.Links.{IsNew, LinkState}
use Rattle.dap_http.specs.Targets.{Asked, asked_in, is_target_long, kind_of, kinded_in, named_in, path_of, query_of, target_of, without_origin, without_slash, without_suffix}
use Rattle.dap_http.specs.declared.kind.Kind.{Kind}
use Rattle.dap_client.specs.Fetched.{DialState}
use Rattle.dap_client.specs.Replies.{form_of}
use Rattle.dap_client.specs.declared.body_outcome.BodyOutcome.{BodyOutcome}
use Rattle.dap_client.specs.declared.body_outcome.BodyOutcome.TheVariants as outcome
use Rattle.dap_gateway.proofs.Backing.{backed-dialled, backed-kept, backed-promoted}
use Rattle.dap_gateway.specs.Backed.{AreBacked, Exchange, history}
use Rattle.dap_gateway.specs.Given.{given_for}
use Rattle.dap_gateway.specs.Turns.{Asks, ComesTo, IsTurn, Standing, Turn, Wants, early, hit, kept_with, miss, no_memory, pairs_after}
use Rattle.dap_gateway.specs.declared.wanted.Wanted.{Wanted}
use Rattle.dap_gateway.specs.Upstream.{Dials}
use Rattle.dap_gateway.specs.declared.relayed.Relayed.{Relayed}

abbrev Pairs : Type 0
Pairs = List (List ℕ × List ℕ)

-- ---- a target that was read has a name

some-asked : (x y : Asked) → Some x ≡ Some y → x ≡ y
some-asked x y is = cc is

name-in : (path query : List ℕ) (kind : Kind) (asked : Asked) → named_in path query kind ≡ Some asked → IsTrue (is_name asked.name)
name-in path query kind asked is = go (is_name (without_suffix kind path)) refl is where
  found : Asked
  found = record { name = without_suffix kind path; kind = kind; query = query }

  go : (t : Bool) → is_name (without_suffix kind path) ≡ t → cond t (Some found) None ≡ Some asked → IsTrue (is_name asked.name)
  go true t here = subst (λ (x : Asked). IsTrue (is_name x.name)) (some-asked found asked here) t
  go false t here = cc here

name-kinded : (path query : List ℕ) (k : Option Kind) (asked : Asked) → kinded_in path query k ≡ Some asked → IsTrue (is_name asked.name)
name-kinded path query None asked is = cc is
name-kinded path query (Some kind) asked is = name-in path query kind asked is

name-asked : (o : Option (List ℕ)) (asked : Asked) → asked_in o ≡ Some asked → IsTrue (is_name asked.name)
name-asked None asked is = cc is
name-asked (Some rest) asked is = name-kinded (path_of (without_slash rest)) (query_of (without_slash rest)) (kind_of (path_of (without_slash rest))) asked is

pub has-name : (target : List ℕ) (asked : Asked) → target_of target ≡ Some asked → IsTrue (is_name asked.name)
unfolding target_of
has-name target asked is = go (is_target_long target) is where
  go : (t : Bool) → cond t (asked_in (without_origin target)) None ≡ Some asked → IsTrue (is_name asked.name)
  go true here = name-asked (without_origin target) asked here
  go false here = cc here

-- ---- the pairs behind a connection

either : (host : List ℕ) (port : ℕ) (h : Option (List Exchange)) (t : Bool) (p q : Pairs) → (t ≡ true → AreBacked host port h p) → AreBacked host port h q → AreBacked host port h (if t then p else q)
either host port h true p q first second = first refl
either host port h false p q first second = second

behind-dials : {W : Type 0} (state : W → LinkState) (host : List ℕ) (port room : ℕ) (bytes : List ℕ) (ps : Pairs) (a b : DialState W) (w : Wanted) (o : BodyOutcome) → ((l : W) → IsNew (state l) → IsSome (state l).written) → Wants host port bytes w
    → lookup (bytes_eq w.key) ps ≡ None → Dials state host port (form_of w.kind) w.key a b o → AreBacked host port (history state a.back) ps → AreBacked host port (history state b.back) ps
behind-dials state host port room bytes ps a b w o tells wants gone dials backed =
    backed-dialled state host port wants.asked (form_of w.kind) w.key a b o ps tells (ap (λ (v : Wanted). v.key) wants.is_wanted) (has-name wants.head.target wants.asked wants.target) gone dials backed

behind-miss : {W : Type 0} (state : W → LinkState) (host : List ℕ) (port room : ℕ) (bytes : List ℕ) (ps : Pairs) (a b : DialState W) (w : Wanted) (o : BodyOutcome) → ((l : W) → IsNew (state l) → IsSome (state l).written) → Wants host port bytes w
    → lookup (bytes_eq w.key) ps ≡ None → Dials state host port (form_of w.kind) w.key a b o → AreBacked host port (history state a.back) ps
    → AreBacked host port (history state b.back) (kept_with room w.key (given_for w.kind o) ps)
behind-miss {W} state host port room bytes ps a b w (outcome.Good body) tells wants gone dials backed =
    let read : Dials state host port (form_of wants.asked.kind) w.key a b (outcome.Good body) = subst (λ k. Dials state host port (form_of k) w.key a b (outcome.Good body)) (ap (λ (v : Wanted). v.kind) wants.is_wanted) dials in
    either host port (history state b.back) (nat_le (length body) most_kept) ((w.key, body) ∷ take (room - 1) ps) ps
    (λ small. backed-kept state host port wants.asked w.key body room a b ps tells (leb-true (length body) most_kept small) (ap (λ (v : Wanted). v.key) wants.is_wanted) (has-name wants.head.target wants.asked wants.target) gone read backed)
    (behind-dials state host port room bytes ps a b w (outcome.Good body) tells wants gone dials backed)
behind-miss state host port room bytes ps a b w (outcome.ServerError object) tells wants gone dials backed = behind-dials state host port room bytes ps a b w _ tells wants gone dials backed
behind-miss state host port room bytes ps a b w (outcome.Bad field) tells wants gone dials backed = behind-dials state host port room bytes ps a b w _ tells wants gone dials backed
behind-miss state host port room bytes ps a b w outcome.TooLarge tells wants gone dials backed = behind-dials state host port room bytes ps a b w _ tells wants gone dials backed
behind-miss state host port room bytes ps a b w outcome.ReadFault tells wants gone dials backed = behind-dials state host port room bytes ps a b w _ tells wants gone dials backed
behind-miss state host port room bytes ps a b w outcome.Memory tells wants gone dials backed = behind-dials state host port room bytes ps a b w _ tells wants gone dials backed

pub backed-comes : {W : Type 0} (state : W → LinkState) (NotCalled : Type 0) (host : List ℕ) (port room : ℕ) (bytes : List ℕ) (before now : Standing) (a b : DialState W) (result : Relayed) → ((l : W) → IsNew (state l) → IsSome (state l).written)
    → (NotCalled → b.back ≡ a.back) → ComesTo state NotCalled host port room bytes before now a b result → AreBacked host port (history state a.back) before.pairs → AreBacked host port (history state b.back) now.pairs
backed-comes {W} state NotCalled host port room bytes before now a b result tells back comes backed =
    subst (AreBacked host port (history state b.back)) (sym comes.keeps) (go comes.turn comes.is_turn comes.asks) where
      same : NotCalled → AreBacked host port (history state b.back) before.pairs
      same n = subst (λ k. AreBacked host port (history state k) before.pairs) (sym (back n)) backed

      go : (t : Turn) → IsTurn host port before.pairs bytes t → Asks state NotCalled host port before.pairs bytes a b t → AreBacked host port (history state b.back) (pairs_after room before.pairs t)
      go (early h given) is asks = same asks
      go (hit w body) is asks = backed-promoted host port w.key (history state b.back) before.pairs (same asks)
      go (miss w o) (wants, gone, other) asks = behind-miss state host port room bytes before.pairs a b w o tells wants gone asks backed
      go (no_memory h) is (inl n) = same n
      go (no_memory h) is (inr (w, o, wants, gone, dials)) = behind-dials state host port room bytes before.pairs a b w o tells wants gone dials backed
