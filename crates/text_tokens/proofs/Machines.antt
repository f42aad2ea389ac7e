-- What a machine that reads a language says of a text.
use Rattle.std.proofs.Common.{◌≡◌, List, [], ◌∷◌, ◌++◌, ℕ, refl, sym, ap, subst, ◌∙◌, append_assoc, Option, Some, None}
use Rattle.std.specs.Option.{option_and_then}
use Rattle.std.proofs.lemmas.List.{map-append}
use Rattle.viable.proofs.Tests.{and_parts}
use Rattle.text_tokens.specs.Tokens.{Token, Placed, Next, Reads}
use Rattle.text_tokens.specs.Languages.{tokens_of, BeginsOne, Unended, SpellsTo, BadToken, Breaks}
use Rattle.text_tokens.specs.inner.Machines.{run, IsMachine, StandsAt, StopsBad, StopsOpen}

pub run_append : {S : Type 0} (step : S → Token → Option S) (s : S) (ts us : List Token) → run step s (ts ++ us) ≡ option_and_then (λ m. run step m us) (run step s ts)
run_append {S} step s [] us = refl
run_append {S} step s (t ∷ ts) us = on (step s t) (λ n. run_append step n ts us)
  where
    on : (o : Option S) → ((n : S) → run step n (ts ++ us) ≡ option_and_then (λ m. run step m us) (run step n ts)) → option_and_then (λ n. run step n (ts ++ us)) o ≡ option_and_then (λ m. run step m us) (option_and_then (λ n. run step n ts) o)
    on None h = refl
    on (Some n) h = h n

pub run_on : {S : Type 0} (step : S → Token → Option S) (s m last : S) (ts us : List Token) → run step s ts ≡ Some m → run step m us ≡ Some last → run step s (ts ++ us) ≡ Some last
run_on {S} step s m last ts us r q = run_append step s ts us ∙ ap (λ (o : Option S). option_and_then (λ m. run step m us) o) r ∙ q

-- one more token leads on
pub run_more : {S : Type 0} (step : S → Token → Option S) (s m next : S) (ts : List Token) (t : Token) → run step s ts ≡ Some m → step m t ≡ Some next → run step s (ts ++ t ∷ []) ≡ Some next
run_more {S} step s m next ts t r q = run_on step s m next ts (t ∷ []) r (ap (λ (o : Option S). option_and_then (λ n. run step n []) o) q)

-- a state that reads no more tokens
none_on : {S : Type 0} (step : S → Token → Option S) (s m last : S) (ts us : List Token) (t : Token) → run step s ts ≡ Some m → step m t ≡ None → run step s (ts ++ t ∷ us) ≡ Some last → ⊥
none_on {S} step s m last ts us t r n q =
    let split : option_and_then (λ k. run step k (t ∷ us)) (run step s ts) ≡ Some last = sym (run_append step s ts (t ∷ us)) ∙ q in
    let at : option_and_then (λ k. run step k (t ∷ us)) (Some m) ≡ Some last = ap (λ (z : Option S). option_and_then (λ k. run step k (t ∷ us)) z) (sym r) ∙ split in
    let none : None ≡ Some last = ap (λ (z : Option S). option_and_then (λ k. run step k us) z) (sym n) ∙ at in
    cc

reads_more : (signs text : List ℕ) (at : ℕ) (tokens : List Placed) (to place behind : ℕ) (t : Token) → Reads signs text at tokens to → Next signs text to place behind t → Reads signs text at (tokens ++ record { token = t; place = place } ∷ []) behind
reads_more signs text at [] to place behind t r n = (behind, subst (λ (k : ℕ). Next signs text k place behind t) r n, refl)
reads_more signs text at (x ∷ tokens) to place behind t (b, first, rest) n = (b, first, reads_more signs text b tokens to place behind t rest n)

-- the reader goes on over a token
pub moves : {S : Type 0} (signs : List ℕ) (step : S → Token → Option S) (start : S) (text : List ℕ) (at place behind : ℕ) (t : Token) (s next : S) → StandsAt signs step start text at s → Next signs text at place behind t → step s t ≡ Some next → StandsAt signs step start text behind next
moves signs step start text at place behind t s next (tokens, reads, r) n e = (
  tokens ++ record { token = t; place = place } ∷ [],
  reads_more signs text 0 tokens at place behind t reads n,
  ap (run step start) (map-append (λ p. p.token) tokens (record { token = t; place = place } ∷ [])) ∙ run_more step start s next (tokens_of tokens) t r e,
)

pub starts : {S : Type 0} (signs : List ℕ) (step : S → Token → Option S) (start : S) (text : List ℕ) → StandsAt signs step start text 0 start
starts signs step start text = ([], refl, refl)

module _ {S V : Type 0} (signs : List ℕ) (Language : List Token → V → Type 0) (step : S → Token → Option S) (start : S) (ended : V → S) (IsOpen : S → Type 0) (m : IsMachine signs Language step start ended IsOpen) where
  -- no text of the language goes on behind its end
  pub prefix_free : (a us : List Token) (t : Token) (v w : V) → Language a v → Language (a ++ t ∷ us) w → ⊥
  prefix_free a us t v w x y = none_on step start (ended v) (ended w) a us t (m.complete a v x) (m.last v t) (m.complete (a ++ t ∷ us) w y)

  -- tokens say one thing
  pub says_one : (a : List Token) (v w : V) → Language a v → Language a w → v ≡ w
  says_one a v w x y = let e : Some (ended v) ≡ Some (ended w) = sym (m.complete a v x) ∙ m.complete a w y in m.one v w (let f : ended v ≡ ended w = cc in f)

  -- from an open state a text goes on
  pub unended : (tokens : List Token) (s : S) → run step start tokens ≡ Some s → IsOpen s → Unended signs Language tokens
  unended tokens s r o =
      let (t, more, valid, v, q) = m.live tokens s r o in
      let whole = m.sound (tokens ++ t ∷ more) v (run_on step start s (ended v) tokens (t ∷ more) r q) in
      let valids = and_parts _ _ valid in
      (t, valids.0, (more, valids.1, v, subst (λ (z : List Token). Language z v) (sym (append_assoc tokens (t ∷ []) more)) whole))

  -- where a state does not read a token, no text goes on
  pub dead : (tokens : List Token) (s : S) (t : Token) → run step start tokens ≡ Some s → step s t ≡ None → BeginsOne signs Language (tokens ++ t ∷ []) → ⊥
  dead tokens s t r n (more, valid, v, x) =
      none_on step start s (ended v) tokens more t r n (ap (run step start) (sym (append_assoc tokens (t ∷ []) more)) ∙ m.complete ((tokens ++ t ∷ []) ++ more) v x)

  pub spells_of : (text : List ℕ) (behind : ℕ) (v : V) → StandsAt signs step start text behind (ended v) → SpellsTo signs Language text behind v
  spells_of text behind v (tokens, reads, r) = record { tokens = tokens; read = reads; says = m.sound (tokens_of tokens) v r }

  pub bad_of : (text : List ℕ) (place : ℕ) → StopsBad signs step start IsOpen text place → BadToken signs Language text place
  bad_of text place (at, behind, bad, s, (tokens, reads, r), o, n, e) =
      record { tokens = tokens; at = at; bad = bad; behind = behind; read = reads; next = n; unended = unended (tokens_of tokens) s r o; ends = dead (tokens_of tokens) s bad r e }

  pub breaks_of : (text : List ℕ) → StopsOpen signs step start IsOpen text → Breaks signs Language text
  breaks_of text (at, s, (tokens, reads, r), o, n) = record { tokens = tokens; at = at; read = reads; no_more = n; unended = unended (tokens_of tokens) s r o }
