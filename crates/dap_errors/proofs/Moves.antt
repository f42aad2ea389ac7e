-- How a reader goes on over a token, and how it stops.
use Rattle.std.proofs.Common.{◌≡◌, List, [], ◌∷◌, ◌++◌, ℕ, drop, refl, ap, Some, None, ◌==◌}
use Rattle.std.proofs.lemmas.Bool.{ne_eqb}
use Rattle.text_tokens.specs.Tokens.{Token, sign, word, quoted, Next, NoToken}
use Rattle.text_tokens.proofs.Machines as machines
use Rattle.dap_errors.specs.Object.{signs, Value, Field}
use Rattle.dap_errors.specs.inner.Machine.{State, Start, Named, Fields, Labelled, Assigned, Valued, field_of, next_when, step, IsOpenState}
use Rattle.dap_errors.specs.inner.Standing.{StandsAt, StopsAt, WantsSign}
use Rattle.dap_errors.specs.declared.object.Stop.TheVariants.{Bad, End}

-- the reader goes on over a token
pub moves : (text : List ℕ) (at place behind : ℕ) (t : Token) (s next : State) → StandsAt text at s → Next signs text at place behind t → step s t ≡ Some next → StandsAt text behind next
moves = machines.moves signs step Start

-- the reader stops at a token
pub stops_bad : (text : List ℕ) (at place behind : ℕ) (t : Token) (s : State) → StandsAt text at s → Next signs text at place behind t → IsOpenState s → step s t ≡ None → StopsAt text (Bad place)
stops_bad text at place behind t s st n o e = (at, behind, t, s, st, o, n, e)

-- the reader stops where no whole token is left
pub stops_end : (text : List ℕ) (at : ℕ) (s : State) → StandsAt text at s → NoToken signs (drop at text) → IsOpenState s → StopsAt text End
stops_end text at s st n o = (at, s, st, o, n)

pub starts : (text : List ℕ) → StandsAt text 0 Start
starts = machines.starts signs step Start

-- the states in which one sign alone leads on

sign_alone : (b c : ℕ) (next : State) → (sign b ≡ sign c → ⊥) → next_when (b == c) next ≡ None
sign_alone b c next h = rw (ne_eqb b c (λ e. h (ap sign e))) refl

pub named_wants : WantsSign Named 123 (Fields [])
named_wants = (refl, none, tt)
  where
    none : (t : Token) → (t ≡ sign 123 → ⊥) → step Named t ≡ None
    none (sign b) h = sign_alone b 123 (Fields []) h
    none (word w) h = refl
    none (quoted p) h = refl

pub labelled_wants : (done : List Field) (label : List ℕ) → WantsSign (Labelled done label) 61 (Assigned done label)
labelled_wants done label = (refl, none, tt)
  where
    none : (t : Token) → (t ≡ sign 61 → ⊥) → step (Labelled done label) t ≡ None
    none (sign b) h = sign_alone b 61 (Assigned done label) h
    none (word w) h = refl
    none (quoted p) h = refl

pub valued_wants : (done : List Field) (label : List ℕ) (value : Value) → WantsSign (Valued done label value) 59 (Fields (done ++ field_of label value ∷ []))
valued_wants done label value = (refl, none, tt)
  where
    none : (t : Token) → (t ≡ sign 59 → ⊥) → step (Valued done label value) t ≡ None
    none (sign b) h = sign_alone b 59 (Fields (done ++ field_of label value ∷ [])) h
    none (word w) h = refl
    none (quoted p) h = refl
