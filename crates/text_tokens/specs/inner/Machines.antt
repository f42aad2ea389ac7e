-- Machines that read tokens one by one, for the contracts of readers.
use Rattle.std.specs.Prelude.{◌≡◌, ℕ, ◌⊎◌, List, [], ◌∷◌, drop, IsTrue, Option, Some, None}
use Rattle.std.specs.List.{list_all}
use Rattle.std.specs.Option.{option_and_then}
use Rattle.text_tokens.specs.Tokens.{Token, Placed, is_token, Next, NoToken, Reads}
use Rattle.text_tokens.specs.Languages.{tokens_of}

-- the state behind these tokens
abbrev pub run : {S : Type 0} → (S → Token → Option S) → S → List Token → Option S
run step s [] = Some s
run step s (t ∷ tokens) = option_and_then (λ next. run step next tokens) (step s t)

-- The machine reads the texts of the language: it ends in a state that says what the text spells. From
-- each open state some tokens lead to such an end, and no token leads on from an end.
pub record IsMachine {S V : Type 0} (signs : List ℕ) (Language : List Token → V → Type 0) (step : S → Token → Option S) (start : S) (ended : V → S) (IsOpen : S → Type 0) : Type 0 where
  pub complete : (tokens : List Token) (v : V) → Language tokens v → run step start tokens ≡ Some (ended v)
  pub sound : (tokens : List Token) (v : V) → run step start tokens ≡ Some (ended v) → Language tokens v
  pub live : (tokens : List Token) (s : S) → run step start tokens ≡ Some s → IsOpen s → (t : Token) × (more : List Token) × IsTrue (list_all (is_token signs) (t ∷ more)) × (v : V) × (run step s (t ∷ more) ≡ Some (ended v))
  pub last : (v : V) (t : Token) → step (ended v) t ≡ None
  pub one : (v w : V) → ended v ≡ ended w → v ≡ w
  pub ends : (s : S) → IsOpen s ⊎ ((v : V) × (s ≡ ended v))
  pub begins : IsOpen start

-- the whole tokens before the place lead to the state
abbrev pub StandsAt : {S : Type 0} → List ℕ → (S → Token → Option S) → S → List ℕ → ℕ → S → Type 0
StandsAt signs step start text at s = (tokens : List Placed) × Reads signs text 0 tokens at × (run step start (tokens_of tokens) ≡ Some s)

-- the token at this place is not one that the state before it reads
abbrev pub StopsBad : {S : Type 0} → List ℕ → (S → Token → Option S) → S → (S → Type 0) → List ℕ → ℕ → Type 0
StopsBad {S} signs step start IsOpen text place =
    (at behind : ℕ) × (bad : Token) × (s : S) × StandsAt signs step start text at s × IsOpen s × Next signs text at place behind bad × (step s bad ≡ None)

-- no whole token is left, and the state is no end
abbrev pub StopsOpen : {S : Type 0} → List ℕ → (S → Token → Option S) → S → (S → Type 0) → List ℕ → Type 0
StopsOpen {S} signs step start IsOpen text = (at : ℕ) × (s : S) × StandsAt signs step start text at s × IsOpen s × NoToken signs (drop at text)
