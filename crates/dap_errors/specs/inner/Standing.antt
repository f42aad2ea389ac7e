-- Where a reader of an Error object stands, for the contracts of its parts.
use Rattle.std.specs.Prelude.{◌≡◌, ℕ, ℤ, Bool, false, List, [], ◌∷◌, IsTrue, Option, Some, None, if◌then◌else◌}
use Rattle.std.specs.Str.{str_eq_ignore_ascii_case}
use Rattle.viable.specs.Quoted.{Piece, quoted_value}
use Rattle.text_tokens.specs.inner.Machines as machines
use Rattle.text_tokens.specs.Tokens.{Token, sign, word, quoted}
use Rattle.dap_errors.specs.Object.{signs, Value, bare, text, Field, is_code, is_message, is_code_word, code_value, values}
use Rattle.dap_errors.specs.inner.Machine.{State, Start, step, IsOpenState}
use Rattle.dap_errors.specs.declared.object.ErrorObject.{ErrorObject}
use Rattle.dap_errors.specs.declared.object.Stop.{Stop}
use Rattle.dap_errors.specs.declared.object.Stop.TheVariants as stops
use Rattle.dap_errors.specs.declared.found.Found.{Found}
use Rattle.dap_errors.specs.declared.found.Label.{Label}
use Rattle.dap_errors.specs.declared.found.Label.TheVariants as labels

-- the whole tokens before the place lead to the state
abbrev pub StandsAt : List ℕ → ℕ → State → Type 0
StandsAt bytes at s = machines.StandsAt signs step Start bytes at s

-- the next token is not one that the state reads, or there is none
abbrev pub StopsAt : List ℕ → Stop → Type 0
StopsAt bytes (stops.Bad place) = machines.StopsBad signs step Start IsOpenState bytes place
StopsAt bytes stops.End = machines.StopsOpen signs step Start IsOpenState bytes
StopsAt bytes stops.Memory = Unit {0}

-- only this sign leads on
abbrev pub WantsSign : State → ℕ → State → Type 0
WantsSign s b next = (step s (sign b) ≡ Some next) × ((t : Token) → (t ≡ sign b → ⊥) → step s t ≡ None) × IsOpenState s

-- a word that is this name without regard to case
abbrev pub has_name : List ℕ → Token → Bool
has_name name (word w) = str_eq_ignore_ascii_case name w
has_name name (sign b) = false
has_name name (quoted p) = false

abbrev pub label_kind : List ℕ → Label
label_kind w = if is_code w then labels.Code else (if is_message w then labels.Message else labels.Other)

-- the code that was found among these values
abbrev pub HoldsCode : Option ℤ → List Value → Type 0
HoldsCode None vs = vs ≡ []
HoldsCode (Some z) vs = (w : List ℕ) × (vs ≡ bare w ∷ []) × IsTrue (is_code_word w) × (z ≡ code_value w)

-- the message that was found among these values
abbrev pub HoldsMessage : Option (List ℕ) → List Value → Type 0
HoldsMessage None vs = vs ≡ []
HoldsMessage (Some m) vs = (p : List Piece) × (vs ≡ text p ∷ []) × (m ≡ quoted_value p)

-- what was found among these fields
abbrev pub Holds : Found → List Field → Type 0
Holds found done = HoldsCode found.code (values is_code done) × HoldsMessage found.message (values is_message done)

abbrev pub Says : ErrorObject → List Field → Type 0
Says error done = HoldsCode (Some error.code) (values is_code done) × HoldsMessage (Some error.message) (values is_message done)
