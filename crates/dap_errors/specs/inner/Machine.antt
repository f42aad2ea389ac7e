-- The grammar of Error objects as a machine over tokens.
use Rattle.std.specs.Prelude.{ℕ, ℤ, pos, Bool, true, false, ◌&&◌, ◌||◌, not, List, [], ◌∷◌, ◌++◌, Option, Some, None, ◌==◌}
use Rattle.viable.specs.Characters.{byte}
use Rattle.viable.specs.Quoted.{quoted_value}
use Rattle.text_tokens.specs.Tokens.{Token, sign, word, quoted}
use Rattle.dap_errors.specs.Object.{Value, bare, text, Field, is_error_word, is_code, is_message, is_code_word, code_value, values}
use Rattle.dap_errors.specs.declared.object.ErrorObject.{ErrorObject}

-- How much of an object was read: nothing, its word, fields behind the brace, then the name of a field,
-- its equals sign, its value; or all of it, which says this.
pub data State : Type 0 where
  Start Named : State
  Fields : List Field → State
  Labelled : List Field → List ℕ → State
  Assigned : List Field → List ℕ → State
  Valued : List Field → List ℕ → Value → State
  Ended : ErrorObject → State

abbrev pub is_none_of : List Value → Bool
is_none_of [] = true
is_none_of (v ∷ vs) = false

-- a field may have this name behind these
abbrev pub may_label : List Field → List ℕ → Bool
may_label done label = (not (is_code label) || is_none_of (values is_code done)) && (not (is_message label) || is_none_of (values is_message done))

abbrev pub holds_code : Value → Bool
holds_code (bare bytes) = is_code_word bytes
holds_code (text pieces) = false

abbrev pub holds_message : Value → Bool
holds_message (bare bytes) = false
holds_message (text pieces) = true

-- a field of this name may have this value
abbrev pub may_hold : List ℕ → Value → Bool
may_hold label value = (not (is_code label) || holds_code value) && (not (is_message label) || holds_message value)

-- both a code and a message are there
abbrev pub has_both : List Field → Bool
has_both done = not (is_none_of (values is_code done)) && not (is_none_of (values is_message done))

-- the first of the values, where it is the code or the message
abbrev pub first_code : List Value → ℤ
first_code (bare w ∷ vs) = code_value w
first_code vs = pos 0

abbrev pub first_message : List Value → List ℕ
first_message (text p ∷ vs) = quoted_value p
first_message vs = []

-- what the fields say
abbrev pub said_by : List Field → ErrorObject
said_by done = record { code = first_code (values is_code done); message = first_message (values is_message done) }

abbrev pub field_of : List ℕ → Value → Field
field_of label value = record { label = label; value = value }

abbrev pub next_when : Bool → State → Option State
next_when true s = Some s
next_when false s = None

-- the state after one more token
abbrev pub step : State → Token → Option State
step Start (word w) = next_when (is_error_word w) Named
step Start _ = None
step Named (sign b) = next_when (b == byte "{") (Fields [])
step Named _ = None
step (Fields done) (word label) = next_when (may_label done label) (Labelled done label)
step (Fields done) (sign b) = next_when (b == byte "}" && has_both done) (Ended (said_by done))
step (Fields done) (quoted p) = None
step (Labelled done label) (sign b) = next_when (b == byte "=") (Assigned done label)
step (Labelled done label) _ = None
step (Assigned done label) (word w) = next_when (may_hold label (bare w)) (Valued done label (bare w))
step (Assigned done label) (quoted p) = next_when (may_hold label (text p)) (Valued done label (text p))
step (Assigned done label) (sign b) = None
step (Valued done label value) (sign b) = next_when (b == byte ";") (Fields (done ++ field_of label value ∷ []))
step (Valued done label value) _ = None
step (Ended error) _ = None

-- the object is not read to its end
abbrev pub IsOpenState : State → Type 0
IsOpenState (Ended error) = ⊥
IsOpenState _ = Unit {0}
