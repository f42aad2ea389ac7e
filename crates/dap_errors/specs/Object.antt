-- Error objects (DAP 2.0, Error objects) as lists of tokens. Which fields an object has, and what a code
-- may be, is this project's profile.
--
--   error = "Error" "{" (word "=" (word | quoted) ";")* "}"
--
-- There is one field `code`, a word of an optional minus and 1 to 9 digits, and one field `message`, a
-- quoted text. The word `Error` and the names of the fields are read without regard to case.
use Rattle.std.specs.Prelude.{◌≡◌, ℕ, ℤ, pos, neg_ℤ, Bool, false, List, [], ◌∷◌, ◌++◌, ◌==◌, if◌then◌else◌, IsTrue, codes}
use Rattle.std.specs.List.{flat_map}
use Rattle.std.specs.Str.{str_eq_ignore_ascii_case}
use Rattle.std.specs.Str.Parse.{digits_value}
use Rattle.viable.specs.Characters.{byte}
use Rattle.viable.specs.Quoted.{Piece, quoted_value}
use Rattle.viable.specs.Numerals.{is_numeral}
use Rattle.text_tokens.specs.Tokens.{Token, sign, word, quoted}
use Rattle.dap_errors.specs.declared.object.ErrorObject.{ErrorObject}

abbrev pub signs : List ℕ
signs = codes "{};="

pub data Value : Type 0 where
  bare : List ℕ → Value
  text : List Piece → Value

pub record Field : Type 0 where
  pub label : List ℕ
  pub value : Value

abbrev pub value_token : Value → Token
value_token (bare bytes) = word bytes
value_token (text pieces) = quoted pieces

abbrev pub field_tokens : Field → List Token
field_tokens f = word f.label ∷ sign (byte "=") ∷ value_token f.value ∷ sign (byte ";") ∷ []

abbrev pub object_tokens : List ℕ → List Field → List Token
object_tokens name fields = word name ∷ sign (byte "{") ∷ (flat_map field_tokens fields ++ sign (byte "}") ∷ [])

unfoldable pub is_error_word : List ℕ → Bool
is_error_word w = str_eq_ignore_ascii_case (codes "error") w

unfoldable pub is_code : List ℕ → Bool
is_code label = str_eq_ignore_ascii_case (codes "code") label

unfoldable pub is_message : List ℕ → Bool
is_message label = str_eq_ignore_ascii_case (codes "message") label

-- the values of the fields whose label passes a test
abbrev pub values : (List ℕ → Bool) → List Field → List Value
values test [] = []
values test (f ∷ fields) = if test f.label then f.value ∷ values test fields else values test fields

abbrev pub has_minus : List ℕ → Bool
has_minus [] = false
has_minus (b ∷ bytes) = b == byte "-"

-- a word without the minus that it may begin with
abbrev pub unsigned : List ℕ → List ℕ
unsigned [] = []
unsigned (b ∷ bytes) = if b == byte "-" then bytes else b ∷ bytes

abbrev pub is_code_word : List ℕ → Bool
is_code_word w = is_numeral 9 (unsigned w)

abbrev pub code_value : List ℕ → ℤ
code_value w = if has_minus w then neg_ℤ (pos (digits_value 10 (unsigned w))) else pos (digits_value 10 (unsigned w))

-- the tokens are an Error object of this code and message
pub record IsObject (tokens : List Token) (error : ErrorObject) : Type 0 where
  pub name : List ℕ
  pub fields : List Field
  pub code : List ℕ
  pub message : List Piece
  pub named : IsTrue (is_error_word name)
  pub spelled : tokens ≡ object_tokens name fields
  pub one_code : values is_code fields ≡ bare code ∷ []
  pub code_fits : IsTrue (is_code_word code)
  pub code_is : error.code ≡ code_value code
  pub one_message : values is_message fields ≡ text message ∷ []
  pub message_is : error.message ≡ quoted_value message
