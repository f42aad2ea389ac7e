-- Tokens of a text in which white space is free: signs, words, and quoted texts. Which bytes are signs is
-- for each language to say.
use Rattle.std.specs.Prelude.{◌≡◌, ℕ, ◌+◌, ◌⊎◌, Bool, true, false, ◌&&◌, ◌||◌, not, List, [], ◌∷◌, ◌++◌, length, drop, ◌==◌, IsTrue, codes}
use Rattle.std.specs.List.{list_all, list_any}
use Rattle.viable.specs.Characters.{byte}
use Rattle.viable.specs.Quoted.{Piece, is_piece, spelling, IsOpen}
use Rattle.viable.specs.Runs.{is_run}

pub data Token : Type 0 where
  sign : ℕ → Token
  -- a longest run of bytes other than white space, signs and quotes
  word : List ℕ → Token
  quoted : List Piece → Token

-- a token, and the number of bytes before it
pub record Placed : Type 0 where
  pub token : Token
  pub place : ℕ

-- a tab, a line feed, a carriage return or a space
abbrev pub is_white : ℕ → Bool
is_white b = b == byte "\t" || b == byte "\n" || b == byte "\r" || b == byte " "

abbrev pub is_sign : List ℕ → ℕ → Bool
is_sign signs b = list_any (λ c. c == b) signs

abbrev pub is_word_byte : List ℕ → ℕ → Bool
is_word_byte signs b = not (is_white b) && not (b == byte "\"") && not (is_sign signs b)

abbrev pub token_bytes : Token → List ℕ
token_bytes (sign b) = b ∷ []
token_bytes (word bytes) = bytes
token_bytes (quoted pieces) = codes "\"" ++ spelling pieces ++ codes "\""

abbrev pub is_token : List ℕ → Token → Bool
is_token signs (sign b) = not (is_white b) && not (b == byte "\"") && is_sign signs b
is_token signs (word bytes) = is_run (is_word_byte signs) bytes
is_token signs (quoted pieces) = list_all is_piece pieces

-- A word is whole once a byte that is none of its own is there.
abbrev pub is_whole : List ℕ → Token → List ℕ → Bool
is_whole signs (word bytes) [] = false
is_whole signs (word bytes) (b ∷ rest) = not (is_word_byte signs b)
is_whole signs (sign b) rest = true
is_whole signs (quoted pieces) rest = true

-- a whole token stands at a place, and `behind` is the place behind it
pub record TokenAt (signs text : List ℕ) (place behind : ℕ) (token : Token) : Type 0 where
  pub bytes_are : drop place text ≡ token_bytes token ++ drop behind text
  pub behind_is : behind ≡ place + length (token_bytes token)
  pub is_one : IsTrue (is_token signs token)
  pub whole : IsTrue (is_whole signs token (drop behind text))

-- white space and then a whole token at `place` stand from a place on
pub record Next (signs text : List ℕ) (at place behind : ℕ) (token : Token) : Type 0 where
  pub white : List ℕ
  pub all_white : IsTrue (list_all is_white white)
  pub white_is : drop at text ≡ white ++ drop place text
  pub place_is : place ≡ at + length white
  pub token_at : TokenAt signs text place behind token

-- the front of a word, or of a quoted text that is not ended, or nothing
abbrev pub IsPart : List ℕ → List ℕ → Type 0
IsPart signs left =
    IsTrue (list_all (is_word_byte signs) left)
    ⊎ ((pieces : List Piece) × (end : List ℕ) × IsTrue (list_all is_piece pieces) × IsOpen end × (left ≡ codes "\"" ++ spelling pieces ++ end))

-- no whole token is left
pub record NoToken (signs rest : List ℕ) : Type 0 where
  pub white : List ℕ
  pub left : List ℕ
  pub all_white : IsTrue (list_all is_white white)
  pub bytes_are : rest ≡ white ++ left
  pub part : IsPart signs left

-- these whole tokens stand one behind the other from a place on, and `to` is the place behind them
abbrev pub Reads : List ℕ → List ℕ → ℕ → List Placed → ℕ → Type 0
Reads signs text at [] to = to ≡ at
Reads signs text at (t ∷ tokens) to = (behind : ℕ) × Next signs text at t.place behind t.token × Reads signs text behind tokens to

-- these are the whole tokens of the text
abbrev pub AreTokens : List ℕ → List ℕ → List Placed → Type 0
AreTokens signs text tokens = (to : ℕ) × Reads signs text 0 tokens to × NoToken signs (drop to text)
