-- Quoted texts (DAP 2.0, strings of a DAS and of a constraint expression): they begin and end with a
-- double quote, and inside them a backslash and the byte behind it belong together. Which pairs stand
-- for one byte is this project's profile.
use Rattle.std.specs.Prelude.{◌≡◌, ℕ, ◌+◌, ◌<◌, ◌⊎◌, Bool, true, false, ◌||◌, not, List, [], ◌∷◌, ◌++◌, length, drop, ◌==◌, if◌then◌else◌, IsTrue, codes, slice_index}
use Rattle.std.specs.List.{flat_map, list_all}
use Rattle.viable.specs.Characters.{byte}

-- a byte that stands for itself, or a backslash and any byte
pub data Piece : Type 0 where
  plain escaped : ℕ → Piece

-- what stands for itself is neither a quote nor a backslash
abbrev pub is_piece : Piece → Bool
is_piece (plain b) = not (b == byte "\"" || b == byte "\\")
is_piece (escaped b) = true

abbrev pub piece_bytes : Piece → List ℕ
piece_bytes (plain b) = b ∷ []
piece_bytes (escaped b) = byte "\\" ∷ b ∷ []

-- \" stands for " and \\ for \ ; any other pair for its two bytes
abbrev pub piece_value : Piece → List ℕ
piece_value (plain b) = b ∷ []
piece_value (escaped b) = if b == byte "\"" || b == byte "\\" then b ∷ [] else byte "\\" ∷ b ∷ []

-- the bytes between the quotes
abbrev pub spelling : List Piece → List ℕ
spelling pieces = flat_map piece_bytes pieces

-- the text that they stand for
abbrev pub quoted_value : List Piece → List ℕ
quoted_value pieces = flat_map piece_value pieces

-- what bytes between quotes stand for, byte by byte; `pending` behind a backslash that takes the next byte
abbrev pub unescaped_from : Bool → List ℕ → List ℕ
unescaped_from false [] = []
unescaped_from true [] = codes "\\"
unescaped_from false (b ∷ bytes) = if b == byte "\\" then unescaped_from true bytes else b ∷ unescaped_from false bytes
unescaped_from true (b ∷ bytes) = piece_value (escaped b) ++ unescaped_from false bytes

-- what bytes between quotes stand for
abbrev pub unescape : List ℕ → List ℕ
unescape bytes = unescaped_from false bytes

-- a quote and a backslash go behind a backslash, any other byte stands for itself
abbrev pub escaped_piece : ℕ → Piece
escaped_piece b = if b == byte "\"" || b == byte "\\" then escaped b else plain b

-- the bytes between quotes that stand for a text
unfoldable pub escape : List ℕ → List ℕ
escape bytes = flat_map (λ b. piece_bytes (escaped_piece b)) bytes

-- the bytes from `from` to `to` spell these pieces
pub record ArePieces (text : List ℕ) (from to : ℕ) (pieces : List Piece) : Type 0 where
  pub whole : drop from text ≡ spelling pieces ++ drop to text
  pub to_is : to ≡ from + length (spelling pieces)
  pub each : IsTrue (list_all is_piece pieces)

-- what is left of a quoted text that the text does not end: nothing, or a backslash
abbrev pub IsOpen : List ℕ → Type 0
IsOpen left = (left ≡ []) ⊎ (left ≡ codes "\\")

-- a quote stands at the place, or no quote ends the text
abbrev pub Stops : List ℕ → ℕ → Type 0
Stops text at = ((at < length text) × (slice_index text at ≡ 34)) ⊎ IsOpen (drop at text)
