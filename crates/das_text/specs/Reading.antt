-- What a text is to a reader of DAS texts: a DAS, bad at a place, followed by something else, or cut. The
-- DAS stands in the first 16,777,216 bytes, this project's limit.
use Rattle.std.specs.Prelude.{◌≡◌, ◌⊎◌, ℕ, ◌+◌, ◌<◌, ◌≤◌, not, List, ◌∷◌, ◌++◌, length, take, drop, IsTrue}
use Rattle.std.specs.List.{list_all}
use Rattle.text_tokens.specs.Languages.{SpellsTo, BadToken, Breaks}
use Rattle.text_tokens.specs.Tokens.{is_white}
use Rattle.das_text.specs.Grammar.{signs, IsDas}
use Rattle.das_text.specs.Model.{Attributes}
use Rattle.dap_types.specs.Limits.{most_text}

abbrev pub limit : ℕ
limit = most_text

abbrev pub front : List ℕ → List ℕ
front text = take limit text

-- a DAS of these attributes ends at a place
abbrev pub DasEndsAt : List ℕ → ℕ → Attributes → Type 0
DasEndsAt text behind a = SpellsTo signs IsDas (front text) behind a

-- the text is a DAS of these attributes
pub record DasOf (text : List ℕ) (a : Attributes) : Type 0 where
  pub behind : ℕ
  pub ends : DasEndsAt text behind a
  pub white : IsTrue (list_all is_white (drop behind text))

-- behind a place comes so much white space, and then another byte
pub record HasBehind (text : List ℕ) (behind place : ℕ) : Type 0 where
  pub white : List ℕ
  pub byte : ℕ
  pub rest : List ℕ
  pub bytes_are : drop behind text ≡ white ++ byte ∷ rest
  pub all_white : IsTrue (list_all is_white white)
  pub other : IsTrue (not (is_white byte))
  pub place_is : place ≡ behind + length white

-- something else than white space comes behind a DAS, first at this place
pub record IsTrailing (text : List ℕ) (place : ℕ) : Type 0 where
  pub behind : ℕ
  pub attributes : Attributes
  pub ends : DasEndsAt text behind attributes
  pub trails : HasBehind text behind place

-- the whole tokens within the limit begin a DAS and do not end it
abbrev pub IsUnended : List ℕ → Type 0
IsUnended text = Breaks signs IsDas (front text)

-- the text is bad at this place: behind the token there no DAS goes on, or no DAS ends within the limit
abbrev pub IsBad : List ℕ → ℕ → Type 0
IsBad text place = BadToken signs IsDas (front text) place ⊎ (IsUnended text × (limit ≤ length text) × (place ≡ limit))

-- the text ends within a DAS
abbrev pub IsCut : List ℕ → Type 0
IsCut text = IsUnended text × (length text < limit)
