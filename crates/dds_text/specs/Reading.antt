-- What bytes are to a reader of a DDS: the text of a dataset ends among them, they are bad at a place,
-- or neither. A text has at most 16,777,216 bytes, this project's limit.
use Rattle.std.specs.Prelude.{◌≡◌, ℕ, ◌<◌, ◌≤◌, ◌⊎◌, List, length, take}
use Rattle.dap_types.specs.Limits.{most_text}
use Rattle.dap_types.specs.Model.{Dataset}
use Rattle.dap_model.specs.Grammar.{DdsOf, Begins, IsBad, IsBadAt}
use Rattle.dap_model.specs.Tokens.{tokens_of}

-- the first n bytes are a text of the dataset
pub record IsEnded (bytes : List ℕ) (n : ℕ) (d : Dataset) : Type 0 where
  pub within : n ≤ length bytes
  pub is_text : DdsOf (take n bytes) d

-- no text of a dataset ends among them
abbrev pub Unended : List ℕ → Type 0
Unended bytes = (n : ℕ) (d : Dataset) → ¬ (IsEnded bytes n d)

-- their first bad token stands at this place, and no text ends before it
pub record IsDdsRefused (bytes : List ℕ) (place : ℕ) : Type 0 where
  pub bad : IsBadAt bytes place
  pub unended : Unended bytes

-- the whole tokens begin a text, none of them is bad, and no text ends among them
pub record IsOpen (bytes : List ℕ) : Type 0 where
  pub begins : Begins (tokens_of bytes)
  pub good : (k : ℕ) → k < length (tokens_of bytes) → ¬ (IsBad (tokens_of bytes) k)
  pub unended : Unended bytes

abbrev pub limit : ℕ
limit = most_text

-- Within the limit. The text ends behind n bytes:
abbrev pub IsDone : List ℕ → ℕ → Dataset → Type 0
IsDone bytes n d = IsEnded (take limit bytes) n d

-- it is bad at its first bad token, or where the limit is reached without its end
abbrev pub IsBadText : List ℕ → ℕ → Type 0
IsBadText bytes place = IsDdsRefused (take limit bytes) place ⊎ (IsOpen (take limit bytes) × (limit ≤ length bytes) × (place ≡ limit))

-- it may go on
abbrev pub IsUnfinished : List ℕ → Type 0
IsUnfinished bytes = IsOpen bytes × (length bytes < limit)
