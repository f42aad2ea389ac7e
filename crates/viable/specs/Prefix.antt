-- Viable prefixes: where a text first goes wrong. A language is a relation between lists of symbols and
-- what they spell; a test says which symbols there are.
use Rattle.std.specs.Prelude.{ℕ, ◌+◌, ◌<◌, ◌≤◌, Bool, List, ◌++◌, length, take, nat_lt, IsTrue}
use Rattle.std.specs.List.{list_all}

-- the symbols of a text of bytes
abbrev pub is_byte : ℕ → Bool
is_byte b = nat_lt b 256

-- with some more symbols behind them, these are a text of the language
abbrev pub Begins : {A V : Type 0} → (A → Bool) → (List A → V → Type 0) → List A → Type 0
Begins {A} {V} is_symbol Language front = (more : List A) × IsTrue (list_all is_symbol more) × (v : V) × Language (front ++ more) v

-- The text spells nothing, and its longest viable prefix has this many symbols: these begin some text
-- of the language, and with one more symbol they begin none.
pub record IsFault {A V : Type 0} (is_symbol : A → Bool) (Language : List A → V → Type 0) (text : List A) (place : ℕ) : Type 0 where
  pub spells_none : (v : V) → ¬ (Language text v)
  pub within : place ≤ length text
  pub viable : Begins is_symbol Language (take place text)
  pub longest : place < length text → ¬ (Begins is_symbol Language (take (place + 1) text))
