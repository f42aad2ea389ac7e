-- A case as its files have it.
use Rattle.std.specs.Prelude.{◌≡◌, ℕ, List, [], ◌∷◌}
use Rattle.std.specs.Str.{trim_end}
use Rattle.std.specs.Str.Lines.{lines}
use Rattle.std.specs.Str.Parse.{IsNumeral, digits_value, without_leading_plus}
use Rattle.dap_cases.specs.declared.case.Case.{Case}

-- the number that a text is in digits, with or without a plus before and blanks behind them, and 0 where nothing stands
abbrev pub IsNumber : List ℕ → ℕ → Type 0
IsNumber [] n = n ≡ 0
IsNumber (byte ∷ rest) n = IsNumeral 10 (without_leading_plus (trim_end (byte ∷ rest))) × (n ≡ digits_value 10 (without_leading_plus (trim_end (byte ∷ rest))))

-- the words, a line each, what standard input gives, and what must come
pub record IsCase (args stdin stdout stderr status : List ℕ) (c : Case) : Type 0 where
  pub words : c.words ≡ lines args
  pub input : c.input ≡ stdin
  pub out : c.wanted.out ≡ stdout
  pub err : c.wanted.err ≡ stderr
  pub number : IsNumber status c.wanted.status
