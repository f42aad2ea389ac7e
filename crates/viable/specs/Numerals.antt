-- Numbers as decimal digits.
use Rattle.std.specs.Prelude.{ℕ, ◌+◌, ◌-◌, ◌*◌, Bool, ◌&&◌, List, [], ◌∷◌, length, nat_le}
use Rattle.std.specs.Char.{is_ascii_digit}
use Rattle.viable.specs.Characters.{byte}
use Rattle.viable.specs.Runs.{is_run}

-- 1 to so many digits
abbrev pub is_numeral : ℕ → List ℕ → Bool
is_numeral most w = is_run is_ascii_digit w && nat_le (length w) most

-- the number that digits stand for, behind the digits of a number
abbrev pub decimal_from : ℕ → List ℕ → ℕ
decimal_from n [] = n
decimal_from n (digit ∷ digits) = decimal_from (n * 10 + (digit - byte "0")) digits

abbrev pub decimal : List ℕ → ℕ
decimal digits = decimal_from 0 digits
