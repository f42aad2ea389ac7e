-- Numbers by their digits.
use Rattle.std.proofs.Common.{◌≡◌, List, [], ◌∷◌, ℕ, ◌+◌, ◌*◌, ◌<◌, ◌≤◌, ◌^◌, length, take, IsTrue, arith, nat_le, zero, suc, add-one}
use Rattle.std.specs.Char.{is_ascii_digit, digit_value}
use Rattle.std.specs.Int.{IsInRange}
use Rattle.std.specs.List.{list_all}
use Rattle.std.specs.Str.Parse.{digits_value, digits_value_after, AllDigits}
use Rattle.std.proofs.lemmas.Bool.Decides.{nat_tests}
use Rattle.std.proofs.lemmas.Int.Digits.{digits_value-lt}
use Rattle.std.proofs.lemmas.Str.{digit_value_digit}
use Rattle.std.proofs.Math.Nat.{pow-le-pow_right, pow-suc}
use Rattle.viable.specs.Numerals.{is_numeral}
use Rattle.viable.proofs.Runs.{run_valid}
use Rattle.viable.proofs.Tests.{and_parts}

pub in_range : (c : ℕ) → IsTrue (is_ascii_digit c) → IsInRange 48 57 c
in_range c h = grind (arith, nat_tests)

digit_small : (c : ℕ) → IsTrue (is_ascii_digit c) → digit_value c < 10
digit_small c h = let v : digit_value c + 48 ≡ c = digit_value_digit c (in_range c h) in let r : c ≤ 57 = (in_range c h).1 in omega (arith, v, r)

in_base : (ds : List ℕ) → IsTrue (list_all is_ascii_digit ds) → AllDigits 10 ds
in_base [] all = tt
in_base (d ∷ ds) all = (digit_small d (and_parts _ _ all).0, in_base ds (and_parts _ _ all).1)

-- so few digits write so small a number
pub value_below : (ds : List ℕ) (most : ℕ) → IsTrue (list_all is_ascii_digit ds) → length ds ≤ most → digits_value 10 ds < 10 ^ most
value_below ds most all few =
    let a : digits_value 10 ds < 10 ^ length ds = digits_value-lt 10 ds (in_base ds all) in
    let b : 10 ^ length ds ≤ 10 ^ most = pow-le-pow_right (let z : 0 < 10 = omega arith in z) few in
    omega (arith, a, b)

-- more digits write no smaller number
after_ge : (n : ℕ) (ds : List ℕ) → n ≤ digits_value_after 10 n ds
after_ge n [] = omega arith
after_ge n (d ∷ ds) = omega (arith, after_ge (n * 10 + digit_value d) ds)

taken_le : (n : ℕ) (ds : List ℕ) (i : ℕ) → digits_value_after 10 n (take i ds) ≤ digits_value_after 10 n ds
taken_le n ds zero = after_ge n ds
taken_le n [] (suc i) = omega arith
taken_le n (d ∷ ds) (suc i) = taken_le (n * 10 + digit_value d) ds i

pub front_le : (ds : List ℕ) (i : ℕ) → digits_value 10 (take i ds) ≤ digits_value 10 ds
front_le ds i = taken_le 0 ds i

-- the value of a decimal digit
pub digit_is : (c : ℕ) → IsTrue (is_ascii_digit c) → (digit_value c + 48 ≡ c) × (c < 58)
digit_is c is = let range : IsInRange 48 57 c = in_range c is in (digit_value_digit c range, omega (arith, range))

-- a hexadecimal digit more
pub hex_more : (value digit n : ℕ) → value < 16 ^ n → digit < 16 → value * 16 + digit < 16 ^ (n + 1)
hex_more value digit n bound small =
    let step : 16 ^ (n + 1) ≡ 16 ^ n * 16 = rw add-one (pow-suc 16 n) in omega (arith, step, bound, small)

pub numeral_digits : (most : ℕ) (w : List ℕ) → IsTrue (is_numeral most w) → IsTrue (list_all is_ascii_digit w)
numeral_digits most w h = run_valid is_ascii_digit w (and_parts _ _ h).0

pub numeral_short : (most : ℕ) (w : List ℕ) → IsTrue (is_numeral most w) → length w ≤ most
numeral_short most w h = let short : IsTrue (nat_le (length w) most) = (and_parts _ _ h).1 in grind (arith, nat_tests)

pub ruleset numerals = (numeral_digits, numeral_short)
