-- Which cells are whole numbers and bits, from what was read of them.
use Rattle.std.proofs.Common.{◌≡◌, ◌<◌, ◌^◌, ℕ, Bool, true, false, List, [], ◌∷◌, length, take, drop, Option, Some, None, refl, sym, ◌∙◌, arith, inl, inr}
use Rattle.std.specs.Prelude.{◌⊎◌, ◌&&◌, ◌==◌, ℤ, pos, neg_ℤ, cond, codes, int_le, int_lt, ◌≤ℤ◌, ◌<ℤ◌, MatchOption, unwrap_or}
use Rattle.std.specs.Char.{is_ascii_hexdigit}
use Rattle.std.specs.List.{list_all}
use Rattle.std.specs.Str.{bytes_eq}
use Rattle.std.proofs.lemmas.Bool.Decides.{nat_tests}
use Rattle.std.proofs.lemmas.Int.Digits.{digits_value-lt}
use Rattle.std.specs.Str.Parse.{AllDigits, digits_value, signed_digits_value, starts_with_minus, without_leading_sign}
use Rattle.std.proofs.lemmas.Int.{ints}
use Rattle.std.proofs.lemmas.Bool.{and_right}
use Rattle.plain_lemmas.proofs.Truths.{both_true}
use Rattle.dap_types.specs.declared.declarations.BaseType.{BaseType}
use Rattle.dap_types.specs.declared.declarations.BaseType.TheVariants.{Byte, Int16, UInt16, Int32, UInt32, Float32, Float64, Text, Url}
use Rattle.csv_source.specs.Cells.{are_digits, bits_of, is_bits, is_in, is_whole, least, limit, trimmed, whole_of}

pub in-range : (base : BaseType) (z : ℤ) → is_in base z ≡ true → (least base ≤ℤ z) × (z <ℤ limit base)
in-range base z is =
    let (low, high) = both_true (int_le (least base) z) (int_lt z (limit base)) is in
    (grind (arith, ints, low), grind (arith, ints, high))

-- no type goes below -2^31 or past 2^32
bounds : (base : BaseType) → (neg_ℤ (pos (2 ^ 31)) ≤ℤ least base) × (limit base ≤ℤ pos (2 ^ 32))
bounds Byte = (omega (arith, ints), omega (arith, ints))
bounds Int16 = (omega (arith, ints), omega (arith, ints))
bounds UInt16 = (omega (arith, ints), omega (arith, ints))
bounds Int32 = (omega (arith, ints), omega (arith, ints))
bounds UInt32 = (omega (arith, ints), omega (arith, ints))
bounds Float32 = (omega (arith, ints), omega (arith, ints))
bounds Float64 = (omega (arith, ints), omega (arith, ints))
bounds Text = (omega (arith, ints), omega (arith, ints))
bounds Url = (omega (arith, ints), omega (arith, ints))

by_sign : (b : Bool) (n : ℕ) → 4294967295 < n → (z : ℤ) → z ≡ cond b (neg_ℤ (pos n)) (pos n) → (neg_ℤ (pos (2 ^ 31)) ≤ℤ z) → (z <ℤ pos (2 ^ 32)) → ⊥
by_sign true n large z is low high = omega (arith, ints, large, rw is at low)
by_sign false n large z is low high = omega (arith, ints, large, rw is at high)

-- a number past those of every type
too-large : (base : BaseType) (text : List ℕ) → 4294967295 < digits_value 10 (without_leading_sign text) → is_in base (signed_digits_value 10 text) ≡ false
too-large base text large = by_test (is_in base (signed_digits_value 10 text)) refl
  where
    by_test : (b : Bool) → is_in base (signed_digits_value 10 text) ≡ b → b ≡ false
    by_test true is =
        let (low, high) = in-range base (signed_digits_value 10 text) is in
        let (below, above) = bounds base in
        absurd (by_sign (starts_with_minus text) (digits_value 10 (without_leading_sign text)) large (signed_digits_value 10 text) refl (omega (arith, ints, low, below)) (omega (arith, ints, high, above)))
    by_test false is = refl

pub whole-none : (base : BaseType) (cell text : List ℕ) → text ≡ trimmed cell
    → (are_digits (without_leading_sign text) ≡ false) ⊎ (4294967295 < digits_value 10 (without_leading_sign text)) → is_whole base cell ≡ false
unfolding is_whole whole_of
whole-none base cell text same (inl bad) = rw (← same, bad) refl
whole-none base cell text same (inr large) = rw (← same) (and_right (are_digits (without_leading_sign text)) (is_in base (signed_digits_value 10 text)) (too-large base text large))

pub whole-some : (base : BaseType) (cell text : List ℕ) (z : ℤ) (fits : Bool) → text ≡ trimmed cell → are_digits (without_leading_sign text) ≡ true
    → z ≡ signed_digits_value 10 text → is_in base z ≡ fits → (is_whole base cell ≡ fits) × (z ≡ whole_of cell)
unfolding is_whole whole_of
whole-some base cell text z fits same good is test =
    (rw (← same, good, ← is) test, is ∙ rw same refl)

pub whole-fits : (base : BaseType) (cell : List ℕ) → is_whole base cell ≡ true → (least base ≤ℤ whole_of cell) × (whole_of cell <ℤ limit base)
unfolding is_whole
whole-fits base cell is =
    in-range base (whole_of cell) (both_true (are_digits (without_leading_sign (trimmed cell))) (is_in base (whole_of cell)) is).1

-- what the number that is found of a cell is
pub whole-found : (base : BaseType) (cell : List ℕ) (o : Option ℤ) (d : ℤ) → is_whole base cell ≡ true
    → MatchOption o (is_whole base cell ≡ false) (λ z. (is_whole base cell ≡ true) × (z ≡ whole_of cell)) → unwrap_or o d ≡ whole_of cell
whole-found base cell None d is found = let no : true ≡ false = sym is ∙ found in cc no
whole-found base cell (Some z) d is found = found.1

pub bits-found : (count : ℕ) (cell : List ℕ) (o : Option ℕ) (d : ℕ) → is_bits count cell ≡ true
    → MatchOption o (is_bits count cell ≡ false) (λ n. (is_bits count cell ≡ true) × (n ≡ bits_of cell)) → unwrap_or o d ≡ bits_of cell
bits-found count cell None d is found = let no : true ≡ false = sym is ∙ found in cc no
bits-found count cell (Some n) d is found = found.1

-- so many digits write so small a number
all_hex : (ds : List ℕ) → list_all is_ascii_hexdigit ds ≡ true → AllDigits 16 ds
all_hex [] all = tt
all_hex (d ∷ ds) all =
    let (here, rest) = both_true (is_ascii_hexdigit d) (list_all is_ascii_hexdigit ds) all in
    (grind (arith, nat_tests, here), all_hex ds rest)

pub bits-small : (count : ℕ) (cell : List ℕ) → is_bits count cell ≡ true → bits_of cell < 16 ^ count
unfolding is_bits bits_of
bits-small count cell is =
    let (mark, digits) = both_true (bytes_eq (take 2 cell) (codes "0x")) (length (drop 2 cell) == count && list_all is_ascii_hexdigit (drop 2 cell)) is in
    let (long, all) = both_true (length (drop 2 cell) == count) (list_all is_ascii_hexdigit (drop 2 cell)) digits in
    let same : length (drop 2 cell) ≡ count = grind (arith, nat_tests, long) in
    rw (← same) (digits_value-lt 16 (drop 2 cell) (all_hex (drop 2 cell) all))
