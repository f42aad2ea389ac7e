-- What a field is as a float, read by its bits alone.
use Rattle.std.proofs.Common.{◌≡◌, ℕ, true, false, List, inl, inr, refl, sym, ap, ◌∙◌}
use Rattle.std.specs.Float.{Format}
use Rattle.float_text.specs.Hexadecimal as words
use Rattle.float_text.specs.Word.{digits_of, other_reading, reading}
use Rattle.float_text.specs.declared.floats.Floats.TheVariants as ways
use Rattle.float_text.specs.declared.reading.Reading.{Reading}
use Rattle.float_text.specs.declared.reading.Reading.TheVariants.{Bits, TooLarge, NoFloat}
use Rattle.plain_lemmas.proofs.Truths.{true_or_false}
use Rattle.csv_source.specs.Cells.{bits_of, is_bits}

abbrev found : Reading ℕ → ℕ
found (Bits n) = n
found TooLarge = 0
found NoFloat = 0

same-test : (count : ℕ) (field : List ℕ) → words.is_bits count field ≡ is_bits count field
unfolding words.is_bits is_bits
same-test count field = refl

same-bits : (field : List ℕ) → words.bits_of field ≡ bits_of field
unfolding words.bits_of bits_of
same-bits field = refl

marked : (f : Format) (field : List ℕ) → is_bits (digits_of f) field ≡ true → reading f ways.Bits field ≡ Bits (bits_of field)
unfolding reading
marked f field is = let test : words.is_bits (digits_of f) field ≡ true = same-test (digits_of f) field ∙ is in rw test (ap Bits (same-bits field))

unmarked : (f : Format) (field : List ℕ) → is_bits (digits_of f) field ≡ false → reading f ways.Bits field ≡ NoFloat
unfolding reading other_reading
unmarked f field is = let test : words.is_bits (digits_of f) field ≡ false = same-test (digits_of f) field ∙ is in rw test refl

pub bits-read : (f : Format) (field : List ℕ) (n : ℕ) → reading f ways.Bits field ≡ Bits n → (is_bits (digits_of f) field ≡ true) × (n ≡ bits_of field)
bits-read f field n read = elim (true_or_false (is_bits (digits_of f) field)) [
  | inl is ↦ (is, ap found (sym read ∙ marked f field is))
  | inr is ↦ let none : NoFloat ≡ Bits n = sym (unmarked f field is) ∙ read in cc none
]

pub never-too-large : (f : Format) (field : List ℕ) → reading f ways.Bits field ≡ TooLarge → ⊥
never-too-large f field read = elim (true_or_false (is_bits (digits_of f) field)) [
  | inl is ↦ let none : Bits (bits_of field) ≡ TooLarge = sym (marked f field is) ∙ read in cc none
  | inr is ↦ let none : NoFloat ≡ TooLarge = sym (unmarked f field is) ∙ read in cc none
]

pub no-bits-read : (f : Format) (field : List ℕ) → reading f ways.Bits field ≡ NoFloat → is_bits (digits_of f) field ≡ false
no-bits-read f field read = elim (true_or_false (is_bits (digits_of f) field)) [
  | inl is ↦ let none : Bits (bits_of field) ≡ NoFloat = sym (marked f field is) ∙ read in cc none
  | inr is ↦ is
]
