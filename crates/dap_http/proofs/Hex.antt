-- Hexadecimal digits, the last of them apart.
use Rattle.std.proofs.Common.{◌≡◌, ℕ, zero, suc, ◌*◌, ◌/◌, ◌%◌, ◌^◌, ◌<◌, ◌≤◌, Bool, true, false, cond, eqb, List, [], ◌∷◌, ◌++◌, refl, sym, ap, ◌∙◌, arith, append_assoc}
use Rattle.std.specs.Fmt.{digit_glyph, digits, digits_onto}
use Rattle.std.proofs.Math.Nat.{pow-suc}
use Rattle.std.proofs.lemmas.Bool.{ne_eqb}
use Rattle.std.proofs.Common.{eq-eqb}

onto-append : (k base : ℕ) (upper : Bool) (n : ℕ) (acc : List ℕ) → digits_onto k base upper n acc ≡ digits_onto k base upper n [] ++ acc
onto-append zero base upper n acc = refl
onto-append (suc k) base upper n acc =
    go (eqb (n / base) 0) (
    onto-append k base upper (n / base) (digit_glyph upper (n % base) ∷ acc)
    ∙ sym (append_assoc (digits_onto k base upper (n / base) []) (digit_glyph upper (n % base) ∷ []) acc)
    ∙ ap (λ t. t ++ acc) (sym (onto-append k base upper (n / base) (digit_glyph upper (n % base) ∷ [])))
    ) where
      go : (t : Bool) → digits_onto k base upper (n / base) (digit_glyph upper (n % base) ∷ acc) ≡ digits_onto k base upper (n / base) (digit_glyph upper (n % base) ∷ []) ++ acc
          → cond t (digit_glyph upper (n % base) ∷ acc) (digits_onto k base upper (n / base) (digit_glyph upper (n % base) ∷ acc)) ≡ cond t (digit_glyph upper (n % base) ∷ []) (digits_onto k base upper (n / base) (digit_glyph upper (n % base) ∷ [])) ++ acc
      go true same = refl
      go false same = same

-- a place more than are needed changes nothing
fuel : (k n : ℕ) (acc : List ℕ) → n < 16 ^ suc k → digits_onto (suc (suc k)) 16 false n acc ≡ digits_onto (suc k) 16 false n acc
fuel zero n acc small =
    let none : eqb (n / 16) 0 ≡ true = eq-eqb (n / 16) 0 (omega (arith, small)) in
    ap (λ t. cond t (digit_glyph false (n % 16) ∷ acc) (digits_onto 1 16 false (n / 16) (digit_glyph false (n % 16) ∷ acc))) none
    ∙ sym (ap (λ t. cond t (digit_glyph false (n % 16) ∷ acc) (digit_glyph false (n % 16) ∷ acc)) none)
fuel (suc k) n acc small =
    let e : 16 ^ suc (suc k) ≡ 16 ^ suc k * 16 = pow-suc 16 (suc k) in
    go (eqb (n / 16) 0) (fuel k (n / 16) (digit_glyph false (n % 16) ∷ acc) (omega (arith, small, e))) where
      go : (t : Bool) → digits_onto (suc (suc k)) 16 false (n / 16) (digit_glyph false (n % 16) ∷ acc) ≡ digits_onto (suc k) 16 false (n / 16) (digit_glyph false (n % 16) ∷ acc)
          → cond t (digit_glyph false (n % 16) ∷ acc) (digits_onto (suc (suc k)) 16 false (n / 16) (digit_glyph false (n % 16) ∷ acc)) ≡ cond t (digit_glyph false (n % 16) ∷ acc) (digits_onto (suc k) 16 false (n / 16) (digit_glyph false (n % 16) ∷ acc))
      go true same = refl
      go false same = same

pub last-digit : (n : ℕ) → 16 ≤ n → n < 2 ^ 64 → digits 16 false n ≡ digits 16 false (n / 16) ++ digit_glyph false (n % 16) ∷ []
unfolding digits
last-digit n more small =
    let some : eqb (n / 16) 0 ≡ false = ne_eqb (n / 16) 0 (λ e. omega (arith, e, more)) in
    let g = digit_glyph false (n % 16) in
    ap (λ t. cond t (g ∷ []) (digits_onto 63 16 false (n / 16) (g ∷ []))) some
    ∙ sym (fuel 62 (n / 16) (g ∷ []) (omega (arith, small)))
    ∙ onto-append 64 16 false (n / 16) (g ∷ [])

pub one-digit : (n : ℕ) → n < 16 → digits 16 false n ≡ digit_glyph false n ∷ []
unfolding digits
one-digit n small =
    let none : eqb (n / 16) 0 ≡ true = eq-eqb (n / 16) 0 (omega (arith, small)) in
    let same : n % 16 ≡ n = omega (arith, small) in
    ap (λ t. cond t (digit_glyph false (n % 16) ∷ []) (digits_onto 63 16 false (n / 16) (digit_glyph false (n % 16) ∷ []))) none
    ∙ ap (λ m. digit_glyph false m ∷ []) same
