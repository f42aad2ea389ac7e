-- The digits of bits in hexadecimal.
use Rattle.std.proofs.Common.{◌≡◌, ◌≢◌, ℕ, zero, suc, ◌+◌, ◌-◌, ◌*◌, ◌/◌, ◌%◌, ◌^◌, ◌<◌, ◌≤◌, false, List, [], ◌∷◌, ◌++◌, refl, sym, ap, ◌∙◌, arith}
use Rattle.std.proofs.Math.Nat.{div-one, div-eq_of_lt}
use Rattle.std.proofs.Math.Pow.{pow_mono}
use Rattle.std.proofs.lemmas.List.{append_assoc}
use Rattle.std.proofs.lemmas.Nat.{shr-shr}
use Rattle.std.specs.Fmt.{digit_glyph}
use Rattle.dap_model.specs.Shown.{hex}

-- the digits before the last one
pub hex-more : (digits bits : ℕ) → digits ≢ 0 → hex digits bits ≡ hex (digits - 1) (bits / 16) ++ digit_glyph false (bits % 16) ∷ []
hex-more zero bits some = absurd (some refl)
hex-more (suc k) bits some = let e : suc k - 1 ≡ k = omega arith in rw e refl

-- the digits behind the first one
pub hex-first : (k bits : ℕ) → hex (suc k) bits ≡ digit_glyph false (bits / 2 ^ (4 * k) % 16) ∷ hex k bits
hex-first zero bits = ap (λ x. digit_glyph false (x % 16) ∷ []) (sym (div-one bits))
hex-first (suc k) bits =
    ap (λ xs. xs ++ digit_glyph false (bits % 16) ∷ []) (hex-first k (bits / 16))
    ∙ ap (λ x. digit_glyph false (x % 16) ∷ hex (suc k) bits) (shr-shr bits 4 (4 * k) ∙ ap (λ n. bits / 2 ^ n) (four k))
  where
    four : (k : ℕ) → 4 + 4 * k ≡ 4 * suc k
    four k = omega arith

-- no digit is left before the sixteenth
pub none-before : (behind bits : ℕ) → 16 ≤ behind → bits < 2 ^ 64 → bits / 2 ^ (4 * behind) ≡ 0
none-before behind bits far few =
    let most : 64 ≤ 4 * behind = omega (arith, far) in
    let up : 2 ^ 64 ≤ 2 ^ (4 * behind) = pow_mono most in
    div-eq_of_lt (omega (arith, up, few))

-- one digit more is put, and one less is left
pub one-more : (put grown whole : List ℕ) (glyph digit digits i bits : ℕ) → i < digits → grown ≡ put ++ glyph ∷ [] → glyph ≡ digit_glyph false digit → digit ≡ bits / 2 ^ (4 * (digits - 1 - i)) % 16 →
    put ++ hex (digits - i) bits ≡ whole → grown ++ hex (digits - (i + 1)) bits ≡ whole
one-more put grown whole glyph digit digits i bits below grown_is glyph_is digit_is is =
    let left : digits - (i + 1) ≡ digits - 1 - i = omega arith in
    let all : digits - i ≡ suc (digits - 1 - i) = omega (arith, below) in
    ap (λ xs. xs ++ hex (digits - (i + 1)) bits) grown_is ∙ append_assoc put (glyph ∷ []) (hex (digits - (i + 1)) bits)
    ∙ ap (λ n. put ++ glyph ∷ hex n bits) left
    ∙ ap (λ x. put ++ x ∷ hex (digits - 1 - i) bits) (glyph_is ∙ ap (digit_glyph false) digit_is)
    ∙ ap (λ xs. put ++ xs) (sym (hex-first (digits - 1 - i) bits)) ∙ ap (λ n. put ++ hex n bits) (sym all) ∙ is
