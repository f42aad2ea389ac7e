-- Sizes of chunks in hexadecimal digits, and a chunk that is put together in place.
use Rattle.std.proofs.Common.{◌≡◌, ℕ, zero, suc, ◌+◌, ◌-◌, ◌/◌, ◌%◌, ◌^◌, ◌<◌, ◌≤◌, ◌⊎◌, false, List, [], ◌∷◌, ◌++◌, length, take, drop, refl, sym, ap, ◌∙◌, arith, append_assoc, length-append, inl, inr}
use Rattle.std.specs.Fmt.{digit_glyph, digits}
use Rattle.std.specs.List.{copy_within}
use Rattle.std.proofs.Math.Seq.{drop-append_seam, paste}
use Rattle.std.proofs.lemmas.Bool.{cases_lt}
use Rattle.std.proofs.lemmas.List.{length-take-le, take-append-drop}
use Rattle.std.proofs.lemmas.List.Edits.{drop-paste, take-paste}
use Rattle.dap_http.proofs.Hex.{last-digit, one-digit}

pub one : (n : ℕ) → n < 16 → length (digits 16 false n) ≡ 1
one n small = ap length (one-digit n small)

pub one-less : (n : ℕ) → 16 ≤ n → n < 2 ^ 64 → length (digits 16 false n) ≡ length (digits 16 false (n / 16)) + 1
one-less n more fits = ap length (last-digit n more fits) ∙ length-append (digits 16 false (n / 16)) (digit_glyph false (n % 16) ∷ [])

pub some : (n : ℕ) → n < 2 ^ 64 → 0 < length (digits 16 false n)
some n fits = go (cases_lt n 16) where
  go : (n < 16) ⊎ (16 ≤ n) → 0 < length (digits 16 false n)
  go (inl small) = omega (arith, one n small)
  go (inr more) = omega (arith, one-less n more fits)

two : (n : ℕ) → n < 256 → length (digits 16 false n) ≤ 2
two n small = go (cases_lt n 16) where
  go : (n < 16) ⊎ (16 ≤ n) → length (digits 16 false n) ≤ 2
  go (inl less) = omega (arith, one n less)
  go (inr more) = omega (arith, one-less n more (omega (arith, small)), one (n / 16) (omega (arith, small)))

three : (n : ℕ) → n < 4096 → length (digits 16 false n) ≤ 3
three n small = go (cases_lt n 16) where
  go : (n < 16) ⊎ (16 ≤ n) → length (digits 16 false n) ≤ 3
  go (inl less) = omega (arith, one n less)
  go (inr more) = omega (arith, one-less n more (omega (arith, small)), two (n / 16) (omega (arith, small)))

pub four : (n : ℕ) → n < 65536 → length (digits 16 false n) ≤ 4
four n small = go (cases_lt n 16) where
  go : (n < 16) ⊎ (16 ≤ n) → length (digits 16 false n) ≤ 4
  go (inl less) = omega (arith, one n less)
  go (inr more) = omega (arith, one-less n more (omega (arith, small)), three (n / 16) (omega (arith, small)))

-- what stood at the front, moved to a place
pasted : (d : List ℕ) (at n : ℕ) → at ≤ length d → n ≤ length d → drop at (paste d at d n) ≡ take n d ++ drop (at + n) d
pasted d at n here fits =
    let p = paste d at d n in
    let all : p ≡ take at d ++ (take n d ++ drop (at + n) d) =
    sym (take-append-drop (at + n) p) ∙ ap (λ t. t ++ drop (at + n) p) (take-paste d at d n here fits) ∙ ap (λ t. (take at d ++ take n d) ++ t) (drop-paste d at d n here fits)
    ∙ append_assoc (take at d) (take n d) (drop (at + n) d) in
    ap (drop at) all ∙ ap (λ m. drop m (take at d ++ (take n d ++ drop (at + n) d))) (sym (length-take-le at d here)) ∙ drop-append_seam (take at d) (take n d ++ drop (at + n) d)

pub nothing-less : (n : ℕ) → n - 0 ≡ n
nothing-less n = omega arith

pub copied : (d : List ℕ) (at n : ℕ) → at ≤ length d → n ≤ length d → drop at (copy_within d 0 n at) ≡ take n d ++ drop (at + n) d
copied d at n here fits = ap (λ k. drop at (paste d at d k)) (nothing-less n) ∙ pasted d at n here fits

within : (k n : ℕ) (xs : List ℕ) → k ≤ n → take k (take n xs) ≡ take k xs
within zero n xs le = refl
within (suc k) zero xs le = absurd (omega (arith, le))
within (suc k) (suc n) [] le = refl
within (suc k) (suc n) (x ∷ xs) le = ap (λ t. x ∷ t) (within k n xs (omega (arith, le)))

pub taken-front : (k n : ℕ) (xs ys : List ℕ) → k ≤ n → take n xs ≡ take n ys → take k xs ≡ take k ys
taken-front k n xs ys le same = sym (within k n xs le) ∙ ap (take k) same ∙ within k n ys le

pub together : (l d c h t : List ℕ) → (l ++ (d ++ (c ++ h))) ++ (c ++ t) ≡ l ++ ((((d ++ c) ++ h) ++ c) ++ t)
together l d c h t = simp append_assoc
