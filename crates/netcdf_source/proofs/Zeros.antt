-- A text without the zero bytes at its end.
use Rattle.std.proofs.Common.{◌≡◌, ℕ, suc, Bool, true, false, ◌&&◌, cond, eqb, List, [], ◌∷◌, ◌++◌, length, replicate, refl, ap, ◌∙◌, arith}
use Rattle.std.proofs.lemmas.Bool.Decides.{nat_tests}
use Rattle.plain_lemmas.proofs.Truths.{both_true}
use Rattle.netcdf_source.specs.Laws.{ZerosAreCut}
use Rattle.netcdf_source.specs.Values.{without_zeros}

is_zero : (n : ℕ) → eqb n 0 ≡ true → n ≡ 0
is_zero n e = grind (arith, nat_tests)

empty : (xs : List ℕ) → eqb (length xs) 0 ≡ true → xs ≡ []
empty [] e = refl
empty (x ∷ xs) e = absurd (some (length xs) (is_zero (length (x ∷ xs)) e))
  where
    some : (n : ℕ) → suc n ≡ 0 → ⊥
    some n q = omega arith

cut : (bytes : List ℕ) → (n : ℕ) × (bytes ≡ without_zeros bytes ++ replicate n 0)
cut [] = (0, refl)
cut (b ∷ bytes) = let more = cut bytes in go (eqb b 0 && eqb (length (without_zeros bytes)) 0) refl more.0 more.1
  where
    go : (z : Bool) → (eqb b 0 && eqb (length (without_zeros bytes)) 0) ≡ z → (n : ℕ) → bytes ≡ without_zeros bytes ++ replicate n 0 → (m : ℕ) × (b ∷ bytes ≡ cond z [] (b ∷ without_zeros bytes) ++ replicate m 0)
    go true e n more =
        let parts = both_true (eqb b 0) (eqb (length (without_zeros bytes)) 0) e in
        let here : b ≡ 0 = is_zero b parts.0 in
        let none : without_zeros bytes ≡ [] = empty (without_zeros bytes) parts.1 in
        (suc n, ap (λ (x : ℕ). x ∷ bytes) here ∙ ap (λ (xs : List ℕ). 0 ∷ xs) (more ∙ ap (λ xs. xs ++ replicate n 0) none))
    go false e n more = (n, ap (λ (xs : List ℕ). b ∷ xs) more)

ends : (bytes front : List ℕ) → without_zeros bytes ≡ front ++ 0 ∷ [] → ⊥
ends [] [] e = cc
ends [] (x ∷ front) e = cc
ends (b ∷ bytes) front e = go (eqb b 0 && eqb (length (without_zeros bytes)) 0) refl front (λ front. ends bytes front) e
  where
    alone : (x : ℕ) → x ≡ 0 → (xs : List ℕ) → [] ≡ xs → (eqb x 0 && eqb (length xs) 0) ≡ true
    alone x p xs q = rw (p, ← q) refl

    clash : (z : Bool) → z ≡ true → z ≡ false → ⊥
    clash z p q = cc

    go : (z : Bool) → (eqb b 0 && eqb (length (without_zeros bytes)) 0) ≡ z → (front : List ℕ) → ((more : List ℕ) → without_zeros bytes ≡ more ++ 0 ∷ [] → ⊥) → cond z [] (b ∷ without_zeros bytes) ≡ front ++ 0 ∷ [] → ⊥
    go true e [] later is = cc
    go true e (x ∷ front) later is = cc
    go false e [] later is =
        let here : b ≡ 0 = cc in
        let none : [] ≡ without_zeros bytes = cc in
        clash (eqb b 0 && eqb (length (without_zeros bytes)) 0) (alone b here (without_zeros bytes) none) e
    go false e (x ∷ front) later is = later front cc

pub zeros_are_cut : ZerosAreCut
zeros_are_cut bytes = (cut bytes, ends bytes)
