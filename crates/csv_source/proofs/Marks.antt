-- A byte order mark at the front of a file.
use Rattle.std.proofs.Common.{◌≡◌, ◌≤◌, ◌-◌, ℕ, Bool, true, false, List, [], ◌∷◌, length, take, drop, get_or, refl, arith, eqb-true}
use Rattle.std.specs.Prelude.{◌&&◌, if◌then◌else◌}
use Rattle.std.proofs.lemmas.List.{take_all}
use Rattle.csv.specs.Reading.{is_bom, strip_bom}

pub marked : (xs : List ℕ) → 3 ≤ length xs → get_or xs 0 0 ≡ 239 → get_or xs 1 0 ≡ 187 → get_or xs 2 0 ≡ 191 → take (length xs - 3) (drop 3 xs) ≡ strip_bom xs
unfolding strip_bom
marked [] le p q r = absurd (omega (arith, le))
marked (a ∷ []) le p q r = absurd (omega (arith, le))
marked (a ∷ b ∷ []) le p q r = absurd (omega (arith, le))
marked (a ∷ b ∷ c ∷ rest) le p q r =
    let long : length rest ≤ length (a ∷ b ∷ c ∷ rest) - 3 = omega arith in
    rw (p, q, r) (take_all (length (a ∷ b ∷ c ∷ rest) - 3) rest long)

three : (x y z : Bool) → (x && y && z) ≡ true → (x ≡ true) × (y ≡ true) × (z ≡ true)
three true true true e = (refl, refl, refl)
three true true false e = cc e
three true false z e = cc e
three false y z e = cc e

pub unmarked : (xs : List ℕ) → (3 ≤ length xs → get_or xs 0 0 ≡ 239 → get_or xs 1 0 ≡ 187 → get_or xs 2 0 ≡ 191 → ⊥) → xs ≡ strip_bom xs
unfolding strip_bom
unmarked [] other = refl
unmarked (a ∷ []) other = refl
unmarked (a ∷ b ∷ []) other = refl
unmarked (a ∷ b ∷ c ∷ rest) other = by (is_bom a b c) refl
  where
    by : (m : Bool) → is_bom a b c ≡ m → a ∷ b ∷ c ∷ rest ≡ (if m then rest else a ∷ b ∷ c ∷ rest)
    by true e =
        let (p, q, r) = three _ _ _ e in
        absurd (other (omega arith) (eqb-true a 239 p) (eqb-true b 187 q) (eqb-true c 191 r))
    by false e = refl
