-- A product that stops growing at a limit.
use Rattle.std.proofs.Common.{◌≡◌, ℕ, zero, suc, ◌*◌, ◌≤◌, ◌<◌, min, ap, ◌∙◌, arith, inl, inr}
use Rattle.std.proofs.lemmas.Bool.{cases_lt}
use Rattle.std.proofs.Math.Nat.{mul-le-mul_left}

above : (m p : ℕ) → min (m * suc p) m ≡ m
above m p = omega (arith, mul-le-mul_left m (le_suc p))
  where
    le_suc : (p : ℕ) → 1 ≤ suc p
    le_suc p = omega arith

-- a factor more, behind a product that stopped at the limit or did not reach it
pub stopped : (t n p m : ℕ) → min (min (t * n) m * p) m ≡ min (t * (n * p)) m
stopped t n p m = elim (cases_lt m (t * n)) [
  | inr le ↦ let e : min (t * n) m ≡ t * n = omega arith in rw e (ap (λ (x : ℕ). min x m) (omega arith))
  | inl lt ↦ let e : min (t * n) m ≡ m = omega arith in rw e (past p lt)
]
  where
    past : (p : ℕ) → m < t * n → min (m * p) m ≡ min (t * (n * p)) m
    past zero lt = ap (λ (x : ℕ). min x m) (omega arith)
    past (suc p) lt =
        let low : m ≤ m * suc p = omega (arith, mul-le-mul_left m (one_le p)) in
        let high : t * n ≤ (t * n) * suc p = omega (arith, mul-le-mul_left (t * n) (one_le p)) in
        let regroup : t * (n * suc p) ≡ (t * n) * suc p = omega arith in
        rw regroup (omega arith)
      where
        one_le : (p : ℕ) → 1 ≤ suc p
        one_le p = omega arith

pub stopped_step : (u t n p m top total : ℕ) → u ≡ min (min (t * n) top) m → m ≤ top → min (t * (n * p)) m ≡ total → (u ≤ m) × (min (u * p) m ≡ total)
stopped_step u t n p m top total is le so_far =
    let e : u ≡ min (t * n) m = omega arith in
    (omega arith, rw e (stopped t n p m ∙ so_far))
