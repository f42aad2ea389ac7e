-- No more elements, and no more rows, have few enough bytes for one batch.
use Rattle.std.proofs.Common.{◌≡◌, ℕ, ◌+◌, ◌-◌, ◌*◌, ◌/◌, ◌<◌, ◌≤◌, ◌⊎◌, min, subst, arith, inl, inr}
use Rattle.std.proofs.Math.Nat.{mul_assoc, mul-le-mul_left}
use Rattle.std.proofs.lemmas.Nat.{le-div}

pub part_most : (r by_raw jump size width n : ℕ) → r ≡ min by_raw (65536 / width) → 0 < width → (jump ≡ 0) × (by_raw ≡ 65536) ⊎ (0 < jump) × (by_raw ≡ (65536 - size) / jump + 1) →
    (n - 1) * jump + size ≤ 65536 → n * width ≤ 65536 → n ≤ r
part_most r by_raw jump size width n is wide kind raw xdr = go kind
  where
    few : n ≤ 65536 / width
    few = le-div n 65536 width wide xdr

    go : (jump ≡ 0) × (by_raw ≡ 65536) ⊎ (0 < jump) × (by_raw ≡ (65536 - size) / jump + 1) → n ≤ r
    go (inl (none, all)) = let up : n * 1 ≤ n * width = mul-le-mul_left n wide in omega (arith, few, up)
    go (inr (some, by)) =
        let steps : n - 1 ≤ (65536 - size) / jump = le-div (n - 1) (65536 - size) jump some (omega arith) in
        omega (arith, few, steps)

pub rows_most : (r len per_row width n : ℕ) → r ≡ min (65536 / len) (65536 / (per_row * width)) → 0 < len → 0 < per_row * width → n * len ≤ 65536 → n * per_row * width ≤ 65536 → n ≤ r
rows_most r len per_row width n is len_pos bytes_pos raw xdr =
    let by_raw : n ≤ 65536 / len = le-div n 65536 len len_pos raw in
    let by_xdr : n ≤ 65536 / (per_row * width) = le-div n 65536 (per_row * width) bytes_pos (subst (λ x. x ≤ 65536) (mul_assoc n per_row width) xdr) in
    omega (arith, by_raw, by_xdr)
