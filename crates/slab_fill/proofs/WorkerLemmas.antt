-- The parts that workers get are whole elements.
use Rattle.std.proofs.Common.{◌≡◌, ℕ, ◌+◌, ◌*◌, ◌-◌, ◌/◌, ◌%◌, ◌<◌, ◌≤◌, ◌⊎◌, inl, inr, min, arith, ◌∙◌, sym, subst}
use Rattle.std.proofs.Math.Nat.{mul-mod_left, mul_assoc, div-add-mod', mul-sub, zero-mul}
use Rattle.std.proofs.lemmas.Grind.{div_ceil_times}
use Prim.Native.Nat.{zero, suc}

-- a number with no remainder is a product, and a product has none
multiple : (n w : ℕ) → n % w ≡ 0 → n ≡ n / w * w
multiple n w h = omega (arith, div-add-mod' n w)

pub no_remainder : (n k w : ℕ) → n ≡ k * w → n % w ≡ 0
no_remainder n k w h = subst (λ x. x % w ≡ 0) (sym h) (mul-mod_left k w)

-- a part begins with a whole element
pub whole_start : (start d w : ℕ) → start % (d * w) ≡ 0 → start % w ≡ 0
whole_start start d w h = no_remainder start (start / (d * w) * d) w (multiple start (d * w) h ∙ sym (mul_assoc (start / (d * w)) d w))

-- and has whole elements
pub whole_len : (d w total start len : ℕ) → total % w ≡ 0 → start % (d * w) ≡ 0 → len ≡ min (d * w) (total - start) → len % w ≡ 0
whole_len d w total start len t s e =
    let a = multiple total w t in
    let b = multiple start w (whole_start start d w s) in
    let sides : (len ≡ d * w) ⊎ (len ≡ total - start) = grind arith in
    elim sides [
      | inl l ↦ no_remainder len d w l
      | inr l ↦ let m = mul-sub w (total / w) (start / w) in no_remainder len (total / w - start / w) w (omega (arith, m, a, b, l))
    ]

-- each worker gets some elements
pub some_each : (count workers : ℕ) → 0 < count → 0 < workers → 0 < count / workers + min 1 (count % workers)
some_each count workers some work = from (count / workers + min 1 (count % workers)) (div_ceil_times count workers work).0
  where
    from : (r : ℕ) → count ≤ r * workers → 0 < r
    from zero le = absurd (omega (arith, zero-mul workers))
    from (suc r) le = omega arith
