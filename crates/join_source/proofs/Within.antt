-- Hyperslabs within lists that stand one behind the other.
use Rattle.std.proofs.Common.{◌≡◌, ℕ, ◌+◌, ◌-◌, ◌*◌, ◌<◌, ◌≤◌, Bool, true, false, cond, eqb, refl, sym, subst, arith}
use Rattle.std.proofs.lemmas.Bool.{eqb-true}
use Rattle.std.proofs.lemmas.List.FromFn.{get_or-map-range_with_len, length-map-range_with_len}
use Rattle.hyperslab_plan.proofs.PickedLemmas.{index-within}
use Rattle.dap_types.specs.declared.slabs.Slab.{Slab}
use Rattle.dap_model.specs.Cutting.{IsWithin}
use Rattle.join_source.proofs.PickParts.{are-below, not-below}
use Rattle.join_source.specs.Cutting.{behind, count_below, front_of}

-- and back
pub all-below : (s : Slab) (n : ℕ) → 1 ≤ s.stride → ((k : ℕ) → k < s.count → s.start + k * s.stride < n) → IsWithin s n
all-below s n strided each = (
  strided,
  λ k d lt.
      let here : k < s.count = omega (arith, lt, length-map-range_with_len (λ j. s.start + j * s.stride) 0 s.count) in
      subst (λ i. i < n) (sym (get_or-map-range_with_len (λ j. s.start + j * s.stride) 0 s.count k k d here (omega arith))) (each k here),
)

pub front-within : (s : Slab) (m n : ℕ) → IsWithin s m → IsWithin (front_of s n) n
front-within s m n within = all-below (front_of s n) n within.0 (λ k lt. are-below s n within.0 k lt)

pub behind-within : (s : Slab) (m n : ℕ) → IsWithin s m → IsWithin (behind s n) (m - n)
behind-within s m n within = all-below (behind s n) (m - n) within.0 (λ k lt. go k lt (eqb s.count (count_below s n)) refl)
  where
    spread : (d k stride : ℕ) → (d + k) * stride ≡ d * stride + k * stride
    spread d k stride = omega arith

    go : (k : ℕ) → k < s.count - count_below s n → (b : Bool) → eqb s.count (count_below s n) ≡ b → cond b 0 (s.start + count_below s n * s.stride - n) + k * s.stride < m - n
    go k lt true e = absurd (omega (arith, lt, eqb-true s.count (count_below s n) e))
    go k lt false e =
        let over : n ≤ s.start + count_below s n * s.stride = not-below s n within.0 (omega (arith, lt)) in
        let inside : s.start + (count_below s n + k) * s.stride < m = index-within s m (count_below s n + k) within (omega (arith, lt)) in
        omega (arith, over, inside, spread (count_below s n) k s.stride)
