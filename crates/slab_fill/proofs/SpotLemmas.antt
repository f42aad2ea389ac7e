-- Elements that stand end to end.
use Rattle.std.proofs.Common.{◌≡◌, ℕ, ◌+◌, ◌*◌, ◌/◌, ◌%◌, ◌<◌, ◌≤◌, ap, ◌∙◌, arith}
use Rattle.std.proofs.Math.Nat.{div-add-mod', suc-mul}
use Prim.Native.Nat.{zero, suc}
use Rattle.slab_fill.specs.Spots.{spot}

pub dense-spot : (w at step k : ℕ) → step ≡ w → spot at step (k / w) + k % w ≡ at + k
unfolding spot
dense-spot w at step k is = ap (λ x. at + k / w * x + k % w) is ∙ put at (k / w * w) (k % w) ∙ ap (λ x. at + x) (div-add-mod' k w)
  where
    put : (a b c : ℕ) → a + b + c ≡ a + (b + c)
    put a b c = omega arith

pub dense-room : (w at step n len : ℕ) → step ≡ w → 0 < n → n % w ≡ 0 → ((j : ℕ) → j < n / w → spot at step j + w ≤ len) → at + n ≤ len
unfolding spot
dense-room w at step n len is some whole room = from (n / w) (div-add-mod' n w) (λ j lt. room j lt)
  where
    from : (q : ℕ) → q * w + n % w ≡ n → ((j : ℕ) → j < q → at + j * step + w ≤ len) → at + n ≤ len
    from zero e fits = absurd (omega arith)
    from (suc q) e fits =
        let last : at + q * step + w ≤ len = fits q (omega arith) in
        let same : q * step ≡ q * w = ap (λ x. q * x) is in
        let split : suc q * w ≡ q * w + w = suc-mul q w in
        omega (arith, last, same, split)
