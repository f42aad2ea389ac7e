-- Where the elements of a row stand end to end, so do those of a batch.
use Rattle.std.proofs.Common.{◌≡◌, ℕ, ◌+◌, ◌-◌, ◌*◌, ◌/◌, ◌%◌, ◌<◌, sym, ap, ◌∙◌, subst, arith}
use Rattle.std.proofs.Math.Nat.{mod-lt, div-lt_iff_lt-mul, div-add-mod', suc-mul, mul_assoc}
use Rattle.hyperslab_plan.specs.Batches.{IsBatch}
use Rattle.hyperslab_plan.specs.Plans.{place_in}
use Rattle.hyperslab_plan.specs.declared.batch.Batch.{Batch}
use Rattle.hyperslab_plan.specs.declared.plan.Plan.{Plan}
use Rattle.hyperslab_plan.proofs.ShapedLemmas.{Shaped, shaped}
use Prim.Native.Nat.{zero, suc}

back : (m s : ℕ) → 0 < m → (m - 1) * s + s ≡ m * s
back zero s h = absurd (omega arith)
back (suc m) s h = ap (λ x. x * s + s) (one m) ∙ sym (suc-mul m s)
  where
    one : (m : ℕ) → suc m - 1 ≡ m
    one m = omega arith

pub dense : (plan : Plan) (b : Batch) (j : ℕ) → plan.shape.jump ≡ plan.size → IsBatch plan b → j < b.count → place_in plan j ≡ j * plan.size
dense plan b j end_to_end is below = by_shape (shaped plan b is)
  where
    join : (k m i s : ℕ) → k * (m * s) + i * s ≡ (k * m + i) * s
    join k m i s = omega arith

    by_shape : Shaped plan b → place_in plan j ≡ j * plan.size
    by_shape s =
        let whole : j / s.m * s.m + j % s.m ≡ j = div-add-mod' j s.m in
        let k_lt : j / s.m < b.runs = (div-lt_iff_lt-mul s.some).1 (subst (λ x. j < x) s.count below) in
        ap (λ x. place_in plan x) (sym whole) ∙ s.placed (j / s.m) (j % s.m) k_lt (mod-lt j s.some)
        ∙ ap (λ x. j / s.m * ((s.m - 1) * x + plan.size) + j % s.m * x) end_to_end
        ∙ ap (λ x. j / s.m * x + j % s.m * plan.size) (back s.m plan.size s.some)
        ∙ join (j / s.m) s.m (j % s.m) plan.size ∙ ap (λ x. x * plan.size) whole

pub dense-raw_len : (plan : Plan) (b : Batch) → plan.shape.jump ≡ plan.size → IsBatch plan b → b.raw_len ≡ b.count * plan.size
dense-raw_len plan b end_to_end is = by_shape (shaped plan b is)
  where
    by_shape : Shaped plan b → b.raw_len ≡ b.count * plan.size
    by_shape s =
        s.raw ∙ ap (λ x. b.runs * ((s.m - 1) * x + plan.size)) end_to_end ∙ ap (λ x. b.runs * x) (back s.m plan.size s.some) ∙ sym (mul_assoc b.runs s.m plan.size) ∙ ap (λ x. x * plan.size) (sym s.count)
