-- A batch is as large as its bounds let it be.
use Rattle.std.proofs.Common.{◌≡◌, ℕ, ◌+◌, ◌-◌, ◌*◌, ◌/◌, ◌%◌, ◌<◌, ◌≤◌, refl, sym, subst, arith, inl, inr, min}
use Rattle.std.proofs.Math.Nat.{mod-lt, div-add-mod', mul-le-mul_right, zero-mul, one-mul, add-mul, min-le_right, mul_assoc, mul-div_cancel}
use Rattle.std.proofs.lemmas.Nat.{le-div}
use Rattle.hyperslab_plan.specs.Along.{starts}
use Rattle.hyperslab_plan.specs.Batches.{whole_rows, row_part, IsBatch, Bounded, AreRows, IsLargest}
use Rattle.hyperslab_plan.specs.Numbers.{width_of}
use Rattle.hyperslab_plan.specs.Plans.{row_bytes}
use Rattle.hyperslab_plan.specs.declared.batch.Batch.{Batch}
use Rattle.hyperslab_plan.specs.declared.plan.Plan.{Plan}
use Rattle.hyperslab_plan.proofs.BoundedLemmas.{whole-bounded, part-bounded}
use Rattle.hyperslab_plan.proofs.ShapedLemmas.{batch_at}
use Prim.Native.Nat.{zero, suc}

rows-largest : (plan : Plan) (first : ℕ) → first < plan.total → first % plan.shape.per_row ≡ 0 → 0 < plan.rows_at_once → IsLargest plan (whole_rows plan first)
unfolding whole_rows
rows-largest plan first inside starts at_once = by_bounds (whole-bounded plan first inside starts at_once)
  where
    rows : ℕ
    rows = min plan.rows_at_once (plan.rows - first / plan.shape.per_row)

    row_is : plan.row_len ≡ (plan.shape.per_row - 1) * plan.shape.jump + plan.size
    row_is = plan.row_is (plan.row_read at_once)

    left : (n : ℕ) → first + n * plan.shape.per_row ≤ plan.total → n ≤ plan.rows - first / plan.shape.per_row
    left n fits =
        let n_pos : 0 < plan.shape.per_row = plan.shape.filled in
        let whole : first / plan.shape.per_row * plan.shape.per_row + first % plan.shape.per_row ≡ first = div-add-mod' first plan.shape.per_row in
        let split : (first / plan.shape.per_row + n) * plan.shape.per_row ≡ first / plan.shape.per_row * plan.shape.per_row + n * plan.shape.per_row = add-mul (first / plan.shape.per_row) n plan.shape.per_row in
        let up : (first / plan.shape.per_row + n) * plan.shape.per_row ≤ plan.rows * plan.shape.per_row = omega (arith, whole, split, starts, plan.whole) in
        let short : first / plan.shape.per_row + n ≤ plan.rows = subst (λ x. first / plan.shape.per_row + n ≤ x) (mul-div_cancel plan.rows n_pos) (le-div (first / plan.shape.per_row + n) (plan.rows * plan.shape.per_row) plan.shape.per_row n_pos up) in
        omega (arith, short)

    by_bounds : Bounded plan (whole_rows plan first) → IsLargest plan (whole_rows plan first)
    by_bounds b = record {
      kind = inr (rows, refl, record { from_start = starts; left = b.within; raw = subst (λ x. rows * x ≤ 65536) row_is b.raw; xdr = b.xdr });
      part = λ n are. let some : 0 < rows = omega arith in let up : 1 * plan.shape.per_row ≤ rows * plan.shape.per_row = mul-le-mul_right plan.shape.per_row some in omega (arith, are.in_row, up, one-mul plan.shape.per_row);
      rows = λ n are.
          let few : n ≤ plan.rows_at_once = plan.rows_most (plan.row_read at_once) n (subst (λ x. n * x ≤ 65536) (sym row_is) are.raw) are.xdr in
          let here : n ≤ plan.rows - first / plan.shape.per_row = left n are.left in
          mul-le-mul_right plan.shape.per_row (omega (arith, few, here));
    }

part-largest : (plan : Plan) (first : ℕ) → first < plan.total → (first % plan.shape.per_row ≡ 0 → 0 < plan.rows_at_once → ⊥) → IsLargest plan (row_part plan first)
unfolding row_part
part-largest plan first inside not_whole = by_bounds (part-bounded plan first inside)
  where
    n_pos : 0 < plan.shape.per_row
    n_pos = plan.shape.filled

    fits : (n : ℕ) → 0 < n → AreRows plan first n → 0 < plan.rows_at_once
    fits n some are =
        let row_raw : 1 * row_bytes plan plan.shape.per_row ≤ n * row_bytes plan plan.shape.per_row = mul-le-mul_right (row_bytes plan plan.shape.per_row) some in
        let row_xdr : 1 * (plan.shape.per_row * width_of plan.base) ≤ n * (plan.shape.per_row * width_of plan.base) = mul-le-mul_right (plan.shape.per_row * width_of plan.base) some in
        let raw : row_bytes plan plan.shape.per_row ≤ 65536 = omega (arith, row_raw, are.raw, one-mul (row_bytes plan plan.shape.per_row)) in
        let xdr : plan.shape.per_row * width_of plan.base ≤ 65536 = omega (arith, row_xdr, are.xdr, one-mul (plan.shape.per_row * width_of plan.base), mul_assoc n plan.shape.per_row (width_of plan.base)) in
        let is : plan.row_len ≡ row_bytes plan plan.shape.per_row = plan.row_fits (plan.part_most plan.shape.per_row raw xdr) in
        let read : 0 < plan.row_len = omega (arith, is, plan.sized) in
        let one : 1 ≤ plan.rows_at_once = plan.rows_most read 1 (omega (arith, is, raw, one-mul plan.row_len)) (subst (λ x. x * width_of plan.base ≤ 65536) (sym (one-mul plan.shape.per_row)) xdr) in
        one

    by_bounds : Bounded plan (row_part plan first) → IsLargest plan (row_part plan first)
    by_bounds b = record {
      kind = inl (record {
        in_row = let here : min plan.part (plan.shape.per_row - first % plan.shape.per_row) ≤ plan.shape.per_row - first % plan.shape.per_row = min-le_right plan.part (plan.shape.per_row - first % plan.shape.per_row) in
            let lt : first % plan.shape.per_row < plan.shape.per_row = mod-lt first n_pos in omega (arith, here, lt);
        raw = b.raw;
        xdr = b.xdr;
      });
      part = λ n are. let few : n ≤ plan.part = plan.part_most n are.raw are.xdr in omega (arith, few, are.in_row);
      rows = λ n are. some_or_none n (λ some. absurd (not_whole are.from_start (fits n some are)));
    }
      where
        some_or_none : (n : ℕ) → (0 < n → n * plan.shape.per_row ≤ min plan.part (plan.shape.per_row - first % plan.shape.per_row)) → n * plan.shape.per_row ≤ min plan.part (plan.shape.per_row - first % plan.shape.per_row)
        some_or_none zero h = omega (arith, zero-mul plan.shape.per_row)
        some_or_none (suc n) h = h (omega arith)

pub is_largest : (plan : Plan) (b : Batch) → IsBatch plan b → IsLargest plan b
is_largest plan b is = subst (IsLargest plan) (sym is.is) (batch_at (IsLargest plan) plan b.first (λ e s. rows-largest plan b.first is.inside e s) (λ never. part-largest plan b.first is.inside never))
