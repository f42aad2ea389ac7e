-- What every batch keeps to.
use Rattle.std.proofs.Common.{◌≡◌, ℕ, ◌+◌, ◌-◌, ◌*◌, ◌/◌, ◌%◌, ◌<◌, ◌≤◌, sym, subst, arith, min, max}
use Rattle.std.proofs.Math.Nat.{mod-lt, div-lt_iff_lt-mul, div-add-mod', mul-le-mul_right, mul-pos, one-mul, add-mul, min-le_left, min-le_right, le-max_left, le-max_right}
use Rattle.hyperslab_plan.specs.Along.{starts}
use Rattle.hyperslab_plan.specs.Batches.{whole_rows, row_part, batch_of, IsBatch, spent_by, spent, Bounded}
use Rattle.hyperslab_plan.specs.Numbers.{width_of}
use Rattle.hyperslab_plan.specs.declared.batch.Batch.{Batch}
use Rattle.hyperslab_plan.specs.declared.plan.Plan.{Plan}
use Rattle.hyperslab_plan.proofs.ShapedLemmas.{batch_at}
use Rattle.hyperslab_plan.proofs.SpentLemmas.{part-cost, rows-cost}

pub whole-bounded : (plan : Plan) (first : ℕ) → first < plan.total → first % plan.shape.per_row ≡ 0 → 0 < plan.rows_at_once → Bounded plan (whole_rows plan first)
unfolding whole_rows spent
whole-bounded plan first inside starts at_once =
    let n_pos : 0 < plan.shape.per_row = plan.shape.filled in
    let whole : first / plan.shape.per_row * plan.shape.per_row + first % plan.shape.per_row ≡ first = div-add-mod' first plan.shape.per_row in
    let at : first / plan.shape.per_row * plan.shape.per_row ≡ first = omega (arith, whole, starts) in
    let q_lt : first / plan.shape.per_row < plan.rows = (div-lt_iff_lt-mul n_pos).1 (subst (λ x. first < x) (sym plan.whole) inside) in
    let some : 0 < min plan.rows_at_once (plan.rows - first / plan.shape.per_row) = omega arith in
    let few : min plan.rows_at_once (plan.rows - first / plan.shape.per_row) ≤ plan.rows_at_once = min-le_left plan.rows_at_once (plan.rows - first / plan.shape.per_row) in
    let here : min plan.rows_at_once (plan.rows - first / plan.shape.per_row) ≤ plan.rows - first / plan.shape.per_row = min-le_right plan.rows_at_once (plan.rows - first / plan.shape.per_row) in
    let up : first / plan.shape.per_row + min plan.rows_at_once (plan.rows - first / plan.shape.per_row) ≤ plan.rows = omega (arith, here, q_lt) in
    let rows_up : (first / plan.shape.per_row + min plan.rows_at_once (plan.rows - first / plan.shape.per_row)) * plan.shape.per_row ≤ plan.rows * plan.shape.per_row = mul-le-mul_right plan.shape.per_row up in
    let raw_up : min plan.rows_at_once (plan.rows - first / plan.shape.per_row) * plan.row_len ≤ plan.rows_at_once * plan.row_len = mul-le-mul_right plan.row_len few in
    let xdr_up : min plan.rows_at_once (plan.rows - first / plan.shape.per_row) * plan.shape.per_row * (width_of plan.base) ≤ plan.rows_at_once * plan.shape.per_row * (width_of plan.base) = mul-le-mul_right (width_of plan.base) (mul-le-mul_right plan.shape.per_row few) in
    let split : (first / plan.shape.per_row + min plan.rows_at_once (plan.rows - first / plan.shape.per_row)) * plan.shape.per_row ≡ first / plan.shape.per_row * plan.shape.per_row + min plan.rows_at_once (plan.rows - first / plan.shape.per_row) * plan.shape.per_row
    = add-mul (first / plan.shape.per_row) (min plan.rows_at_once (plan.rows - first / plan.shape.per_row)) plan.shape.per_row in
    record {
      some = mul-pos some n_pos;
      within = omega (arith, rows_up, split, at, plan.whole);
      runs = some;
      raw = omega (arith, raw_up, plan.rows_raw);
      xdr = omega (arith, xdr_up, plan.rows_xdr);
      cost = subst (λ x. spent_by plan.shape.per_row (max plan.shape.jump plan.size) plan.size x + min plan.rows_at_once (plan.rows - first / plan.shape.per_row) * plan.row_len
          ≤ spent_by plan.shape.per_row (max plan.shape.jump plan.size) plan.size (x + min plan.rows_at_once (plan.rows - first / plan.shape.per_row) * plan.shape.per_row)) at
          (rows-cost plan.shape.per_row (max plan.shape.jump plan.size) plan.size plan.shape.jump (first / plan.shape.per_row) (min plan.rows_at_once (plan.rows - first / plan.shape.per_row)) plan.row_len
          n_pos (plan.row_is (plan.row_read at_once)) (le-max_left plan.shape.jump plan.size));
    }

pub part-bounded : (plan : Plan) (first : ℕ) → first < plan.total → Bounded plan (row_part plan first)
unfolding row_part spent
part-bounded plan first inside =
    let n_pos : 0 < plan.shape.per_row = plan.shape.filled in
    let whole : first / plan.shape.per_row * plan.shape.per_row + first % plan.shape.per_row ≡ first = div-add-mod' first plan.shape.per_row in
    let column_lt : first % plan.shape.per_row < plan.shape.per_row = mod-lt first n_pos in
    let q_lt : first / plan.shape.per_row < plan.rows = (div-lt_iff_lt-mul n_pos).1 (subst (λ x. first < x) (sym plan.whole) inside) in
    let some : 0 < min plan.part (plan.shape.per_row - first % plan.shape.per_row) = omega (arith, plan.part_some) in
    let few : min plan.part (plan.shape.per_row - first % plan.shape.per_row) ≤ plan.part = min-le_left plan.part (plan.shape.per_row - first % plan.shape.per_row) in
    let here : min plan.part (plan.shape.per_row - first % plan.shape.per_row) ≤ plan.shape.per_row - first % plan.shape.per_row = min-le_right plan.part (plan.shape.per_row - first % plan.shape.per_row) in
    let row_up : (first / plan.shape.per_row + 1) * plan.shape.per_row ≤ plan.rows * plan.shape.per_row = mul-le-mul_right plan.shape.per_row (omega arith) in
    let split : (first / plan.shape.per_row + 1) * plan.shape.per_row ≡ first / plan.shape.per_row * plan.shape.per_row + 1 * plan.shape.per_row = add-mul (first / plan.shape.per_row) 1 plan.shape.per_row in
    let raw_up : (min plan.part (plan.shape.per_row - first % plan.shape.per_row) - 1) * plan.shape.jump ≤ (plan.part - 1) * plan.shape.jump = mul-le-mul_right plan.shape.jump (omega (arith, few)) in
    let xdr_up : min plan.part (plan.shape.per_row - first % plan.shape.per_row) * (width_of plan.base) ≤ plan.part * (width_of plan.base) = mul-le-mul_right (width_of plan.base) few in
    record {
      some = some;
      within = omega (arith, row_up, split, one-mul plan.shape.per_row, here, column_lt, whole, plan.whole);
      runs = omega arith;
      raw = omega (arith, raw_up, plan.part_raw);
      xdr = omega (arith, xdr_up, plan.part_xdr);
      cost = subst (λ x. spent_by plan.shape.per_row (max plan.shape.jump plan.size) plan.size x + ((min plan.part (plan.shape.per_row - first % plan.shape.per_row) - 1) * plan.shape.jump + plan.size)
          ≤ spent_by plan.shape.per_row (max plan.shape.jump plan.size) plan.size (x + min plan.part (plan.shape.per_row - first % plan.shape.per_row))) whole
          (part-cost plan.shape.per_row (max plan.shape.jump plan.size) plan.size plan.shape.jump (first / plan.shape.per_row) (first % plan.shape.per_row) (min plan.part (plan.shape.per_row - first % plan.shape.per_row))
          (omega (arith, here, column_lt)) some (le-max_left plan.shape.jump plan.size) (le-max_right plan.shape.jump plan.size));
    }

pub bounded : (plan : Plan) (first : ℕ) → first < plan.total → Bounded plan (batch_of plan first)
bounded plan first inside = batch_at (Bounded plan) plan first (λ e s. whole-bounded plan first inside e s) (λ never. part-bounded plan first inside)

pub is_bounded : (plan : Plan) (b : Batch) → IsBatch plan b → Bounded plan b
is_bounded plan b is = subst (Bounded plan) (sym is.is) (bounded plan b.first is.inside)

pub batch-raw : (plan : Plan) (b : Batch) → IsBatch plan b → b.raw_len ≤ 65536
batch-raw plan b is = subst (λ x. x.raw_len ≤ 65536) (sym is.is) (bounded plan b.first is.inside).raw
