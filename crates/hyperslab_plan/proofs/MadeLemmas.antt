-- The batches, runs and places that the code computes.
use Rattle.std.proofs.Common.{◌≡◌, ℕ, ◌+◌, ◌-◌, ◌*◌, ◌/◌, ◌%◌, ◌<◌, ◌≤◌, ◌⊎◌, Bool, true, false, cond, ◌&&◌, eqb, ltb, refl, sym, ap, ◌∙◌, inl, inr, min}
use Rattle.std.proofs.lemmas.Bool.{and_from, and_left, and_right, eq-eqb, ne_eqb, lt-ltb, le-ltb}
use Rattle.hyperslab_plan.specs.Along.{starts}
use Rattle.hyperslab_plan.specs.Batches.{whole_rows, row_part, batch_of, run_of, IsBatch}
use Rattle.hyperslab_plan.specs.Plans.{place_of, place_in}
use Rattle.hyperslab_plan.specs.declared.batch.Batch.{Batch}
use Rattle.hyperslab_plan.specs.declared.batch.Run.{Run}
use Rattle.hyperslab_plan.specs.declared.plan.Plan.{Plan}

pub whole-made : (plan : Plan) (first rows : ℕ) → first < plan.total → first % plan.shape.per_row ≡ 0 → 0 < plan.rows_at_once → rows ≡ min plan.rows_at_once (plan.rows - first / plan.shape.per_row) →
    IsBatch plan (record { first = first; count = rows * plan.shape.per_row; runs = rows; raw_len = rows * plan.row_len })
unfolding batch_of whole_rows
whole-made plan first rows inside starts at_once is =
    let test : (eqb (first % plan.shape.per_row) 0 && ltb 0 plan.rows_at_once) ≡ true = and_from (eqb (first % plan.shape.per_row) 0) (ltb 0 plan.rows_at_once) (eq-eqb (first % plan.shape.per_row) 0 starts) (lt-ltb 0 plan.rows_at_once at_once) in
    record {
      inside = inside;
      is = made rows (min plan.rows_at_once (plan.rows - first / plan.shape.per_row)) is ∙ sym (chosen (eqb (first % plan.shape.per_row) 0 && ltb 0 plan.rows_at_once) (whole_rows plan first) (row_part plan first) test);
    }
  where
    made : (r q : ℕ) → r ≡ q → (let b : Batch = record { first = first; count = r * plan.shape.per_row; runs = r; raw_len = r * plan.row_len } in b) ≡ record { first = first; count = q * plan.shape.per_row; runs = q; raw_len = q * plan.row_len }
    made r q e = ap (λ (x : ℕ). let b : Batch = record { first = first; count = x * plan.shape.per_row; runs = x; raw_len = x * plan.row_len } in b) e

    chosen : (t : Bool) (x y : Batch) → t ≡ true → cond t x y ≡ x
    chosen t x y e = ap (λ z. cond z x y) e

pub part-made : (plan : Plan) (first count : ℕ) → first < plan.total → ((first % plan.shape.per_row ≡ 0) → ⊥) ⊎ (plan.rows_at_once ≤ 0) → count ≡ min plan.part (plan.shape.per_row - first % plan.shape.per_row) →
    IsBatch plan (record { first = first; count = count; runs = 1; raw_len = (count - 1) * plan.shape.jump + plan.size })
unfolding batch_of row_part
part-made plan first count inside why is =
    record {
      inside = inside;
      is = made count (min plan.part (plan.shape.per_row - first % plan.shape.per_row)) is ∙ sym (chosen (eqb (first % plan.shape.per_row) 0 && ltb 0 plan.rows_at_once) (whole_rows plan first) (row_part plan first) (test why));
    }
  where
    made : (r q : ℕ) → r ≡ q → (let b : Batch = record { first = first; count = r; runs = 1; raw_len = (r - 1) * plan.shape.jump + plan.size } in b) ≡ record { first = first; count = q; runs = 1; raw_len = (q - 1) * plan.shape.jump + plan.size }
    made r q e = ap (λ (x : ℕ). let b : Batch = record { first = first; count = x; runs = 1; raw_len = (x - 1) * plan.shape.jump + plan.size } in b) e

    chosen : (t : Bool) (x y : Batch) → t ≡ false → cond t x y ≡ y
    chosen t x y e = ap (λ z. cond z x y) e

    test : ((first % plan.shape.per_row ≡ 0) → ⊥) ⊎ (plan.rows_at_once ≤ 0) → (eqb (first % plan.shape.per_row) 0 && ltb 0 plan.rows_at_once) ≡ false
    test (inl ne) = and_left (eqb (first % plan.shape.per_row) 0) (ltb 0 plan.rows_at_once) (ne_eqb (first % plan.shape.per_row) 0 ne)
    test (inr le) = and_right (eqb (first % plan.shape.per_row) 0) (ltb 0 plan.rows_at_once) (le-ltb 0 plan.rows_at_once le)

pub run-made : (plan : Plan) (b : Batch) (k at len into : ℕ) → at ≡ place_of plan (b.first + k * plan.shape.per_row) → len ≡ cond (eqb b.runs 1) b.raw_len plan.row_len → into ≡ k * plan.row_len →
    (let r : Run = record { at = at; len = len; into = into } in r) ≡ run_of plan b k
unfolding run_of
run-made plan b k at len into e f g =
    ap (λ (x : ℕ). let r : Run = record { at = x; len = len; into = into } in r) e
    ∙ ap (λ (x : ℕ). let r : Run = record { at = place_of plan (b.first + k * plan.shape.per_row); len = x; into = into } in r) f
    ∙ ap (λ (x : ℕ). let r : Run = record { at = place_of plan (b.first + k * plan.shape.per_row); len = cond (eqb b.runs 1) b.raw_len plan.row_len; into = x } in r) g

pub run-into : (plan : Plan) (b : Batch) (k : ℕ) → (run_of plan b k).into ≡ k * plan.row_len
unfolding run_of
run-into plan b k = refl

pub place-made : (plan : Plan) (j : ℕ) → place_in plan j ≡ j / plan.shape.per_row * plan.row_len + j % plan.shape.per_row * plan.shape.jump
unfolding place_in
place-made plan j = refl

pub chosen_one : (r x y : ℕ) → r ≡ 1 → cond (eqb r 1) x y ≡ x
chosen_one r x y e = ap (λ t. cond t x y) (eq-eqb r 1 e)

pub chosen_other : (r x y : ℕ) → (r ≡ 1 → ⊥) → cond (eqb r 1) x y ≡ y
chosen_other r x y e = ap (λ t. cond t x y) (ne_eqb r 1 e)
