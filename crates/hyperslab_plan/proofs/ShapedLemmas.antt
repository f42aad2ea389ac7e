-- A batch is a number of equal parts of rows.
use Rattle.std.proofs.Common.{if◌then◌else◌, ◌≡◌, ℕ, ◌+◌, ◌-◌, ◌*◌, ◌/◌, ◌%◌, ◌<◌, ◌≤◌, Bool, true, false, cond, ◌&&◌, eqb, ltb, refl, sym, ap, ◌∙◌, subst, arith, zero-add, min}
use Rattle.std.proofs.Math.Nat.{mod-lt, mod-eq_of_lt, div-eq_of_lt, div-lt_iff_lt-mul, zero-mul, one-mul, min-le_right}
use Rattle.std.proofs.lemmas.Bool.{and_parts, and_from, eqb-true, ltb-true, eq-eqb, lt-ltb}
use Rattle.plain_lemmas.proofs.Truths.{true_not_false}
use Rattle.hyperslab_plan.specs.Along.{starts}
use Rattle.hyperslab_plan.specs.Batches.{whole_rows, row_part, batch_of, run_of, IsBatch}
use Rattle.hyperslab_plan.specs.Plans.{place_in}
use Rattle.hyperslab_plan.specs.declared.batch.Batch.{Batch}
use Rattle.hyperslab_plan.specs.declared.plan.Plan.{Plan}
use Rattle.hyperslab_plan.proofs.PositionLemmas.{along-div, along-mod}

pub cond_at : (P : Batch → Type 0) (t : Bool) (x y : Batch) → (t ≡ true → P x) → (t ≡ false → P y) → P (cond t x y)
cond_at P true x y h k = h refl
cond_at P false x y h k = k refl

-- what holds of whole rows where they are read, and of a part of a row where not, holds of the batch
pub batch_at : (P : Batch → Type 0) (plan : Plan) (first : ℕ) → (first % plan.shape.per_row ≡ 0 → 0 < plan.rows_at_once → P (whole_rows plan first)) →
    ((first % plan.shape.per_row ≡ 0 → 0 < plan.rows_at_once → ⊥) → P (row_part plan first)) → P (batch_of plan first)
unfolding batch_of
batch_at P plan first h k =
    cond_at P (eqb (first % plan.shape.per_row) 0 && ltb 0 plan.rows_at_once) (whole_rows plan first) (row_part plan first)
    (λ e. let both = and_parts (eqb (first % plan.shape.per_row) 0) (ltb 0 plan.rows_at_once) e in h (eqb-true (first % plan.shape.per_row) 0 both.0) (ltb-true 0 plan.rows_at_once both.1))
    (λ e. k (λ starts some. never e (and_from (eqb (first % plan.shape.per_row) 0) (ltb 0 plan.rows_at_once) (eq-eqb (first % plan.shape.per_row) 0 starts) (lt-ltb 0 plan.rows_at_once some))))
  where
    never : (eqb (first % plan.shape.per_row) 0 && ltb 0 plan.rows_at_once) ≡ false → (eqb (first % plan.shape.per_row) 0 && ltb 0 plan.rows_at_once) ≡ true → ⊥
    never is_no is_yes = true_not_false (sym is_yes ∙ is_no)

pub whole-first : (plan : Plan) (f : ℕ) → (whole_rows plan f).first ≡ f
unfolding whole_rows
whole-first plan f = refl

pub part-first : (plan : Plan) (f : ℕ) → (row_part plan f).first ≡ f
unfolding row_part
part-first plan f = refl

pub first-is : (plan : Plan) (f : ℕ) → (batch_of plan f).first ≡ f
first-is plan f = batch_at (λ x. x.first ≡ f) plan f (λ e s. whole-first plan f) (λ never. part-first plan f)

pub record Shaped (plan : Plan) (b : Batch) : Type 0 where
  pub m : ℕ
  pub some : 0 < m
  pub runs : 0 < b.runs
  pub count : b.count ≡ b.runs * m
  pub column : b.first % plan.shape.per_row + m ≤ plan.shape.per_row
  pub steps : (k : ℕ) → k < b.runs → k * plan.shape.per_row ≡ k * m
  pub len : (k : ℕ) → k < b.runs → (run_of plan b k).len ≡ (m - 1) * plan.shape.jump + plan.size
  pub into : (k : ℕ) → k < b.runs → (run_of plan b k).into ≡ k * ((m - 1) * plan.shape.jump + plan.size)
  pub raw : b.raw_len ≡ b.runs * ((m - 1) * plan.shape.jump + plan.size)
  pub placed : (k i : ℕ) → k < b.runs → i < m → place_in plan (k * m + i) ≡ k * ((m - 1) * plan.shape.jump + plan.size) + i * plan.shape.jump

pub eqb-one : (r : ℕ) (x y : ℕ) → (r ≡ 1 → x ≡ y) → (if eqb r 1 then x else y) ≡ y
eqb-one r x y h = go (eqb r 1) refl
  where
    go : (t : Bool) → eqb r 1 ≡ t → cond t x y ≡ y
    go true e = h (eqb-true r 1 e)
    go false e = refl

-- whole rows
pub whole-shaped : (plan : Plan) (first : ℕ) → first < plan.total → first % plan.shape.per_row ≡ 0 → 0 < plan.rows_at_once → Shaped plan (whole_rows plan first)
unfolding whole_rows run_of place_in
whole-shaped plan first inside starts at_once =
    let pos : 0 < plan.shape.per_row = plan.shape.filled in
    let q_lt : first / plan.shape.per_row < plan.rows = (div-lt_iff_lt-mul pos).1 (subst (λ x. first < x) (sym plan.whole) inside) in
    let left : 0 < plan.rows - first / plan.shape.per_row = omega arith in
    let some : 0 < min plan.rows_at_once (plan.rows - first / plan.shape.per_row) = omega arith in
    let row_is : plan.row_len ≡ (plan.shape.per_row - 1) * plan.shape.jump + plan.size = plan.row_is (plan.row_read at_once) in
    record {
      m = plan.shape.per_row;
      some = pos;
      runs = some;
      count = refl;
      column = omega (arith, starts);
      steps = λ k below. refl;
      len = λ k below. eqb-one (min plan.rows_at_once (plan.rows - first / plan.shape.per_row)) (min plan.rows_at_once (plan.rows - first / plan.shape.per_row) * plan.row_len) plan.row_len
          (λ e. ap (λ x. x * plan.row_len) e ∙ one-mul plan.row_len) ∙ row_is;
      into = λ k below. ap (λ x. k * x) row_is;
      raw = ap (λ x. min plan.rows_at_once (plan.rows - first / plan.shape.per_row) * x) row_is;
      placed = λ k i below inside_row. ap (λ x. x * plan.row_len + (k * plan.shape.per_row + i) % plan.shape.per_row * plan.shape.jump) (along-div plan.shape.per_row k i inside_row)
          ∙ ap (λ x. k * plan.row_len + x * plan.shape.jump) (along-mod plan.shape.per_row k i inside_row)
          ∙ ap (λ x. k * x + i * plan.shape.jump) row_is;
    }

-- a part of a row
pub part-shaped : (plan : Plan) (first : ℕ) → Shaped plan (row_part plan first)
unfolding row_part run_of place_in
part-shaped plan first =
    let pos : 0 < plan.shape.per_row = plan.shape.filled in
    let column_lt : first % plan.shape.per_row < plan.shape.per_row = mod-lt first pos in
    let left : 0 < plan.shape.per_row - first % plan.shape.per_row = omega arith in
    let some : 0 < min plan.part (plan.shape.per_row - first % plan.shape.per_row) = omega (arith, plan.part_some) in
    let short : min plan.part (plan.shape.per_row - first % plan.shape.per_row) ≤ plan.shape.per_row - first % plan.shape.per_row = min-le_right plan.part (plan.shape.per_row - first % plan.shape.per_row) in
    record {
      m = min plan.part (plan.shape.per_row - first % plan.shape.per_row);
      some = some;
      runs = omega arith;
      count = sym (one-mul _);
      column = omega (arith, short, column_lt);
      steps = λ k below. let z : k ≡ 0 = omega arith in ap (λ x. x * plan.shape.per_row) z ∙ zero-mul plan.shape.per_row ∙ sym (ap (λ x. x * min plan.part (plan.shape.per_row - first % plan.shape.per_row)) z ∙ zero-mul _);
      len = λ k below. refl;
      into = λ k below. let z : k ≡ 0 = omega arith in ap (λ x. x * plan.row_len) z ∙ zero-mul plan.row_len ∙ sym (ap (λ x. x * ((min plan.part (plan.shape.per_row - first % plan.shape.per_row) - 1) * plan.shape.jump + plan.size)) z ∙ zero-mul _);
      raw = sym (one-mul _);
      placed = λ k i below inside_part.
          let z : k ≡ 0 = omega arith in
          let i_lt : i < plan.shape.per_row = omega (arith, short, column_lt) in
          let e : k * min plan.part (plan.shape.per_row - first % plan.shape.per_row) + i ≡ i = ap (λ x. x * min plan.part (plan.shape.per_row - first % plan.shape.per_row) + i) z ∙ ap (λ x. x + i) (zero-mul _) ∙ zero-add i in
          ap (λ x. x / plan.shape.per_row * plan.row_len + x % plan.shape.per_row * plan.shape.jump) e
          ∙ ap (λ x. x * plan.row_len + i % plan.shape.per_row * plan.shape.jump) (div-eq_of_lt i_lt)
          ∙ ap (λ x. 0 * plan.row_len + x * plan.shape.jump) (mod-eq_of_lt i_lt)
          ∙ ap (λ x. x + i * plan.shape.jump) (zero-mul plan.row_len ∙ sym (zero-mul _))
          ∙ ap (λ x. x * ((min plan.part (plan.shape.per_row - first % plan.shape.per_row) - 1) * plan.shape.jump + plan.size) + i * plan.shape.jump) (sym z);
    }

pub shaped : (plan : Plan) (b : Batch) → IsBatch plan b → Shaped plan b
shaped plan b is = subst (Shaped plan) (sym is.is) (batch_at (Shaped plan) plan b.first (λ e s. whole-shaped plan b.first is.inside e s) (λ never. part-shaped plan b.first))
