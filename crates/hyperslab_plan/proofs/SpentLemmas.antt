-- What is spent before a position covers what the batches before it read.
use Rattle.std.proofs.Common.{◌≡◌, ℕ, ◌+◌, ◌-◌, ◌*◌, ◌/◌, ◌%◌, ◌<◌, ◌≤◌, ◌⊎◌, List, sym, ap, ◌∙◌, subst, arith, inl, inr, add-zero, max}
use Rattle.std.proofs.Math.Nat.{mod-lt, div-lt_iff_lt-mul, mul-le-mul_left, mul-le-mul_right, zero-mul, add-mul, zero-div, zero-mod}
use Rattle.std.proofs.lemmas.Bool.{cases_lt}
use Rattle.dap_types.specs.declared.slabs.Slab.{Slab}
use Rattle.hyperslab_plan.specs.Axes.{rows_of}
use Rattle.hyperslab_plan.specs.Batches.{spent_by, spent}
use Rattle.hyperslab_plan.specs.Picked.{cost_of}
use Rattle.hyperslab_plan.specs.Shapes.{row_cost}
use Rattle.hyperslab_plan.specs.declared.plan.Plan.{Plan}
use Rattle.hyperslab_plan.proofs.PositionLemmas.{along-div, along-mod}
use Prim.Native.Nat.{zero, suc}

pub spent-row : (n g s q c : ℕ) → c < n → spent_by n g s (q * n + c) ≡ q * ((n - 1) * g + s) + c * g
spent-row n g s q c lt = ap (λ x. x * ((n - 1) * g + s) + (q * n + c) % n * g) (along-div n q c lt) ∙ ap (λ x. q * ((n - 1) * g + s) + x * g) (along-mod n q c lt)

pub spent-rows : (n g s q : ℕ) → 0 < n → spent_by n g s (q * n) ≡ q * ((n - 1) * g + s)
spent-rows n g s q pos = ap (λ x. spent_by n g s x) (sym (add-zero (q * n))) ∙ spent-row n g s q 0 pos ∙ ap (λ x. q * ((n - 1) * g + s) + x) (zero-mul g) ∙ add-zero _

pub part-cost : (n g s j q c m : ℕ) → c + m ≤ n → 0 < m → j ≤ g → s ≤ g → spent_by n g s (q * n + c) + ((m - 1) * j + s) ≤ spent_by n g s (q * n + c + m)
part-cost n g s j q c zero inside some j_le s_le = absurd (omega arith)
part-cost n g s j q c (suc m) inside some j_le s_le =
    let pos : c < n = omega arith in
    let from : spent_by n g s (q * n + c) ≡ q * ((n - 1) * g + s) + c * g = spent-row n g s q c pos in
    let less : m * j ≤ m * g = mul-le-mul_left m j_le in
    let one : suc m - 1 ≡ m = omega arith in
    let read : (suc m - 1) * j ≡ m * j = ap (λ x. x * j) one in
    go (cases_lt (c + suc m) n) from less read
  where
    go : (c + suc m < n) ⊎ (n ≤ c + suc m) → spent_by n g s (q * n + c) ≡ q * ((n - 1) * g + s) + c * g → m * j ≤ m * g → (suc m - 1) * j ≡ m * j →
        spent_by n g s (q * n + c) + ((suc m - 1) * j + s) ≤ spent_by n g s (q * n + c + suc m)
    go (inl lt) from less read =
        let to : spent_by n g s (q * n + c + suc m) ≡ q * ((n - 1) * g + s) + (c + suc m) * g = ap (λ x. spent_by n g s x) (three (q * n) c (suc m)) ∙ spent-row n g s q (c + suc m) lt in
        let more : (c + suc m) * g ≡ c * g + (m * g + g) = spread c m g in
        omega (arith, from, to, less, read, more)
      where
        three : (a b d : ℕ) → a + b + d ≡ a + (b + d)
        three a b d = omega arith

        spread : (c m g : ℕ) → (c + suc m) * g ≡ c * g + (m * g + g)
        spread c m g = omega arith
    go (inr ge) from less read =
        let n_is : n ≡ c + suc m = omega arith in
        let end : q * n + c + suc m ≡ (q + 1) * n = step q n c (suc m) n_is in
        let to : spent_by n g s (q * n + c + suc m) ≡ (q + 1) * ((n - 1) * g + s) = ap (λ x. spent_by n g s x) end ∙ spent-rows n g s (q + 1) (omega arith) in
        let row : (n - 1) * g ≡ c * g + m * g = ap (λ x. x * g) (front n c m n_is) ∙ add-mul c m g in
        let more : (q + 1) * ((n - 1) * g + s) ≡ q * ((n - 1) * g + s) + ((n - 1) * g + s) = once q ((n - 1) * g + s) in
        omega (arith, from, to, less, read, row, more)
      where
        step : (q n c m : ℕ) → n ≡ c + m → q * n + c + m ≡ (q + 1) * n
        step q n c m e = omega arith

        front : (n c m : ℕ) → n ≡ c + suc m → n - 1 ≡ c + m
        front n c m e = omega arith

        once : (q x : ℕ) → (q + 1) * x ≡ q * x + x
        once q x = omega arith

pub rows-cost : (n g s j q r l : ℕ) → 0 < n → l ≡ (n - 1) * j + s → j ≤ g → spent_by n g s (q * n) + r * l ≤ spent_by n g s (q * n + r * n)
rows-cost n g s j q r l pos is j_le =
    let from : spent_by n g s (q * n) ≡ q * ((n - 1) * g + s) = spent-rows n g s q pos in
    let to : spent_by n g s (q * n + r * n) ≡ (q + r) * ((n - 1) * g + s) = ap (λ x. spent_by n g s x) (sym (add-mul q r n)) ∙ spent-rows n g s (q + r) pos in
    let less : (n - 1) * j ≤ (n - 1) * g = mul-le-mul_left (n - 1) j_le in
    let l_le : l ≤ (n - 1) * g + s = omega (arith, is, less) in
    let more : r * l ≤ r * ((n - 1) * g + s) = mul-le-mul_left r l_le in
    let split : (q + r) * ((n - 1) * g + s) ≡ q * ((n - 1) * g + s) + r * ((n - 1) * g + s) = add-mul q r ((n - 1) * g + s) in
    omega (arith, from, to, more, split)

pub spent-none : (plan : Plan) → spent plan 0 ≡ 0
unfolding spent
spent-none plan = ap (λ x. x * ((plan.shape.per_row - 1) * max plan.shape.jump plan.size + plan.size) + 0 % plan.shape.per_row * max plan.shape.jump plan.size) (zero-div plan.shape.per_row)
    ∙ ap (λ x. 0 * ((plan.shape.per_row - 1) * max plan.shape.jump plan.size + plan.size) + x * max plan.shape.jump plan.size) (zero-mod plan.shape.per_row)
    ∙ omega (arith, zero-mul ((plan.shape.per_row - 1) * max plan.shape.jump plan.size + plan.size), zero-mul (max plan.shape.jump plan.size))

pub spent-all : (plan : Plan) → spent plan plan.total ≡ plan.rows * ((plan.shape.per_row - 1) * max plan.shape.jump plan.size + plan.size)
unfolding spent
spent-all plan = ap (λ x. spent_by plan.shape.per_row (max plan.shape.jump plan.size) plan.size x) (sym plan.whole)
    ∙ spent-rows plan.shape.per_row (max plan.shape.jump plan.size) plan.size plan.rows plan.shape.filled

pub spent-below : (n g s q c rows : ℕ) → c < n → q < rows → q * ((n - 1) * g + s) + c * g ≤ rows * ((n - 1) * g + s)
spent-below n g s q c rows inside lt =
    let row : c * g ≤ (n - 1) * g = mul-le-mul_right g (omega arith) in
    let up : (q + 1) * ((n - 1) * g + s) ≤ rows * ((n - 1) * g + s) = mul-le-mul_right ((n - 1) * g + s) (omega arith) in
    let split : (q + 1) * ((n - 1) * g + s) ≡ q * ((n - 1) * g + s) + ((n - 1) * g + s) = once q ((n - 1) * g + s) in
    omega (arith, row, up, split)
  where
    once : (q x : ℕ) → (q + 1) * x ≡ q * x + x
    once q x = omega arith

-- no position has more spent before it than all positions have
pub spent-at_most : (plan : Plan) (first : ℕ) → first ≤ plan.total → spent plan first ≤ spent plan plan.total
unfolding spent
spent-at_most plan first inside = go (cases_lt first plan.total)
  where
    go : (first < plan.total) ⊎ (plan.total ≤ first) → spent plan first ≤ spent plan plan.total
    go (inl lt) =
        let q_lt : first / plan.shape.per_row < plan.rows = (div-lt_iff_lt-mul plan.shape.filled).1 (subst (λ x. first < x) (sym plan.whole) lt) in
        let here : first / plan.shape.per_row * ((plan.shape.per_row - 1) * max plan.shape.jump plan.size + plan.size) + first % plan.shape.per_row * max plan.shape.jump plan.size
        ≤ plan.rows * ((plan.shape.per_row - 1) * max plan.shape.jump plan.size + plan.size)
        = spent-below plan.shape.per_row (max plan.shape.jump plan.size) plan.size (first / plan.shape.per_row) (first % plan.shape.per_row) plan.rows (mod-lt first plan.shape.filled) q_lt in
        subst (λ x. spent plan first ≤ x) (sym (spent-all plan)) here
    go (inr ge) = let e : first ≡ plan.total = omega arith in subst (λ x. spent plan first ≤ spent plan x) e (omega arith)

pub spent-cost : (plan : Plan) (slabs : List Slab) (size : ℕ) → plan.size ≡ size → plan.rows ≡ rows_of plan.shape.outer.items → row_cost plan.shape size ≤ cost_of slabs size → spent plan plan.total ≤ cost_of slabs size
spent-cost plan slabs size size_is rows_is cost =
    let all : spent plan plan.total ≡ rows_of plan.shape.outer.items * ((plan.shape.per_row - 1) * max plan.shape.jump size + size)
    = spent-all plan ∙ ap (λ x. x * ((plan.shape.per_row - 1) * max plan.shape.jump plan.size + plan.size)) rows_is ∙ ap (λ x. rows_of plan.shape.outer.items * ((plan.shape.per_row - 1) * max plan.shape.jump x + x)) size_is in
    subst (λ x. x ≤ cost_of slabs size) (sym all) cost

pub spent-empty : (plan : Plan) → plan.rows ≡ 0 → spent plan plan.total ≡ 0
spent-empty plan none = spent-all plan ∙ ap (λ x. x * ((plan.shape.per_row - 1) * max plan.shape.jump plan.size + plan.size)) none ∙ zero-mul _
