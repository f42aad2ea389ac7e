-- The runs of a batch, and the elements that each begins and ends with.
use Rattle.std.proofs.Common.{◌≡◌, ℕ, ◌+◌, ◌-◌, ◌*◌, ◌/◌, ◌%◌, ◌<◌, ◌≤◌, refl, sym, ap, ◌∙◌, subst, arith, add-zero}
use Rattle.std.proofs.Math.Nat.{mod-lt, div-lt_iff_lt-mul, div-add-mod', mul-add-mod_self_right, mul-le-mul_right, zero-mul}
use Rattle.hyperslab_plan.specs.Batches.{batch_of, run_of, IsBatch, Fills, ElementBeginsAt, ElementEndsAt, Held}
use Rattle.hyperslab_plan.specs.Plans.{place_of, place_in}
use Rattle.hyperslab_plan.specs.declared.batch.Batch.{Batch}
use Rattle.hyperslab_plan.specs.declared.plan.Plan.{Plan}
use Rattle.hyperslab_plan.proofs.BoundedLemmas.{bounded, batch-raw}
use Rattle.hyperslab_plan.proofs.PositionLemmas.{place-along}
use Rattle.hyperslab_plan.proofs.ShapedLemmas.{first-is, Shaped, shaped}

pub fills : (plan : Plan) (b : Batch) → IsBatch plan b → Fills plan b
fills plan b is = by_shape (shaped plan b is)
  where
    step : (k l : ℕ) → (k + 1) * l ≡ k * l + l
    step k l = omega arith

    by_shape : Shaped plan b → Fills plan b
    by_shape s = record {
      first = s.into 0 s.runs ∙ zero-mul _;
      next = λ k below.
          let here : k < b.runs = omega arith in
          s.into (k + 1) below ∙ step k ((s.m - 1) * plan.shape.jump + plan.size) ∙ ap (λ x. x + ((s.m - 1) * plan.shape.jump + plan.size)) (sym (s.into k here)) ∙ ap (λ x. (run_of plan b k).into + x) (sym (s.len k here));
      last = λ k end.
          let here : k < b.runs = omega arith in
          ap (λ x. x + (run_of plan b k).len) (s.into k here) ∙ ap (λ x. k * ((s.m - 1) * plan.shape.jump + plan.size) + x) (s.len k here)
          ∙ sym (step k ((s.m - 1) * plan.shape.jump + plan.size)) ∙ ap (λ x. x * ((s.m - 1) * plan.shape.jump + plan.size)) end ∙ sym s.raw;
    }

pub run-at : (plan : Plan) (b : Batch) (k : ℕ) → (run_of plan b k).at ≡ place_of plan (b.first + k * plan.shape.per_row)
unfolding run_of
run-at plan b k = refl

-- element i of run k
pub run-along : (plan : Plan) (b : Batch) (s : Shaped plan b) (k i : ℕ) → k < b.runs → i < s.m → place_of plan (b.first + (k * s.m + i)) ≡ (run_of plan b k).at + i * plan.shape.jump
run-along plan b s k i below inside =
    let pos : 0 < plan.shape.per_row = plan.shape.filled in
    let steps : k * plan.shape.per_row ≡ k * s.m = s.steps k below in
    let turn : b.first + k * plan.shape.per_row ≡ k * plan.shape.per_row + b.first = omega arith in
    let column : (b.first + k * plan.shape.per_row) % plan.shape.per_row ≡ b.first % plan.shape.per_row = ap (λ x. x % plan.shape.per_row) turn ∙ mul-add-mod_self_right k plan.shape.per_row b.first in
    let room : (b.first + k * plan.shape.per_row) % plan.shape.per_row + i < plan.shape.per_row = omega (arith, column, s.column) in
    let e : b.first + (k * s.m + i) ≡ b.first + k * plan.shape.per_row + i = ap (λ x. b.first + (x + i)) (sym steps) ∙ omega arith in
    ap (λ x. place_of plan x) e ∙ place-along plan (b.first + k * plan.shape.per_row) i room ∙ ap (λ x. x + i * plan.shape.jump) (sym (run-at plan b k))

-- element i of run k is one of the batch
pub in_batch : (runs m k i : ℕ) → k < runs → i < m → k * m + i < runs * m
in_batch runs m k i below inside =
    let up : (k + 1) * m ≤ runs * m = mul-le-mul_right m (omega arith) in
    let split : (k + 1) * m ≡ k * m + m = omega arith in
    omega (arith, up, split)

pub begins : (plan : Plan) (b : Batch) (k : ℕ) → IsBatch plan b → k < b.runs → ElementBeginsAt plan b (run_of plan b k).at
begins plan b k is below = by_shape (shaped plan b is)
  where
    by_shape : Shaped plan b → ElementBeginsAt plan b (run_of plan b k).at
    by_shape s =
        let inside : k * s.m + 0 < b.runs * s.m = in_batch b.runs s.m k 0 below s.some in
        (k * s.m + 0, subst (λ x. k * s.m + 0 < x) (sym s.count) inside, run-along plan b s k 0 below s.some ∙ ap (λ x. (run_of plan b k).at + x) (zero-mul plan.shape.jump) ∙ add-zero _)

pub ends : (plan : Plan) (b : Batch) (k : ℕ) → IsBatch plan b → k < b.runs → ElementEndsAt plan b ((run_of plan b k).at + (run_of plan b k).len)
ends plan b k is below = by_shape (shaped plan b is)
  where
    by_shape : Shaped plan b → ElementEndsAt plan b ((run_of plan b k).at + (run_of plan b k).len)
    by_shape s =
        let last : s.m - 1 < s.m = omega (arith, s.some) in
        let inside : k * s.m + (s.m - 1) < b.runs * s.m = in_batch b.runs s.m k (s.m - 1) below last in
        let along : place_of plan (b.first + (k * s.m + (s.m - 1))) ≡ (run_of plan b k).at + (s.m - 1) * plan.shape.jump = run-along plan b s k (s.m - 1) below last in (
          k * s.m + (s.m - 1),
          subst (λ x. k * s.m + (s.m - 1) < x) (sym s.count) inside,
          ap (λ x. x + plan.size) along ∙ three (run_of plan b k).at ((s.m - 1) * plan.shape.jump) plan.size ∙ ap (λ x. (run_of plan b k).at + x) (sym (s.len k below)),
        )
      where
        three : (x y z : ℕ) → x + y + z ≡ x + (y + z)
        three x y z = omega arith

pub held : (plan : Plan) (b : Batch) (j : ℕ) → IsBatch plan b → j < b.count → Held plan b j
held plan b j is below = by_shape (shaped plan b is)
  where
    by_shape : Shaped plan b → Held plan b j
    by_shape s =
        let whole : j / s.m * s.m + j % s.m ≡ j = div-add-mod' j s.m in
        let k_lt : j / s.m < b.runs = (div-lt_iff_lt-mul s.some).1 (subst (λ x. j < x) s.count below) in
        let i_lt : j % s.m < s.m = mod-lt j s.some in
        let at : place_in plan j ≡ j / s.m * ((s.m - 1) * plan.shape.jump + plan.size) + j % s.m * plan.shape.jump = ap (λ x. place_in plan x) (sym whole) ∙ s.placed (j / s.m) (j % s.m) k_lt i_lt in
        let into : (run_of plan b (j / s.m)).into ≡ j / s.m * ((s.m - 1) * plan.shape.jump + plan.size) = s.into (j / s.m) k_lt in
        let len : (run_of plan b (j / s.m)).len ≡ (s.m - 1) * plan.shape.jump + plan.size = s.len (j / s.m) k_lt in
        let along : place_of plan (b.first + (j / s.m * s.m + j % s.m)) ≡ (run_of plan b (j / s.m)).at + j % s.m * plan.shape.jump = run-along plan b s (j / s.m) (j % s.m) k_lt i_lt in
        let there : place_of plan (b.first + j) ≡ (run_of plan b (j / s.m)).at + j % s.m * plan.shape.jump = ap (λ x. place_of plan (b.first + x)) (sym whole) ∙ along in
        let up : j % s.m * plan.shape.jump ≤ (s.m - 1) * plan.shape.jump = mul-le-mul_right plan.shape.jump (omega arith) in
        record {
          run = j / s.m;
          is_run = k_lt;
          from = omega (arith, at, into);
          to = omega (arith, at, into, len, up);
          at = put (run_of plan b (j / s.m)).at (place_in plan j) (place_of plan (b.first + j)) (run_of plan b (j / s.m)).into (j / s.m * ((s.m - 1) * plan.shape.jump + plan.size)) (j % s.m * plan.shape.jump) at into there;
        }
      where
        put : (a p q i x y : ℕ) → p ≡ x + y → i ≡ x → q ≡ a + y → a + p ≡ q + i
        put a p q i x y e f g = omega arith

pub run-in_raw : (plan : Plan) (b : Batch) (k : ℕ) → IsBatch plan b → k < b.runs → (run_of plan b k).into + (run_of plan b k).len ≤ b.raw_len
run-in_raw plan b k is below = by_shape (shaped plan b is)
  where
    by_shape : Shaped plan b → (run_of plan b k).into + (run_of plan b k).len ≤ b.raw_len
    by_shape s =
        let up : (k + 1) * ((s.m - 1) * plan.shape.jump + plan.size) ≤ b.runs * ((s.m - 1) * plan.shape.jump + plan.size) = mul-le-mul_right ((s.m - 1) * plan.shape.jump + plan.size) (omega arith) in
        let split : (k + 1) * ((s.m - 1) * plan.shape.jump + plan.size) ≡ k * ((s.m - 1) * plan.shape.jump + plan.size) + ((s.m - 1) * plan.shape.jump + plan.size) = step k ((s.m - 1) * plan.shape.jump + plan.size) in
        omega (arith, up, split, s.into k below, s.len k below, s.raw)
      where
        step : (k l : ℕ) → (k + 1) * l ≡ k * l + l
        step k l = omega arith

pub run-short : (plan : Plan) (b : Batch) (k : ℕ) → IsBatch plan b → k < b.runs → (run_of plan b k).into + (run_of plan b k).len ≤ 65536
run-short plan b k is below = omega (arith, run-in_raw plan b k is below, batch-raw plan b is)

pub place-short : (plan : Plan) (b : Batch) (j : ℕ) → IsBatch plan b → j < b.count → place_in plan j + plan.size ≤ 65536
place-short plan b j is below = by_held (held plan b j is below)
  where
    by_held : Held plan b j → place_in plan j + plan.size ≤ 65536
    by_held h = omega (arith, h.to, run-short plan b h.run is h.is_run)

pub run-first : (plan : Plan) (b : Batch) (k : ℕ) → IsBatch plan b → k < b.runs → b.first + k * plan.shape.per_row < plan.total
run-first plan b k is below = by_shape (shaped plan b is)
  where
    within : b.first + b.count ≤ plan.total
    within = subst (λ x. b.first + x.count ≤ plan.total) (sym is.is) (subst (λ x. x + (batch_of plan b.first).count ≤ plan.total) (first-is plan b.first) (bounded plan b.first is.inside).within)

    by_shape : Shaped plan b → b.first + k * plan.shape.per_row < plan.total
    by_shape s =
        let inside : k * s.m + 0 < b.runs * s.m = in_batch b.runs s.m k 0 below s.some in
        omega (arith, inside, s.count, within, s.steps k below)

pub place-in_raw : (plan : Plan) (b : Batch) (j : ℕ) → IsBatch plan b → j < b.count → place_in plan j + plan.size ≤ b.raw_len
place-in_raw plan b j is below = by_held (held plan b j is below)
  where
    by_held : Held plan b j → place_in plan j + plan.size ≤ b.raw_len
    by_held h = omega (arith, h.to, run-in_raw plan b h.run is h.is_run)
