-- What the batches up to a position read.
use Rattle.std.proofs.Common.{[], ◌∷◌, ◌≡◌, ℕ, ◌+◌, ◌-◌, ◌*◌, ◌<◌, ◌≤◌, List, sym, ap, ◌∙◌, subst, arith}
use Rattle.std.proofs.Math.Nat.{zero-mul, suc-mul}
use Rattle.std.proofs.lemmas.List.Sums.{sum_by-cons}
use Rattle.std.specs.List.{range_with_len, sum_by}
use Rattle.hyperslab_plan.specs.Batches.{run_of, IsBatch, spent, read_by, read_in, InTurn}
use Rattle.hyperslab_plan.specs.declared.batch.Batch.{Batch}
use Rattle.hyperslab_plan.specs.declared.plan.Plan.{Plan}
use Rattle.hyperslab_plan.proofs.BoundedLemmas.{is_bounded}
use Rattle.hyperslab_plan.proofs.ShapedLemmas.{Shaped, shaped}
use Rattle.hyperslab_plan.proofs.SpentLemmas.{spent-none, spent-at_most}
use Prim.Native.Nat.{zero, suc}

sum-same : (f : ℕ → ℕ) (a n x : ℕ) → ((k : ℕ) → k < a + n → f k ≡ x) → sum_by f (range_with_len a n) ≡ n * x
sum-same f a zero x same = sym (zero-mul x)
sum-same f a (suc n) x same =
    let rest : sum_by f (range_with_len (a + 1) n) ≡ n * x = sum-same f (a + 1) n x (λ k lt. same k (omega arith)) in
    sum_by-cons f a (range_with_len (a + 1) n) ∙ omega (arith, rest, same a (omega arith), suc-mul n x)

-- the runs of a batch read its raw bytes
pub read-raw : (plan : Plan) (b : Batch) → IsBatch plan b → read_in plan b ≡ b.raw_len
unfolding read_in
read-raw plan b is = by_shape (shaped plan b is)
  where
    by_shape : Shaped plan b → sum_by (λ k. (run_of plan b k).len) (range_with_len 0 b.runs) ≡ b.raw_len
    by_shape s =
        sum-same (λ k. (run_of plan b k).len) 0 b.runs ((s.m - 1) * plan.shape.jump + plan.size) (λ k lt. s.len k (omega arith)) ∙ sym s.raw

in-turn : (plan : Plan) (batches : List Batch) (from upto : ℕ) → InTurn plan batches from upto → from ≤ plan.total → upto ≤ plan.total
in-turn plan [] from upto turn inside = omega (arith, turn)
in-turn plan (b ∷ batches) from upto turn inside =
    let within : b.first + b.count ≤ plan.total = (is_bounded plan b turn.0).within in
    in-turn plan batches (from + b.count) upto turn.2 (omega (arith, within, turn.1))

read-spent : (plan : Plan) (batches : List Batch) (from upto : ℕ) → InTurn plan batches from upto → read_by plan batches + spent plan from ≤ spent plan upto
unfolding read_by
read-spent plan [] from upto turn = omega (arith, ap (spent plan) turn)
read-spent plan (b ∷ batches) from upto turn =
    let rest : sum_by (read_in plan) batches + spent plan (from + b.count) ≤ spent plan upto = read-spent plan batches (from + b.count) upto turn.2 in
    let cost : spent plan from + b.raw_len ≤ spent plan (from + b.count) = subst (λ x. spent plan x + b.raw_len ≤ spent plan (x + b.count)) turn.1 (is_bounded plan b turn.0).cost in
    omega (arith, rest, cost, read-raw plan b turn.0, sum_by-cons (read_in plan) b batches)

-- the batches from the first element up to any position read no more than all
pub read-bound : (plan : Plan) (batches : List Batch) (upto most : ℕ) → InTurn plan batches 0 upto → spent plan plan.total ≤ most → read_by plan batches ≤ most
read-bound plan batches upto most turn h =
    omega (arith, read-spent plan batches 0 upto turn, spent-none plan, spent-at_most plan upto (in-turn plan batches 0 upto turn (omega arith)))
