use Rattle.std.proofs.Common.{◌≡◌, ℕ, ◌+◌, ◌-◌, ◌*◌, ◌/◌, ◌<◌, ◌≤◌, length, take, drop, slice_index, sym, ap, ◌∙◌, arith}
use Rattle.std.proofs.Math.Nat.{mul-le-mul_right, div-mul-le_self, add-mul}
use Rattle.std.proofs.lemmas.Slice.{take-put_mid}
use Rattle.hyperslab_plan.specs.Plans.{width_in}
use Rattle.hyperslab_plan.proofs.BoundedLemmas.{is_bounded}
use Rattle.slab_fill.specs.Elements.{batch_byte}
use Rattle.slab_fill.proofs.ChunkLemmas.{next-row, row-few}
use Rattle.slab_fill.proofs.PartLemmas.{part-length, filled-more}
use Rattle.slab_fill.proofs.chunk.write_rows.Goals as goal

pub overflow_add-first : goal.overflow_add-first
overflow_add-first c =
    let b = is_bounded c.args.plan.now c.args.batch.now c.requires.batch in
    let width_is : c.width-width.result ≡ width_in c.args.plan.now = c.width-width.ensures.width in
    let count_is : length c.args.part.now / c.width-width.result ≡ length c.args.part.now / width_in c.args.plan.now = ap (λ w. length c.args.part.now / w) width_is in
    omega (arith, b.within, c.args.plan.now.few, c.requires.inside, count_is, c.loop-done-test.true)

pub overflow_add-row : goal.overflow_add-row
overflow_add-row c =
    let b = is_bounded c.args.plan.now c.args.batch.now c.requires.batch in
    let width_is : c.width-width.result ≡ width_in c.args.plan.now = c.width-width.ensures.width in
    let count_is : length c.args.part.now / c.width-width.result ≡ length c.args.part.now / width_in c.args.plan.now = ap (λ w. length c.args.part.now / w) width_is in
    omega (arith, b.within, c.args.plan.now.few, c.requires.inside, count_is, c.loop-done-test.true, c.loop-done.invariant.at c.loop-done-test.true, row-few c.loop-done.row c.spacing-per_row.result.per_row c.spacing-per_row.ensures.filled)

pub loop-done-preserved : goal.loop-done-preserved
loop-done-preserved c =
    let width_is : c.width-width.result ≡ width_in c.args.plan.now = c.width-width.ensures.width in
    let upto : c.loop-done.done + c.min-n.result ≤ length c.args.part.now / c.width-width.result = omega (arith, c.min-n.ensures, c.loop-done-test.true) in
    let up : (c.loop-done.done + c.min-n.result) * c.width-width.result ≤ length c.args.part.now / c.width-width.result * c.width-width.result = mul-le-mul_right c.width-width.result upto in
    let fits : (c.loop-done.done + c.min-n.result) * c.width-width.result ≤ length c.loop-done.part = omega (arith, up, div-mul-le_self (length c.args.part.now) c.width-width.result, c.loop-done.auto.part) in
    let split : (c.loop-done.done + c.min-n.result) * c.width-width.result ≡ c.loop-done.done * c.width-width.result + c.min-n.result * c.width-width.result = add-mul c.loop-done.done c.min-n.result c.width-width.result in
    let old_long : length (take ((c.loop-done.done + c.min-n.result) * c.width-width.result - c.loop-done.done * c.width-width.result) (drop (c.loop-done.done * c.width-width.result) c.loop-done.part)) ≡ c.min-n.result * c.width-width.result
    = part-length c.width-width.result c.loop-done.done c.min-n.result c.loop-done.part fits in
    let long : length c.write_row_part.new.part ≡ c.min-n.result * c.width-width.result = c.write_row_part.auto.part ∙ old_long in
    let inside : c.loop-done.done * c.width-width.result ≤ length c.loop-done.part = omega (arith, fits, split) in
    let ends : (c.loop-done.done + c.min-n.result) * c.width-width.result ≡ c.loop-done.done * c.width-width.result + length c.write_row_part.new.part = split ∙ ap (λ x. c.loop-done.done * c.width-width.result + x) (sym long) in
    let here : (k : ℕ) → k < length c.write_row_part.new.part → slice_index c.write_row_part.new.part k ≡ batch_byte c.args.plan.now c.args.raw.now (c.args.first * width_in c.args.plan.now + (c.loop-done.done * c.width-width.result + k))
    = λ k lt. c.write_row_part.ensures k (omega (arith, lt, long, old_long))
    ∙ ap (λ x. batch_byte c.args.plan.now c.args.raw.now x) (place c.args.first c.loop-done.done (width_in c.args.plan.now) k ∙ ap (λ x. c.args.first * width_in c.args.plan.now + (c.loop-done.done * x + k)) (sym width_is)) in
    record {
      inside = upto;
      in_row = c.spacing-per_row.ensures.filled;
      at = λ more. next-row c.loop-done.row c.spacing-per_row.result.per_row c.loop-done.column c.min-n.result (c.args.first + c.loop-done.done) (c.loop-done.invariant.at c.loop-done-test.true) (omega (arith, c.min-n.ensures, more)) (omega (arith, c.loop-done.invariant.in_row))
          ∙ three c.args.first c.loop-done.done c.min-n.result;
      filled = filled-more _ c.loop-done.part c.write_row_part.new.part (c.loop-done.done * c.width-width.result) ((c.loop-done.done + c.min-n.result) * c.width-width.result) (λ k. batch_byte c.args.plan.now c.args.raw.now (c.args.first * width_in c.args.plan.now + k))
          (take-put_mid (c.loop-done.done * c.width-width.result) ((c.loop-done.done + c.min-n.result) * c.width-width.result - c.loop-done.done * c.width-width.result) c.loop-done.part c.write_row_part.new.part ((c.loop-done.done + c.min-n.result) * c.width-width.result) ends inside)
          inside ends c.loop-done.invariant.filled here;
    }
  where
    place : (first done w k : ℕ) → (first + done) * w + k ≡ first * w + (done * w + k)
    place first done w k = omega arith

    three : (a b c : ℕ) → a + b + c ≡ a + (b + c)
    three a b c = omega arith
