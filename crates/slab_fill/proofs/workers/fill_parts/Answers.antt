use Rattle.std.proofs.Common.{◌≡◌, ◌*◌, ◌%◌, ◌-◌, ◌<◌, min, length, arith, subst, sym}
use Rattle.std.proofs.Math.Nat.{mul-pos}
use Rattle.hyperslab_plan.specs.Plans.{width_in}
use Rattle.hyperslab_plan.proofs.BoundedLemmas.{is_bounded}
use Rattle.slab_fill.proofs.WorkerLemmas.{some_each, no_remainder, whole_start, whole_len}
use Rattle.slab_fill.proofs.workers.fill_parts.Goals as goal

pub for_each_chunk_mut-requires-clause-size : goal.for_each_chunk_mut-requires-clause-size
for_each_chunk_mut-requires-clause-size g c κs within =
    let b = is_bounded c.args.plan.now c.args.batch.now c.requires.batch in
    let size : 0 < c.div_ceil.result = subst (λ x. 0 < x) (sym c.div_ceil.ensures) (some_each c.args.batch.now.count c.args.workers b.some c.requires.some) in
    mul-pos size c.width.ensures.some

pub for_each_chunk_mut-requires-clause-accepts : goal.for_each_chunk_mut-requires-clause-accepts
for_each_chunk_mut-requires-clause-accepts g c κs within = λ start p k.
    let width_is : c.width.result ≡ width_in c.args.plan.now = c.width.ensures.width in
    let b = is_bounded c.args.plan.now c.args.batch.now c.requires.batch in
    let starts : start % (c.div_ceil.result * width_in c.args.plan.now) ≡ 0 = subst (λ w. start % (c.div_ceil.result * w) ≡ 0) width_is k.start_is_multiple in
    let long : length p.now ≡ min (c.div_ceil.result * width_in c.args.plan.now) (length c.args.out.now - start) = subst (λ w. length p.now ≡ min (c.div_ceil.result * w) (length c.args.out.now - start)) width_is k.len in
    let whole : length c.args.out.now % width_in c.args.plan.now ≡ 0 = no_remainder (length c.args.out.now) c.args.batch.now.count (width_in c.args.plan.now) c.requires.room in (
      c.requires.number,
      (
        c.requires.batch,
        (
          c.requires.raw_len,
          (
            for_each_chunk_mut-requires-clause-size g c κs within,
            (
              omega (arith, k.in_bounds, k.nonempty, c.requires.room, b.xdr),
              (
                whole_start start c.div_ceil.result (width_in c.args.plan.now) starts,
                (
                  k.nonempty,
                  (
                    whole_len c.div_ceil.result (width_in c.args.plan.now) (length c.args.out.now) start (length p.now) whole starts long,
                    omega (arith, k.in_bounds, c.requires.room),
                  ),
                ),
              ),
            ),
          ),
        ),
      ),
    )
