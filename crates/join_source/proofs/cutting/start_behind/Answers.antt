use Rattle.std.proofs.Common.{◌≡◌, ◌+◌, ◌*◌, ◌<◌, ap, ◌∙◌, arith}
use Rattle.hyperslab_plan.proofs.PickedLemmas.{index-within}
use Rattle.join_source.proofs.cutting.start_behind.Goals as goal

pub overflow_cast-result : goal.overflow_cast-result
overflow_cast-result c =
    let size = c.requires.within.0 in
    let some : c.args.count < c.args.slab.now.count = omega (arith, c.requires.few, c.if-slab-count.false) in
    let below : c.args.slab.now.start + c.args.count * c.args.slab.now.stride < c.requires.within.0 = index-within c.args.slab.now c.requires.within.0 c.args.count c.requires.within.1 some in
    let product : c.from-2.result * c.from-3.result ≡ c.args.count * c.args.slab.now.stride = ap (λ x. x * c.from-3.result) c.from-2.ensures ∙ ap (λ x. c.args.count * x) c.from-3.ensures in
    omega (arith, below, product, c.requires.within.2, c.saturating_sub.ensures, c.from.ensures, c.from-4.ensures)
