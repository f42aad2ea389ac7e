use Rattle.std.proofs.Common.{◌∙◌, arith}
use Rattle.slab_fill.proofs.WholeLemmas.{whole}
use Rattle.slab_fill.proofs.workers.fill.Goals as goal

pub returns : goal.returns
returns g c = record {
  elements = whole c.args.plan.now c.args.batch.now c.args.raw.now c.fill_parts.new.out c.requires.number (c.fill_parts.auto.out ∙ c.requires.room) (λ i lt. c.fill_parts.ensures i (omega (arith, lt, c.fill_parts.auto.out)));
}
