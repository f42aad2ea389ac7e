use Rattle.std.proofs.Common.{arith, ◌∙◌}
use Rattle.sequence_select.specs.Tests.{tested}
use Rattle.sequence_select.proofs.RowFacts.{whole-mask}
use Rattle.sequence_select.proofs.workers.mask.Goals as goal

pub returns-then-rows-gt0 : goal.returns-then-rows-gt0
returns-then-rows-gt0 g c = record {
  kept = whole-mask c.args.table.now (tested c.args.tests.now) c.mask_parts.new.out (c.mask_parts.auto.out ∙ c.requires.room) (λ k lt. c.mask_parts.ensures k (omega (arith, lt, c.mask_parts.auto.out)));
}
