use Rattle.std.proofs.Common.{inl, inr}
use Rattle.hyperslab_plan.proofs.BoundedLemmas.{is_bounded}
use Rattle.hyperslab_plan.proofs.LargestLemmas.{is_largest}
use Rattle.hyperslab_plan.proofs.ReadLemmas.{read-raw}
use Rattle.hyperslab_plan.proofs.MadeLemmas.{whole-made, part-made}
use Rattle.hyperslab_plan.proofs.plan.Plan.batch.Goals.{else-column-eq0-via-then-column-eq0+else-self-gt0, else-column-eq0-via-else-column-eq0}
use Rattle.hyperslab_plan.proofs.plan.Plan.batch.Goals as goal

pub returns-then-self-gt0-clause-is_batch : goal.returns-then-self-gt0-clause-is_batch
returns-then-self-gt0-clause-is_batch c =
    whole-made c.args.self.now c.args.first c.min-rows.result c.requires c.if-column-eq0.true c.if-self-gt0.true c.min-rows.ensures

pub returns-then-self-gt0-clause-bounded : goal.returns-then-self-gt0-clause-bounded
returns-then-self-gt0-clause-bounded c = is_bounded c.args.self.now _ (returns-then-self-gt0-clause-is_batch c)

pub returns-else-column-eq0-clause-is_batch : goal.returns-else-column-eq0-clause-is_batch
returns-else-column-eq0-clause-is_batch c =
    part-made c.args.self.now c.args.first c.min-count.result c.requires
    (elim c.else-column-eq0.branch [
      | else-column-eq0-via-then-column-eq0+else-self-gt0 w ↦ inr w.if-self-gt0.false
      | else-column-eq0-via-else-column-eq0 w ↦ inl w.if-column-eq0.false
    ])
    c.min-count.ensures

pub returns-else-column-eq0-clause-bounded : goal.returns-else-column-eq0-clause-bounded
returns-else-column-eq0-clause-bounded c = is_bounded c.args.self.now _ (returns-else-column-eq0-clause-is_batch c)

pub returns-then-self-gt0-clause-largest : goal.returns-then-self-gt0-clause-largest
returns-then-self-gt0-clause-largest c = is_largest c.args.self.now _ (returns-then-self-gt0-clause-is_batch c)

pub returns-then-self-gt0-clause-sum : goal.returns-then-self-gt0-clause-sum
returns-then-self-gt0-clause-sum c = read-raw c.args.self.now _ (returns-then-self-gt0-clause-is_batch c)

pub returns-else-column-eq0-clause-largest : goal.returns-else-column-eq0-clause-largest
returns-else-column-eq0-clause-largest c = is_largest c.args.self.now _ (returns-else-column-eq0-clause-is_batch c)

pub returns-else-column-eq0-clause-sum : goal.returns-else-column-eq0-clause-sum
returns-else-column-eq0-clause-sum c = read-raw c.args.self.now _ (returns-else-column-eq0-clause-is_batch c)
