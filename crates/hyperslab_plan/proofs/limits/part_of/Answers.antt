use Rattle.std.proofs.Common.{◌<◌, arith, inl, inr}
use Rattle.hyperslab_plan.proofs.FullLemmas.{part_most}
use Rattle.hyperslab_plan.proofs.limits.part_of.Goals.{then-jump-eq0, else-jump-eq0}
use Rattle.hyperslab_plan.proofs.limits.part_of.Goals as goal

pub returns-clause-most : goal.returns-clause-most
returns-clause-most c n raw xdr =
    part_most c.min.result c.if-jump-eq0.by_raw c.args.jump c.args.size c.args.width n c.min.ensures c.requires.wide
    (elim c.if-jump-eq0.branch [
      | then-jump-eq0 w ↦ inl (w.if-jump-eq0.true, w.by_raw-is)
      | else-jump-eq0 w ↦ let some : 0 < c.args.jump = grind (arith, w.if-jump-eq0.false) in inr (some, w.by_raw-is)
    ]) raw xdr
