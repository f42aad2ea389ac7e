use Rattle.std.proofs.Common.{◌≡◌, ◌+◌, ◌*◌, ◌<◌, ◌≤◌, arith, sym, ap, ◌∙◌, subst}
use Rattle.hyperslab_plan.specs.Batches.{run_of, ElementBeginsAt, ElementEndsAt}
use Rattle.hyperslab_plan.specs.Plans.{place_of}
use Rattle.hyperslab_plan.proofs.MadeLemmas.{run-made, run-into, chosen_one, chosen_other}
use Rattle.hyperslab_plan.proofs.RunLemmas.{run-in_raw, fills, begins, ends, run-first, run-short}
use Rattle.hyperslab_plan.proofs.plan.Plan.run.Goals.{then-batch-eq1, else-batch-eq1}
use Rattle.hyperslab_plan.proofs.plan.Plan.run.Goals as goal

pub offset-at-requires : goal.offset-at-requires
offset-at-requires c =
    subst (λ x. c.args.batch.now.first + x * c.args.self.now.shape.per_row < c.args.self.now.total) (sym c.from.ensures)
    (run-first c.args.self.now c.args.batch.now c.args.k c.requires.batch c.requires.run)

pub overflow_cast-into : goal.overflow_cast-into
overflow_cast-into c =
    let is : c.from-2.result * c.args.self.now.row_len ≡ (run_of c.args.self.now c.args.batch.now c.args.k).into = ap (λ x. x * c.args.self.now.row_len) c.from-2.ensures ∙ sym (run-into c.args.self.now c.args.batch.now c.args.k) in
    omega (arith, is, run-short c.args.self.now c.args.batch.now c.args.k c.requires.batch c.requires.run)

pub returns-clause-is_run : goal.returns-clause-is_run
returns-clause-is_run c =
    run-made c.args.self.now c.args.batch.now c.args.k c.offset-at.result c.if-batch-eq1.len (c.from-2.result * c.args.self.now.row_len)
    (c.offset-at.ensures.place ∙ ap (λ x. place_of c.args.self.now (c.args.batch.now.first + x * c.args.self.now.shape.per_row)) c.from.ensures)
    (elim c.if-batch-eq1.branch [
      | then-batch-eq1 w ↦ w.len-is ∙ sym (chosen_one c.args.batch.now.runs c.args.batch.now.raw_len c.args.self.now.row_len w.if-batch-eq1.true)
      | else-batch-eq1 w ↦ w.len-is ∙ sym (chosen_other c.args.batch.now.runs c.args.batch.now.raw_len c.args.self.now.row_len w.if-batch-eq1.false)
    ])
    (ap (λ x. x * c.args.self.now.row_len) c.from-2.ensures)

pub returns-clause-fills : goal.returns-clause-fills
returns-clause-fills c = fills c.args.self.now c.args.batch.now c.requires.batch

pub returns-clause-begins : goal.returns-clause-begins
returns-clause-begins c = subst (ElementBeginsAt c.args.self.now c.args.batch.now) (ap (λ r. r.at) (sym (returns-clause-is_run c))) (begins c.args.self.now c.args.batch.now c.args.k c.requires.batch c.requires.run)

pub returns-clause-ends : goal.returns-clause-ends
returns-clause-ends c = subst (λ r. ElementEndsAt c.args.self.now c.args.batch.now (r.at + r.len)) (sym (returns-clause-is_run c)) (ends c.args.self.now c.args.batch.now c.args.k c.requires.batch c.requires.run)

pub returns-clause-inside : goal.returns-clause-inside
returns-clause-inside c = subst (λ r. r.into + r.len ≤ c.args.batch.now.raw_len) (sym (returns-clause-is_run c)) (run-in_raw c.args.self.now c.args.batch.now c.args.k c.requires.batch c.requires.run)
