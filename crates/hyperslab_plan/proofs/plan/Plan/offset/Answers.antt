use Rattle.std.proofs.Common.{◌+◌, ℕ, ◌∙◌, ap, sym, Some, add-zero, drop}
use Rattle.std.proofs.lemmas.List.{drop_all}
use Rattle.hyperslab_plan.specs.Axes.{row_at}
use Rattle.hyperslab_plan.proofs.NewLemmas.{get-places}
use Rattle.hyperslab_plan.specs.declared.shape.Axis.{Axis}
use Rattle.std.proofs.Common.{List}
use Rattle.hyperslab_plan.proofs.plan.Plan.offset.Goals as goal

pub returns-clause-place : goal.returns-clause-place
returns-clause-place c =
    sym (add-zero c.loop-axis.at)
    ∙ sym (ap (λ (xs : List Axis). c.loop-axis.at + row_at xs c.loop-axis.row) (drop_all c.loop-axis.axis-index c.deref-axis-items.result.now c.loop-axis-test.false))
    ∙ ap (λ (xs : List Axis). c.loop-axis.at + row_at (drop c.loop-axis.axis-index xs) c.loop-axis.row) c.deref-axis-items.ensures.value
    ∙ c.loop-axis.invariant

pub returns-clause-item : goal.returns-clause-item
returns-clause-item c = get-places c.args.self.now c.args.position c.requires ∙ ap (λ (x : ℕ). Some x) (sym (returns-clause-place c))
