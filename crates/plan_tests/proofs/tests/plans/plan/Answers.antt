use Rattle.std.proofs.Common.{ℕ, ◌<◌, ◌^◌, List, sym, subst, All}
use Rattle.std.proofs.lemmas.Bool.{ltb-true}
use Rattle.std.proofs.lemmas.List.Sums.{AllPass-from_list_all}
use Rattle.hyperslab_plan.specs.Picked.{picked}
use Rattle.hyperslab_plan.proofs.PickedLemmas.{picked-below}
use Rattle.plan_tests.proofs.tests.plans.plan.Goals as goal

pub new-requires-clause-strided : goal.new-requires-clause-strided
new-requires-clause-strided c = λ k d lt. ltb-true 0 _ (AllPass-from_list_all _ c.args.slabs.now c.requires.strided k d lt)

pub new-requires-clause-below : goal.new-requires-clause-below
new-requires-clause-below c =
    subst (λ (steps : List ℕ). All (λ a. a < 2 ^ 63) (picked c.args.slabs.now steps c.args.at)) (sym c.in_ok-list_of.ensures)
    (picked-below c.args.slabs.now c.args.steps.now c.args.at (2 ^ 63) c.requires.one_each c.requires.below)
