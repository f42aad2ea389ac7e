use Rattle.std.proofs.Common.{◌≡◌, ℕ, ◌<◌, ◌^◌, List, [], ◌∷◌, ◌++◌, sym, ap, ◌∙◌, subst, All, arith, rules}
use Rattle.hyperslab_plan.specs.Picked.{picked}
use Rattle.hyperslab_plan.proofs.PickedLemmas.{picked-below}
use Rattle.plan_tests.proofs.tests.filling.plan.Goals as goal

pub new-requires-clause-below : goal.new-requires-clause-below
new-requires-clause-below c =
    let steps_are : c.push-2.new.self ≡ c.args.steps.0 ∷ c.args.steps.1 ∷ []
    = c.in_ok-push-2.ensures.ok ∙ ap (λ (xs : List ℕ). xs ++ c.args.steps.1 ∷ []) (c.in_ok-push.ensures.ok ∙ ap (λ (xs : List ℕ). xs ++ c.args.steps.0 ∷ []) c.new-list.ensures) in
    subst (λ (steps : List ℕ). All (λ a. a < 2 ^ 63) (picked c.args.slabs.now steps 0)) (sym steps_are)
    (picked-below c.args.slabs.now (c.args.steps.0 ∷ c.args.steps.1 ∷ []) 0 (2 ^ 63) (search rules) (omega (arith, c.requires.below)))
