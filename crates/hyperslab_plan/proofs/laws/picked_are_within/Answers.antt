use Rattle.hyperslab_plan.proofs.LawLemmas.{picked_are_within, picked_are_below, last_is_highest, plans_are_within}
use Rattle.hyperslab_plan.proofs.laws.picked_are_within.Goals as goal

pub returns : goal.returns
returns c = record { picked = picked_are_within; below = picked_are_below; last = last_is_highest; positions = plans_are_within }
