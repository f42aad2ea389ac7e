use Rattle.hyperslab_plan.proofs.LawLemmas.{cuts_are_placed, plans_cut}
use Rattle.hyperslab_plan.proofs.laws.plans_cut.Goals as goal

pub returns : goal.returns
returns c = record { places = cuts_are_placed; positions = plans_cut }
