use Rattle.hyperslab_plan.proofs.LawLemmas.{turns_are_whole}
use Rattle.hyperslab_plan.proofs.laws.turns_are_whole.Goals as goal

pub returns : goal.returns
returns c = record { law = turns_are_whole }
