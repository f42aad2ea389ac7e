use Rattle.join_source.proofs.Halves.{halves_are_the_whole}
use Rattle.join_source.proofs.laws.halves_are_the_whole.Goals as goal

pub returns : goal.returns
returns c = record { law = halves_are_the_whole }
