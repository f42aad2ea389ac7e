use Rattle.both_ends.proofs.Standing as ends
use Rattle.both_ends.proofs.all_are_good.Goals as goal

pub returns : goal.returns
returns c = record { law = ends.all_are_good }
