use Rattle.both_ends.proofs.Standing as ends
use Rattle.both_ends.proofs.served_is_good.Goals as goal

pub returns : goal.returns
returns c = record { law = ends.served_is_good }
