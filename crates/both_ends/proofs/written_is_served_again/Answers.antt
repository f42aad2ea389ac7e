use Rattle.both_ends.proofs.Again as again
use Rattle.both_ends.proofs.written_is_served_again.Goals as goal

pub returns : goal.returns
returns c = record { law = again.written_is_served_again }
