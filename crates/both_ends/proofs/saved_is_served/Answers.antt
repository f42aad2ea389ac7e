use Rattle.both_ends.proofs.Again as again
use Rattle.both_ends.proofs.saved_is_served.Goals as goal

pub returns : goal.returns
returns c = record { law = again.saved_is_served }
