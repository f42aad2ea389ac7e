use Rattle.both_ends.proofs.Resulting as ends
use Rattle.both_ends.proofs.result_is_too_long.Goals as goal

pub returns : goal.returns
returns c = record { law = ends.result_is_too_long }
