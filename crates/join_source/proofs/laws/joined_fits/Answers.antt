use Rattle.join_source.proofs.FitsTogether.{joined_fits}
use Rattle.join_source.proofs.laws.joined_fits.Goals as goal

pub returns : goal.returns
returns c = record { law = joined_fits }
