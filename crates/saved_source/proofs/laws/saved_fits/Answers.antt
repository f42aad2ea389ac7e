use Rattle.saved_source.proofs.Served.{saved_fits}
use Rattle.saved_source.proofs.laws.saved_fits.Goals as goal

pub returns : goal.returns
returns c = record { law = saved_fits }
