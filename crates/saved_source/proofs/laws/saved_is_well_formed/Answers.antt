use Rattle.saved_source.proofs.Served.{saved_is_well_formed}
use Rattle.saved_source.proofs.laws.saved_is_well_formed.Goals as goal

pub returns : goal.returns
returns c = record { law = saved_is_well_formed }
