use Rattle.soak.proofs.Reading.{is_read}
use Rattle.soak.proofs.laws.is_read.Goals as goal

pub returns : goal.returns
returns c = record { law = is_read }
