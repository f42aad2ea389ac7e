use Rattle.soak.proofs.Headers.{header_is}
use Rattle.soak.proofs.laws.header_is_read.Goals as goal

pub returns : goal.returns
returns c = record { law = header_is }
