use Rattle.soak.proofs.Reading.{bytes_are}
use Rattle.soak.proofs.laws.bytes_are_counted.Goals as goal

pub returns : goal.returns
returns c = record { all = bytes_are }
