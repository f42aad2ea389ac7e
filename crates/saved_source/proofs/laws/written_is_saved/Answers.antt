use Rattle.saved_source.proofs.Served.{written_is_saved}
use Rattle.saved_source.proofs.laws.written_is_saved.Goals as goal

pub returns : goal.returns
returns c = record { law = written_is_saved }
