use Rattle.saved_source.proofs.Served.{saved_has_words}
use Rattle.saved_source.proofs.laws.saved_has_words.Goals as goal

pub returns : goal.returns
returns c = record { law = saved_has_words }
