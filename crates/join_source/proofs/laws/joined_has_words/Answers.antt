use Rattle.join_source.proofs.Named.{joined_has_words}
use Rattle.join_source.proofs.laws.joined_has_words.Goals as goal

pub returns : goal.returns
returns c = record { law = joined_has_words }
