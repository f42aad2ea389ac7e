use Rattle.sequence_select.specs.Laws.{NoClauseIsLost}
use Rattle.sequence_select.proofs.NoneLost.{none-lost}
use Rattle.sequence_select.proofs.laws.no_clause_is_lost.Goals as goal

law : NoClauseIsLost
law = none-lost

pub returns : goal.returns
returns c = record { law = law }
