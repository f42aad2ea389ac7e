use Rattle.sequence_select.specs.Laws.{OwnClausesDecide}
use Rattle.sequence_select.proofs.Owned.{own-clauses-decide}
use Rattle.sequence_select.proofs.laws.own_clauses_decide.Goals as goal

law : OwnClausesDecide
law = own-clauses-decide

pub returns : goal.returns
returns c = record { law = law }
