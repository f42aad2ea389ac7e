use Rattle.sequence_select.specs.Laws.{OperatorsRelate}
use Rattle.sequence_select.proofs.Orders.{operators-relate}
use Rattle.sequence_select.proofs.laws.operators_relate.Goals as goal

law : OperatorsRelate
law = operators-relate

pub returns : goal.returns
returns c = record { law = law }
