use Rattle.dap_model.proofs.OneDataset.{broken_by_front}
use Rattle.dap_model.proofs.laws.broken_by_front.Goals as goal
use Rattle.dap_model.specs.Laws.{BrokenByFront}

law : BrokenByFront
law = broken_by_front

pub returns : goal.returns
returns c = record { law = law }
