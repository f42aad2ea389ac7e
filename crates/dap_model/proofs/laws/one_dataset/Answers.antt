use Rattle.dap_model.proofs.OneDataset.{one_dataset}
use Rattle.dap_model.proofs.laws.one_dataset.Goals as goal
use Rattle.dap_model.specs.Laws.{OneDataset}

law : OneDataset
law = one_dataset

pub returns : goal.returns
returns c = record { law = law }
