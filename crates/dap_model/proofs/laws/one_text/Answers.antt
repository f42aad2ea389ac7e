use Rattle.dap_model.proofs.PrintedDataset.{one_text}
use Rattle.dap_model.proofs.laws.one_text.Goals as goal
use Rattle.dap_model.specs.Laws.{OneText}

law : OneText
law = one_text

pub returns : goal.returns
returns c = record { law = law }
