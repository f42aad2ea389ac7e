use Rattle.dap_model.proofs.PrintedDataset.{reads_body}
use Rattle.dap_model.proofs.laws.body_is_read.Goals as goal
use Rattle.dap_model.specs.Laws.{BodyIsRead}

law : BodyIsRead
law = reads_body

pub returns : goal.returns
returns c = record { law = law }
