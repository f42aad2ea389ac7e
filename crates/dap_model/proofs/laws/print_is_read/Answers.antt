use Rattle.dap_model.proofs.PrintedMembers.{dds_text, dds-text}
use Rattle.dap_model.proofs.PrintedDataset.{reads_print}
use Rattle.dap_model.proofs.laws.print_is_read.Goals as goal
use Rattle.dap_model.specs.Laws.{PrintIsRead}

law : PrintIsRead
law d words is = (dds_text d, dds-text d, reads_print d words is)

pub returns : goal.returns
returns c = record { law = law }
