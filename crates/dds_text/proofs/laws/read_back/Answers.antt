use Rattle.dds_text.proofs.ReadBack as printed
use Rattle.dds_text.proofs.laws.read_back.Goals as goal

pub returns : goal.returns
returns c = record { law = printed.read_back }
