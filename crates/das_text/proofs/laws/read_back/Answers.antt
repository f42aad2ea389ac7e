use Rattle.das_text.proofs.ReadBack as printed
use Rattle.das_text.proofs.laws.read_back.Goals as goal

pub returns : goal.returns
returns c = record { law = printed.read_back }
