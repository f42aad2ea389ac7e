use Rattle.dap_errors.proofs.ReadBack as printed
use Rattle.dap_errors.proofs.laws.read_back.Goals as goal

pub returns : goal.returns
returns c = printed.read_back
