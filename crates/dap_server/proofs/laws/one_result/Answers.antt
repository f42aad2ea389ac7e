use Rattle.dap_server.proofs.OneAnswer as one
use Rattle.dap_server.proofs.laws.one_result.Goals as goal

pub returns : goal.returns
returns c = record { law = one.one_result }
