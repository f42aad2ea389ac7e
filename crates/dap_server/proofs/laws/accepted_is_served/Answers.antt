use Rattle.dap_server.proofs.Accepted as accepted
use Rattle.dap_server.proofs.laws.accepted_is_served.Goals as goal

pub returns : goal.returns
returns c = record { law = accepted.accepted_is_served }
