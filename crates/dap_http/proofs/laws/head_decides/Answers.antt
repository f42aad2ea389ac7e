use Rattle.dap_http.proofs.Deliveries.{head-breaks, head-nothing, head-only}
use Rattle.dap_http.proofs.laws.head_decides.Goals as goal

pub returns-clause-breaks : goal.returns-clause-breaks
returns-clause-breaks c = head-breaks

pub returns-clause-only : goal.returns-clause-only
returns-clause-only c = head-only

pub returns-clause-nothing : goal.returns-clause-nothing
returns-clause-nothing c = head-nothing
