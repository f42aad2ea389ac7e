use Rattle.dap_server.proofs.OneLine.{one_line_is_itself}
use Rattle.dap_server.proofs.laws.one_line_is_itself.Goals as goal

pub returns : goal.returns
returns c = record { law = one_line_is_itself }
