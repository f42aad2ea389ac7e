use Rattle.dap_http.proofs.Carrying.{is-final}
use Rattle.dap_http.proofs.laws.head_is_final.Goals as goal

pub returns : goal.returns
returns c = is-final
