use Rattle.dap_http.proofs.Listed.{one-list}
use Rattle.dap_http.proofs.laws.one_list.Goals as goal

pub returns : goal.returns
returns c = λ k input left behind heads others first second. one-list heads others k input left behind first second
