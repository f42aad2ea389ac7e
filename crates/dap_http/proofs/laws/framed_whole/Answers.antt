use Rattle.dap_http.proofs.FramedWhole.{framed-whole}
use Rattle.dap_http.proofs.laws.framed_whole.Goals as goal

pub returns : goal.returns
returns c = framed-whole
