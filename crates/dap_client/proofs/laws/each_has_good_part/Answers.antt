use Rattle.dap_client.proofs.EachBody.{each_has_good_part}
use Rattle.dap_client.proofs.laws.each_has_good_part.Goals as goal

pub returns : goal.returns
returns c = each_has_good_part
