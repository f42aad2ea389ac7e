use Rattle.dap_client.proofs.GoodParts.{stops_in_good_part}
use Rattle.dap_client.proofs.laws.stops_in_good_part.Goals as goal

pub returns : goal.returns
returns c = stops_in_good_part
