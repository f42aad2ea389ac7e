use Rattle.dap_client.proofs.OneVerdict.{one_verdict}
use Rattle.dap_client.proofs.laws.bytes_have_one_verdict.Goals as goal

pub returns : goal.returns
returns c = one_verdict
