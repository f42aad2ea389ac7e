use Rattle.dap_client.proofs.OneReply.{one_reply}
use Rattle.dap_client.proofs.laws.one_reply_verdict.Goals as goal

pub returns : goal.returns
returns c = one_reply
