use Rattle.dap_client.proofs.Bodies.{body_good, good_is_body}
use Rattle.dap_client.proofs.laws.good_is_body.Goals as goal

pub returns : goal.returns
returns c = λ bytes d ts. (good_is_body bytes d ts, body_good bytes d ts)
