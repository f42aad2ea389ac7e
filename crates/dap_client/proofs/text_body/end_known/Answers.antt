use Rattle.std.proofs.Common.{refl}
use Rattle.dap_client.proofs.TextBodies.{das_whole}
use Rattle.dap_client.proofs.text_body.end_known.Goals as goal

pub returns-in-Ok : goal.returns-in-Ok
returns-in-Ok c bytes long none known o = (refl, das_whole bytes _ none known (c.in-Ok.ensures.good bytes long o))

pub returns-in-Err-Refused : goal.returns-in-Err-Refused
returns-in-Err-Refused c bytes long none known o = das_whole bytes _ none known (rw c.in-Err-Refused.field-0-is at (c.in-Err-Refused.ensures.bad bytes long o))
