use Rattle.std.proofs.Common.{inr, refl}
use Rattle.dap_client.proofs.text_body.end_dds.Goals as goal

pub returns-in-Ok : goal.returns-in-Ok
returns-in-Ok c bytes long none o = (refl, inr (none, c.in-Ok.ensures.good bytes long o))

pub returns-in-Err : goal.returns-in-Err
returns-in-Err c bytes long none o = inr (none, c.in-Err.ensures.bad bytes long o)
