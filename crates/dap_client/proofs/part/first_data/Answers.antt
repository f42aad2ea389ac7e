use Rattle.std.proofs.Common.{refl}
use Rattle.dap_client.proofs.part.first_data.Goals as goal

pub returns : goal.returns
returns c = (refl, c.new.ensures.stands, c.new.ensures.still_open)
