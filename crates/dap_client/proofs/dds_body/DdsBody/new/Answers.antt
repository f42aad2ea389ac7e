use Rattle.dap_client.proofs.DdsBodies.{no_bytes}
use Rattle.dap_client.proofs.dds_body.DdsBody.new.Goals as goal

pub returns : goal.returns
returns c = ((c.new.ensures.stands, c.new.ensures.start), no_bytes)
