use Rattle.dap_client.proofs.EveryObject.{every_object}
use Rattle.dap_client.proofs.laws.each_text_is_judged.Goals as goal

pub returns : goal.returns
returns c = every_object
