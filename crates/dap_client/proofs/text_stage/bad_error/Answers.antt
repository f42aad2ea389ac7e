use Rattle.dap_client.proofs.TextBodies.{object_wrong}
use Rattle.dap_client.proofs.text_stage.bad_error.Goals as goal

pub returns : goal.returns
returns c form bytes error o = object_wrong form bytes c.args.place error o
