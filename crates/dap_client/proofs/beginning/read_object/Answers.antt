use Rattle.dap_client.proofs.beginning.read_object.Goals as goal

pub returns-in-Ok-Bad : goal.returns-in-Ok-Bad
returns-in-Ok-Bad c bytes is error o = (error, rw c.in-Ok-Bad.field-0-is at (c.in-Ok-Bad.ensures.object bytes is o))
