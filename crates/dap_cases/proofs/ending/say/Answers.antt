use Rattle.std.proofs.Common.{◌∙◌}
use Rattle.dap_cases.proofs.Stopping.{bytes-said}
use Rattle.dap_cases.proofs.ending.say.Goals as goal

pub returns : goal.returns
returns g c = bytes-said c.put_all.result _ _ _ _ _ _ (c.as_bytes.ensures.value ∙ c.line.ensures) c.put_all.ensures.ok c.put_all.ensures.err c.put_all.ensures.cause
