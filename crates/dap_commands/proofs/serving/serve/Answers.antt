use Rattle.std.proofs.Common.{[], refl}
use Rattle.dap_commands.proofs.Visiting.{none-came}
use Rattle.dap_commands.proofs.serving.serve.Goals as goal

pub returns-in-Err-clause-served : goal.returns-in-Err-clause-served
returns-in-Err-clause-served g c = ([], none-came _ _ _ _ _ _ _ _ c.requires.asked c.in-Err.ensures.back, λ some. absurd (some refl))
