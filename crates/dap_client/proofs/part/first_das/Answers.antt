use Rattle.std.proofs.Common.{refl}
use Rattle.dap_client.specs.Verdict.{das_form}
use Rattle.dap_client.proofs.part.first_das.Goals as goal

pub returns : goal.returns
returns c = (tt, c.new-3.ensures das_form (refl, c.new.ensures, c.new-2.ensures.body), refl)
