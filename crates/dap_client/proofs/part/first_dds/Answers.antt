use Rattle.std.proofs.Common.{refl}
use Rattle.dap_client.specs.Verdict.{dds_form}
use Rattle.dap_client.proofs.part.first_dds.Goals as goal

pub returns : goal.returns
returns c = (tt, c.new-2.ensures dds_form (refl, c.new.ensures), refl)
