use Rattle.dap_model.proofs.Unbroken.{well_formed_unbroken, unbroken_well_formed}
use Rattle.dap_model.proofs.laws.unbroken_is_well_formed.Goals as goal
use Rattle.dap_model.specs.Laws.{UnbrokenIsWellFormed}

law : UnbrokenIsWellFormed
law ts d stands = (well_formed_unbroken ts d stands, unbroken_well_formed d)

pub returns : goal.returns
returns c = record { law = law }
