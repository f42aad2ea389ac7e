use Rattle.dap_model.proofs.Staying.{stays_well_formed}
use Rattle.dap_model.proofs.laws.constrained_is_well_formed.Goals as goal
use Rattle.dap_model.specs.Laws.{ConstrainedIsWellFormed}

law : ConstrainedIsWellFormed
law = stays_well_formed

pub returns : goal.returns
returns c = record { law = law }
