use Rattle.dap_types.proofs.Rules.{well_formed_without_fault, no_fault_where_well_formed}
use Rattle.dap_model.proofs.laws.well_formed_without_fault.Goals as goal
use Rattle.dap_model.specs.Laws.{WellFormedWithoutFault}

law : WellFormedWithoutFault
law d = (no_fault_where_well_formed d, well_formed_without_fault d)

pub returns : goal.returns
returns c = record { law = law }
