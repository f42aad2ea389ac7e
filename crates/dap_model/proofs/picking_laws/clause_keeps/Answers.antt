use Rattle.dap_model.proofs.Clauses.{clause_keeps}
use Rattle.dap_model.proofs.picking_laws.clause_keeps.Goals as goal
use Rattle.dap_model.specs.Picking.{ClauseKeeps}

law : ClauseKeeps
law = clause_keeps

pub returns : goal.returns
returns c = record { law = law }
