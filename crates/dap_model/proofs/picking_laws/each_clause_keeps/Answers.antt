use Rattle.dap_model.proofs.Clauses.{each_clause_keeps}
use Rattle.dap_model.proofs.picking_laws.each_clause_keeps.Goals as goal
use Rattle.dap_model.specs.Picking.{EachClauseKeeps}

law : EachClauseKeeps
law = each_clause_keeps

pub returns : goal.returns
returns c = record { law = law }
