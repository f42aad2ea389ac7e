use Rattle.dap_model.proofs.Spaced.{brackets_pick}
use Rattle.dap_model.proofs.picking_laws.brackets_pick.Goals as goal
use Rattle.dap_model.specs.Picking.{BracketsPick}

law : BracketsPick
law = brackets_pick

pub returns : goal.returns
returns c = record { law = law }
