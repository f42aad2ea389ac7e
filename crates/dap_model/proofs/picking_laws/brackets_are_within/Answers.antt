use Rattle.dap_model.proofs.Spaced.{brackets_are_within}
use Rattle.dap_model.proofs.picking_laws.brackets_are_within.Goals as goal
use Rattle.dap_model.specs.Picking.{BracketsAreWithin}

law : BracketsAreWithin
law = brackets_are_within

pub returns : goal.returns
returns c = record { law = law }
