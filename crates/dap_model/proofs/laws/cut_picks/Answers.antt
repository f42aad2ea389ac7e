use Rattle.dap_model.proofs.Cuts.{values_in-cut}
use Rattle.dap_model.proofs.laws.cut_picks.Goals as goal
use Rattle.dap_model.specs.Laws.{CutPicks}

law : CutPicks
law = values_in-cut

pub returns : goal.returns
returns c = record { law = law }
