use Rattle.dap_model.proofs.Filtering.{length-values_in-cut}
use Rattle.dap_model.proofs.laws.cut_has_counts.Goals as goal
use Rattle.dap_model.specs.Laws.{CutHasCounts}

law : CutHasCounts
law = length-values_in-cut

pub returns : goal.returns
returns c = record { law = law }
