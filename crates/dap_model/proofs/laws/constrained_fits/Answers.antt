use Rattle.dap_model.proofs.Filtering.{filtered_all_fit}
use Rattle.dap_model.proofs.laws.constrained_fits.Goals as goal
use Rattle.dap_model.specs.Laws.{ConstrainedFits}

law : ConstrainedFits
law marks keeps d ts suit fit = filtered_all_fit marks keeps d.members 1 ts suit fit

pub returns : goal.returns
returns c = record { law = law }
