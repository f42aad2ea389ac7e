use Rattle.dap_model.proofs.OneSpelling.{one_spelling}
use Rattle.dap_model.proofs.laws.one_spelling.Goals as goal
use Rattle.dap_model.specs.Laws.{OneSpelling}

law : OneSpelling
law = one_spelling

pub returns : goal.returns
returns c = record { law = law }
