use Rattle.dap_model.proofs.Numbering.{paths_have_numbers}
use Rattle.dap_model.proofs.number_laws.paths_have_numbers.Goals as goal
use Rattle.dap_model.specs.Numbering.{PathsHaveNumbers}

law : PathsHaveNumbers
law = paths_have_numbers

pub returns : goal.returns
returns c = record { law = law }
