use Rattle.dap_model.proofs.Lengths.{length-array_fields}
use Rattle.dap_model.proofs.laws.numbers_have_length.Goals as goal
use Rattle.dap_model.specs.Laws.{NumbersHaveLength}

law : NumbersHaveLength
law = length-array_fields

pub returns : goal.returns
returns c = record { law = law }
