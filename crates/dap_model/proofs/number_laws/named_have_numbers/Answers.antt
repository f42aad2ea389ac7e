use Rattle.dap_model.proofs.Named.{named_have_numbers}
use Rattle.dap_model.proofs.number_laws.named_have_numbers.Goals as goal
use Rattle.dap_model.specs.Numbering.{NamedHaveNumbers}

law : NamedHaveNumbers
law = named_have_numbers

pub returns : goal.returns
returns c = record { law = law }
