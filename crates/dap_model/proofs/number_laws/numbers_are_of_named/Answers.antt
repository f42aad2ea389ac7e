use Rattle.dap_model.proofs.Named.{numbers_are_of_named}
use Rattle.dap_model.proofs.number_laws.numbers_are_of_named.Goals as goal
use Rattle.dap_model.specs.Numbering.{NumbersAreOfNamed}

law : NumbersAreOfNamed
law = numbers_are_of_named

pub returns : goal.returns
returns c = record { law = law }
