use Rattle.dap_model.proofs.Partly.{nothing_without_head}
use Rattle.dap_model.proofs.reading_laws.nothing_without_head.Goals as goal
use Rattle.dap_model.specs.Partly.{NothingWithoutHead}

law : NothingWithoutHead
law = nothing_without_head

pub returns : goal.returns
returns c = record { law = law }
