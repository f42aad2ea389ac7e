use Rattle.dap_model.proofs.OneBody.{one_head}
use Rattle.dap_model.proofs.reading_laws.one_head.Goals as goal
use Rattle.dap_model.specs.Reading.{OneHead}

law : OneHead
law = one_head

pub returns : goal.returns
returns c = record { law = law }
