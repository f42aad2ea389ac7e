use Rattle.dap_model.proofs.OneBody.{one_body}
use Rattle.dap_model.proofs.reading_laws.one_body.Goals as goal
use Rattle.dap_model.specs.Reading.{OneBody}

law : OneBody
law = one_body

pub returns : goal.returns
returns c = record { law = law }
