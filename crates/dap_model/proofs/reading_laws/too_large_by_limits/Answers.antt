use Rattle.dap_model.proofs.Limits.{not_too_large, within_limits}
use Rattle.dap_model.proofs.reading_laws.too_large_by_limits.Goals as goal
use Rattle.dap_model.specs.Reading.{TooLargeByLimits}

law : TooLargeByLimits
law d = (within_limits d, not_too_large d)

pub returns : goal.returns
returns c = record { law = law }
