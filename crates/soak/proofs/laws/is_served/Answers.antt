use Rattle.soak.proofs.Serving.{is_served}
use Rattle.soak.proofs.laws.is_served.Goals as goal

pub returns : goal.returns
returns c = record { law = is_served }
