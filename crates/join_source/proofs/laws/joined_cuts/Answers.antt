use Rattle.join_source.proofs.PickParts.{joined_cuts}
use Rattle.join_source.proofs.laws.joined_cuts.Goals as goal
use Rattle.join_source.specs.Cutting.{JoinedCuts}

law : JoinedCuts
law = joined_cuts

pub returns : goal.returns
returns c = record { law = law }
