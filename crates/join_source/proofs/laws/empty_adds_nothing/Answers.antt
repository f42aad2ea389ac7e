use Rattle.join_source.proofs.EmptyFiles.{empty_adds_nothing}
use Rattle.join_source.proofs.laws.empty_adds_nothing.Goals as goal
use Rattle.join_source.specs.Members.{EmptyAddsNothing}

law : EmptyAddsNothing
law = empty_adds_nothing

pub returns : goal.returns
returns c = record { law = law }
