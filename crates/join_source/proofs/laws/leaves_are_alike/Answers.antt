use Rattle.join_source.proofs.Alike.{leaves_are_alike}
use Rattle.join_source.proofs.laws.leaves_are_alike.Goals as goal
use Rattle.join_source.specs.Members.{LeavesAreAlike}

law : LeavesAreAlike
law = leaves_are_alike

pub returns : goal.returns
returns c = record { law = law }
