use Rattle.join_source.proofs.Sending.{leaves_are_sent}
use Rattle.join_source.proofs.laws.leaves_are_sent.Goals as goal
use Rattle.join_source.specs.Sent.{LeavesAreSent}

law : LeavesAreSent
law = leaves_are_sent

pub returns : goal.returns
returns c = record { law = law }
