use Rattle.join_source.proofs.Alone.{one_is_itself}
use Rattle.join_source.proofs.laws.one_is_itself.Goals as goal
use Rattle.join_source.specs.Alone.{OneIsItself}

law : OneIsItself
law = one_is_itself

pub returns : goal.returns
returns c = record { law = law }
