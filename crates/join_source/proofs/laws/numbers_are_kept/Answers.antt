use Rattle.join_source.proofs.Marked.{leaf-with}
use Rattle.join_source.proofs.laws.numbers_are_kept.Goals as goal
use Rattle.join_source.specs.Members.{NumbersAreKept}

law : NumbersAreKept
law = λ c records leaf few small. leaf-with c records leaf few small

pub returns : goal.returns
returns c = record { law = law }
