use Rattle.constraint_parse.proofs.Answer as answer
use Rattle.constraint_parse.proofs.laws.one_constraint.Goals as goal

pub returns : goal.returns
returns c = answer.one_constraint
