use Rattle.constraint_parse.proofs.Answer as answer
use Rattle.constraint_parse.proofs.laws.spelled_or_at_fault.Goals as goal

pub returns : goal.returns
returns c = answer.spelled_or_at_fault
