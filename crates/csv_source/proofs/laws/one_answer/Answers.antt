use Rattle.csv_source.proofs.OneAnswers.{one-answer}
use Rattle.csv_source.proofs.laws.one_answer.Goals as goal

pub returns : goal.returns
returns c = record { law = one-answer }
