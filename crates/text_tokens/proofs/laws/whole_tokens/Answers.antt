use Rattle.text_tokens.proofs.Whole.{some_list, one_list}
use Rattle.text_tokens.proofs.laws.whole_tokens.Goals as goal

pub returns : goal.returns
returns c = record { some = some_list; one = one_list }
