use Rattle.xdr_values.proofs.Values.{text_there}
use Rattle.saved_source.proofs.clauses.text_of.Goals as goal

pub returns : goal.returns
returns c = λ text lt is. text_there text c.args.own.now c.split.result.1.now c.split-2.result.0.now c.first_word-size.result lt is c.first_word-size.ensures c.split.ensures.rest c.split-2.ensures.own
