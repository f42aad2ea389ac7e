use Rattle.std.proofs.Common.{◌+◌, ◌∙◌, ap}
use Rattle.xdr_values.proofs.Values.{string_long}
use Rattle.xdr_values.proofs.scalars.string_width.Goals as goal

pub returns : goal.returns
returns c = λ text rest lt is. ap (λ k. 4 + c.first_word-size.result + k) c.fill.ensures ∙ string_long text c.args.bytes.now rest c.first_word-size.result lt is c.first_word-size.ensures
