use Rattle.std.proofs.Common.{◌∙◌, sym}
use Rattle.error_word.proofs.FirstWords.{plain_byte}
use Rattle.dap_client.proofs.Openings.{word_on, word_sign, word_white}
use Rattle.dap_client.proofs.opening.Opening.later.Goals as goal

pub returns-then-is_white : goal.returns-then-is_white
returns-then-is_white c bytes o = word_white bytes c.args.byte o (sym c.is_white.ensures ∙ c.if-is_white.true)

pub returns-then-is_sign : goal.returns-then-is_sign
returns-then-is_sign c bytes o = word_sign bytes c.args.byte o (sym c.is_white.ensures ∙ c.if-is_white.false) (sym c.is_sign.ensures ∙ c.if-is_sign.true)

pub returns : goal.returns
returns c bytes o = word_on bytes c.args.byte o (plain_byte c.args.byte (sym c.is_white.ensures ∙ c.if-is_white.false) (sym c.is_sign.ensures ∙ c.if-is_sign.false))
