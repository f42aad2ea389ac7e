use Rattle.std.proofs.Common.{◌∙◌, sym}
use Rattle.error_word.proofs.FirstWords.{plain_byte}
use Rattle.dap_client.proofs.Openings.{sign_whole, white_on, word_begins}
use Rattle.dap_client.proofs.opening.Opening.first.Goals as goal

pub returns-then-is_white : goal.returns-then-is_white
returns-then-is_white c bytes o = white_on bytes c.args.byte o (sym c.is_white.ensures ∙ c.if-is_white.true)

pub returns-then-is_sign : goal.returns-then-is_sign
returns-then-is_sign c bytes o = sign_whole bytes c.args.byte o (sym c.is_white.ensures ∙ c.if-is_white.false) (sym c.is_sign.ensures ∙ c.if-is_sign.true)

pub returns : goal.returns
returns c bytes o = word_begins bytes c.args.byte o (plain_byte c.args.byte (sym c.is_white.ensures ∙ c.if-is_white.false) (sym c.is_sign.ensures ∙ c.if-is_sign.false))
