use Rattle.std.proofs.Common.{arith}
use Rattle.text_tokens.proofs.Lexing.{nothing_part}
use Rattle.text_tokens.proofs.tokens.token_at.Goals as goal

pub returns-then-place-text-clause-token : goal.returns-then-place-text-clause-token
returns-then-place-text-clause-token c = nothing_part c.args.signs.now c.args.text.now c.args.place (omega arith)
