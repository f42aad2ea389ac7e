use Rattle.std.proofs.Common.{refl}
use Rattle.text_tokens.specs.Tokens.{quoted}
use Rattle.text_tokens.proofs.Lexing.{quoted_token, quoted_part, stops_open}
use Rattle.text_tokens.proofs.tokens.quoted_at.Goals as goal

pub returns-then-not-is_quote-clause-token : goal.returns-then-not-is_quote-clause-token
returns-then-not-is_quote-clause-token c =
    quoted_part c.args.signs.now c.args.text.now c.args.place c.pieces_end-end.result c.requires.0 c.requires.1 c.pieces_end-end.ensures.pieces
    (stops_open _ _ c.pieces_end-end.ensures.stops c.if-not-is_quote.ensures)

pub returns-clause-token : goal.returns-clause-token
returns-clause-token c =
    let p = c.pieces_end-end.ensures.pieces in
    (refl, quoted p.0, (p.0, refl), quoted_token c.args.signs.now c.args.text.now c.args.place c.pieces_end-end.result c.requires.0 c.requires.1 p c.if-not-is_quote.ensures.0 c.if-not-is_quote.ensures.1)
