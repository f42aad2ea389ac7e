use Rattle.std.proofs.Common.{◌+◌, ap, ◌∙◌, inl, inr}
use Rattle.viable.specs.Quoted.{unescape}
use Rattle.viable.proofs.Pieces.{pieces_slice, unescape_pieces}
use Rattle.constraint_parse.proofs.Quotes.{quoted_passes, value_quote_faults}
use Rattle.constraint_parse.proofs.quoted.quoted_text.Goals as goal

pub returns-then-not-is_at-clause-spelled : goal.returns-then-not-is_at-clause-spelled
returns-then-not-is_at-clause-spelled c = λ s k st.
    let (p, are) = c.pieces_end-end.ensures.pieces in
    rw c.at.ensures (elim c.pieces_end-end.ensures.stops [
      | inl quote ↦ absurd (c.if-not-is_at.ensures quote.0 quote.1)
      | inr open_at ↦ value_quote_faults st k c.pieces_end-end.result p c.requires.0 c.requires.1 are open_at
    ])

pub returns-clause-spelled : goal.returns-clause-spelled
returns-clause-spelled c = λ s k st.
    let (p, are) = c.pieces_end-end.ensures.pieces in (
      p,
      c.from_vec.ensures ∙ c.in_ok-bytes.ensures ∙ ap unescape (pieces_slice c.args.text.now (c.args.quote + 1) c.pieces_end-end.result p are) ∙ unescape_pieces p are.each,
      λ next e. c.skip_blanks.ensures.stands next (quoted_passes st c.pieces_end-end.result p c.requires.0 c.requires.1 are c.if-not-is_at.ensures.0 c.if-not-is_at.ensures.1 next e),
    )
