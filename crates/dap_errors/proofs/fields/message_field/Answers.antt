use Rattle.std.proofs.Common.{◌∙◌, ap, sym, subst}
use Rattle.text_tokens.specs.Tokens.{Token, quoted, TokenAt}
use Rattle.text_tokens.specs.Kinds.{IsKind}
use Rattle.text_tokens.specs.declared.tokens.Kind.{Kind}
use Rattle.dap_errors.specs.Object.{signs, text}
use Rattle.dap_errors.specs.inner.Machine.{Assigned, step}
use Rattle.text_tokens.proofs.Slices.{quoted_is}
use Rattle.dap_errors.proofs.Finding.{more_message, message_may, message_no_word}
use Rattle.dap_errors.proofs.Moves.{stops_bad}
use Rattle.dap_errors.proofs.fields.message_field.Goals as goal

pub returns-in-Quoted : goal.returns-in-Quoted
returns-in-Quoted c = record {
  takes = λ at done w t code message st k n h may.
      let (p, t_is) = subst (λ (z : Kind). IsKind z t) c.in-Quoted.is k in
      let one : TokenAt signs c.args.text.now c.args.value.now.place c.args.value.now.behind (quoted p) = subst (λ (z : Token). TokenAt signs c.args.text.now c.args.value.now.place c.args.value.now.behind z) t_is n.token_at in
      let value = c.from_vec.ensures ∙ c.in_ok-message-in-Quoted.ensures ∙ quoted_is signs c.args.text.now c.args.value.now.place c.args.value.now.behind p one in
      (text p, sym t_is, message_may w p code message, more_message c.args.found done w p _ code message may h value);
}

pub returns-in-Word : goal.returns-in-Word
returns-in-Word c = record {
  takes = λ at done w t code message st k n h may.
      let (bytes, t_is) = subst (λ (z : Kind). IsKind z t) c.in-Word.is k in
      stops_bad c.args.text.now at c.args.value.now.place c.args.value.now.behind t (Assigned done w) st n tt (ap (step (Assigned done w)) t_is ∙ message_no_word done w bytes code message);
}

pub returns : goal.returns
returns c = record {
  takes = λ at done w t code message st k n h may.
      let t_is = subst (λ (z : Kind). IsKind z t) c.in-Sign.is k in
      stops_bad c.args.text.now at c.args.value.now.place c.args.value.now.behind t (Assigned done w) st n tt (ap (step (Assigned done w)) t_is);
}
