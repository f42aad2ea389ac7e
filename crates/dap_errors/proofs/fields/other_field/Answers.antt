use Rattle.std.proofs.Common.{ap, sym, subst}
use Rattle.text_tokens.specs.Kinds.{IsKind}
use Rattle.text_tokens.specs.declared.tokens.Kind.{Kind}
use Rattle.dap_errors.specs.Object.{bare, text}
use Rattle.dap_errors.specs.inner.Machine.{Assigned, step}
use Rattle.dap_errors.proofs.Finding.{more_other, other_may}
use Rattle.dap_errors.proofs.Moves.{stops_bad}
use Rattle.dap_errors.proofs.fields.other_field.Goals as goal

pub returns-in-Word : goal.returns-in-Word
returns-in-Word c = record {
  takes = λ at done w t code message st k n h.
      let (bytes, t_is) = subst (λ (z : Kind). IsKind z t) c.in-Word.is k in
      (bare bytes, sym t_is, other_may w (bare bytes) code message, more_other c.args.found done w (bare bytes) code message h);
}

pub returns-in-Quoted : goal.returns-in-Quoted
returns-in-Quoted c = record {
  takes = λ at done w t code message st k n h.
      let (pieces, t_is) = subst (λ (z : Kind). IsKind z t) c.in-Quoted.is k in
      (text pieces, sym t_is, other_may w (text pieces) code message, more_other c.args.found done w (text pieces) code message h);
}

pub returns-in-Sign : goal.returns-in-Sign
returns-in-Sign c = record {
  takes = λ at done w t code message st k n h.
      let t_is = subst (λ (z : Kind). IsKind z t) c.in-Sign.is k in
      stops_bad c.args.text.now at c.args.value.now.place c.args.value.now.behind t (Assigned done w) st n tt (ap (step (Assigned done w)) t_is);
}
