use Rattle.std.proofs.Common.{◌≡◌, ◌∙◌, ap, sym, subst, List, ℕ, ℤ, Option, [], ◌∷◌, ◌++◌, ◌-◌, take, drop, IsTrue, not, false}
use Rattle.text_tokens.specs.Tokens.{Token, TokenAt}
use Rattle.text_tokens.specs.Kinds.{IsKind}
use Rattle.text_tokens.specs.declared.tokens.Kind.{Kind}
use Rattle.dap_errors.specs.Object.{signs, bare, is_code, is_code_word, code_value, values}
use Rattle.dap_errors.specs.inner.Machine.{Assigned, field_of, step}
use Rattle.dap_errors.specs.inner.Standing.{HoldsCode}
use Rattle.text_tokens.proofs.Slices.{word_slice}
use Rattle.dap_errors.proofs.Finding.{held_code, no_code, more_code, code_may, code_no_text, code_no_word}
use Rattle.dap_errors.proofs.Moves.{stops_bad}
use Rattle.dap_errors.proofs.fields.code_field.Goals as goal

pub returns-else-is_none : goal.returns-else-is_none
returns-else-is_none c = record {
  takes = λ at done w t code st k n h may.
      let (bytes, t_is) = subst (λ (z : Kind). IsKind z t) c.in-Word.is k in
      let slice = word_slice signs c.args.text.now c.args.value.now.place c.args.value.now.behind bytes (subst (λ (z : Token). TokenAt signs c.args.text.now c.args.value.now.place c.args.value.now.behind z) t_is n.token_at) in
      let (z, o_is, fits, value) = held_code _ (take (c.args.value.now.behind - c.args.value.now.place) (drop c.args.value.now.place c.args.text.now)) c.code_of-code.ensures (c.is_none.ensures ∙ ap not c.if-is_none.false) in
      let fits' : IsTrue (is_code_word bytes) = subst (λ (z : List ℕ). IsTrue (is_code_word z)) slice fits in
      let held = more_code c.args.found done w bytes z code may h fits' (value ∙ ap code_value slice) in
      (bare bytes, sym t_is, code_may w bytes code fits', (subst (λ (o : Option ℤ). HoldsCode o (values is_code (done ++ field_of w (bare bytes) ∷ []))) (sym o_is) held.0, held.1));
}

pub returns-then-is_none : goal.returns-then-is_none
returns-then-is_none c = record {
  takes = λ at done w t code st k n h may.
      let (bytes, t_is) = subst (λ (z : Kind). IsKind z t) c.in-Word.is k in
      let slice = word_slice signs c.args.text.now c.args.value.now.place c.args.value.now.behind bytes (subst (λ (z : Token). TokenAt signs c.args.text.now c.args.value.now.place c.args.value.now.behind z) t_is n.token_at) in
      let fits : is_code_word bytes ≡ false = sym (ap is_code_word slice) ∙ no_code _ (take (c.args.value.now.behind - c.args.value.now.place) (drop c.args.value.now.place c.args.text.now)) c.code_of-code.ensures (c.is_none.ensures ∙ ap not c.if-is_none.true) in
      stops_bad c.args.text.now at c.args.value.now.place c.args.value.now.behind t (Assigned done w) st n tt (ap (step (Assigned done w)) t_is ∙ code_no_word done w bytes code fits);
}

pub returns-in-Quoted : goal.returns-in-Quoted
returns-in-Quoted c = record {
  takes = λ at done w t code st k n h may.
      let (pieces, t_is) = subst (λ (z : Kind). IsKind z t) c.in-Quoted.is k in
      stops_bad c.args.text.now at c.args.value.now.place c.args.value.now.behind t (Assigned done w) st n tt (ap (step (Assigned done w)) t_is ∙ code_no_text done w pieces code);
}

pub returns-in-Sign : goal.returns-in-Sign
returns-in-Sign c = record {
  takes = λ at done w t code st k n h may.
      let t_is = subst (λ (z : Kind). IsKind z t) c.in-Sign.is k in
      stops_bad c.args.text.now at c.args.value.now.place c.args.value.now.behind t (Assigned done w) st n tt (ap (step (Assigned done w)) t_is);
}
