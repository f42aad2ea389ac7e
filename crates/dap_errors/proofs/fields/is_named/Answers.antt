use Rattle.std.proofs.Common.{◌∙◌, ap, subst, sym}
use Rattle.std.specs.Str.{str_eq_ignore_ascii_case}
use Rattle.text_tokens.specs.Tokens.{Token, TokenAt}
use Rattle.text_tokens.specs.Kinds.{IsKind}
use Rattle.text_tokens.specs.declared.tokens.Kind.{Kind}
use Rattle.dap_errors.specs.Object.{signs}
use Rattle.dap_errors.specs.inner.Standing.{has_name}
use Rattle.viable.proofs.Words.{same_name}
use Rattle.text_tokens.proofs.Slices.{word_slice}
use Rattle.dap_errors.proofs.fields.is_named.Goals as goal

pub returns-in-Word : goal.returns-in-Word
returns-in-Word c = λ t k at.
    let (bytes, t_is) = subst (λ (z : Kind). IsKind z t) c.in-Word.is k in
    same_name _ c.args.name.now _ c.eq_ignore_ascii_case.ensures.test
    ∙ ap (str_eq_ignore_ascii_case c.args.name.now) (word_slice signs c.args.text.now c.args.token.now.place c.args.token.now.behind bytes (subst (λ (z : Token). TokenAt signs c.args.text.now c.args.token.now.place c.args.token.now.behind z) t_is at))
    ∙ ap (has_name c.args.name.now) (sym t_is)
