use Rattle.std.proofs.Common.{ap, subst, ◌∙◌}
use Rattle.text_tokens.specs.Kinds.{IsKind}
use Rattle.text_tokens.specs.declared.tokens.Kind.{Kind}
use Rattle.dap_errors.specs.inner.Machine.{step}
use Rattle.dap_errors.proofs.Moves.{moves}
use Rattle.dap_errors.proofs.fields.expect_sign.Goals as goal

pub returns-clause-stands : goal.returns-clause-stands
returns-clause-stands c = λ s next wants st.
    let (t, k, n) = c.in_ok-token.ensures.token in
    let is = subst (λ (z : Kind). IsKind z t) c.if-not-is_sign.ensures k in
    moves c.args.text.now c.args.at c.in_ok-token.token.place c.in_ok-token.token.behind t s next st n (ap (step s) is ∙ wants.0)
