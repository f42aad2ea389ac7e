use Rattle.std.proofs.Common.{◌≡◌, ◌∙◌, subst, sym}
use Rattle.std.specs.Prelude.{IfOk, option_map}
use Rattle.text_tokens.specs.Kinds.{IsKind}
use Rattle.text_tokens.specs.Tokens.{Token, TokenAt, quoted}
use Rattle.text_tokens.specs.declared.tokens.Kind.{Kind}
use Rattle.das_text.specs.Grammar.{signs}
use Rattle.das_text.specs.inner.Held.{state_view}
use Rattle.das_text.specs.inner.Machine.{step}
use Rattle.das_text.proofs.scan.next_state.Goals as goal

pub returns-in_ok-value-in-Quoted : goal.returns-in_ok-value-in-Quoted
returns-in_ok-value-in-Quoted c = λ t k at.
    let (pieces, t_is) = subst (λ (z : Kind). IsKind z t) c.in-Quoted.is k in
    let one : TokenAt signs c.args.text.now c.args.token.now.place c.args.token.now.behind (quoted pieces) = subst (λ (z : Token). TokenAt signs c.args.text.now c.args.token.now.place c.args.token.now.behind z) t_is at in
    subst (λ (z : Token). IfOk c.step_by_quoted.result (λ next. option_map (state_view c.args.levels.now) next ≡ step (state_view c.args.levels.now c.args.state) z)) (sym t_is)
    (c.step_by_quoted.ensures pieces (c.from_vec.ensures ∙ c.in_ok-value-in-Quoted.ensures signs pieces one))
