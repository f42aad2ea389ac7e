use Rattle.std.proofs.Common.{◌≡◌, None, refl, sym, ap, inl, inr, ◌∙◌, rules}
use Rattle.dap_errors.specs.declared.cause.Cause.TheVariants.{BadMethod, BadTarget}
use Rattle.dap_http.specs.Requests.{is_other}
use Rattle.dap_http.specs.Targets.{target_of}
use Rattle.dap_gateway.specs.Given.{refused}
use Rattle.dap_gateway.specs.Turns.{is_head_method}
use Rattle.dap_gateway.proofs.Coming.{early-comes, memory-comes}
use Rattle.dap_gateway.proofs.connection.relay.Goals as goal

pub returns-then-is_other-clause-comes : goal.returns-then-is_other-clause-comes
returns-then-is_other-clause-comes g c = λ bytes rest tree first head.
    early-comes _ _ _ _ _ bytes _ _ _ _ c.put_cause.result c.is_head-head_alone.result (refused BadMethod)
    (inr (tree, rest, first, c.is_head-head_alone.ensures ∙ ap is_head_method head.method, inl (ap is_other (sym head.method) ∙ (sym c.is_other.ensures ∙ c.if-is_other.true), refl))) c.put_cause.ensures.puts refl refl

pub returns-in-Err-BadTarget-clause-comes : goal.returns-in-Err-BadTarget-clause-comes
returns-in-Err-BadTarget-clause-comes g c = λ bytes rest tree first head.
    let none : target_of c.args.head.now.target ≡ None = search rules in
    early-comes _ _ _ _ _ bytes _ _ _ _ c.put_cause-in-Err-BadTarget.result c.is_head-head_alone.result (refused BadTarget)
    (inr (
      tree,
      rest,
      first,
      c.is_head-head_alone.ensures ∙ ap is_head_method head.method,
      inr (inl (ap is_other (sym head.method) ∙ (sym c.is_other.ensures ∙ c.if-is_other.false), ap target_of (sym head.target) ∙ none, refl)),
    )) c.put_cause-in-Err-BadTarget.ensures.puts refl refl

pub returns-in-Err-Memory-clause-comes : goal.returns-in-Err-Memory-clause-comes
returns-in-Err-Memory-clause-comes g c = λ bytes rest tree first head.
    memory-comes _ _ _ _ _ bytes _ _ _ _ c.put_memory.result c.is_head-head_alone.result (inr (tree, rest, first, c.is_head-head_alone.ensures ∙ ap is_head_method head.method)) c.put_memory.ensures.puts refl refl
