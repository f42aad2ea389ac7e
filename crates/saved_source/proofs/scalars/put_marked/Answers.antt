use Rattle.std.proofs.Common.{◌∙◌, sym}
use Rattle.dap_outside.proofs.Passing.{front_as, passes_as, puts_failed}
use Rattle.grid_projection.specs.Resolved.{marks_in}
use Rattle.saved_source.proofs.Putting.{nothing_put, value_marked, value_none}
use Rattle.saved_source.proofs.scalars.put_marked.Goals as goal

pub returns-then-not-is_marked-clause-puts : goal.returns-then-not-is_marked-clause-puts
returns-then-not-is_marked-clause-puts g c = λ v rest st. nothing_put _ _ _ (value_none (marks_in c.args.marks.now) c.args.number c.args.base v (sym c.is_marked.ensures ∙ c.if-not-is_marked.true))

pub returns-in_err-put_value-clause-puts : goal.returns-in_err-put_value-clause-puts
returns-in_err-put_value-clause-puts g c = λ v rest st.
    puts_failed c.from_residual.result _ _ _ _ _ c.from_residual.ensures.0
    (front_as _ _ _ _ _ (value_marked (marks_in c.args.marks.now) c.args.number c.args.base v (sym c.is_marked.ensures ∙ c.if-not-is_marked.false)) (c.in_err-put_value.ensures.puts v (c.value.ensures.own v rest st)))

pub returns-clause-puts : goal.returns-clause-puts
returns-clause-puts g c = λ v rest st.
    passes_as _ _ _ _ _ _ (value_marked (marks_in c.args.marks.now) c.args.number c.args.base v (sym c.is_marked.ensures ∙ c.if-not-is_marked.false)) (c.in_ok-put_value.ensures.puts v (c.value.ensures.own v rest st))
