use Rattle.dap_outside.proofs.Passing.{front_as, passes_as, puts_failed}
use Rattle.grid_projection.specs.Resolved.{marks_in}
use Rattle.saved_source.proofs.Putting.{array_marked, array_none, nothing_put, suits_within}
use Rattle.saved_source.proofs.members.put_leaf.Goals as goal

pub returns-in_default-clause-puts : goal.returns-in_default-clause-puts
returns-in_default-clause-puts g c = λ t rest st suits. nothing_put _ _ _ (array_none (marks_in c.args.marks.now) c.args.number c.args.decl.now t c.in_default.ensures)

pub returns-in_err-put_array-clause-puts : goal.returns-in_err-put_array-clause-puts
returns-in_err-put_array-clause-puts g c = λ t rest st suits.
    let marks = marks_in c.args.marks.now in
    puts_failed c.from_residual.result _ _ _ _ _ c.from_residual.ensures.0
    (front_as _ _ _ _ _ (array_marked marks c.args.number c.args.decl.now t c.in-Some.slabs.now c.in-Some.ensures)
    (c.in_err-put_array.ensures.puts t rest st (suits_within marks c.args.number c.args.decl.now c.in-Some.slabs.now c.in-Some.ensures suits)))

pub returns-clause-puts : goal.returns-clause-puts
returns-clause-puts g c = λ t rest st suits.
    let marks = marks_in c.args.marks.now in
    passes_as _ _ _ _ _ _ (array_marked marks c.args.number c.args.decl.now t c.in-Some.slabs.now c.in-Some.ensures)
    (c.in_ok-put_array.ensures.puts t rest st (suits_within marks c.args.number c.args.decl.now c.in-Some.slabs.now c.in-Some.ensures suits))
