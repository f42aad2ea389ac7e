use Rattle.std.proofs.Common.{◌∙◌, ap}
use Rattle.dap_types.proofs.Views.{view-Base}
use Rattle.dap_types.specs.Model.{scalar}
use Rattle.grid_projection.specs.Resolved.{marks_in}
use Rattle.grid_projection.proofs.Leaving.{pushed, left_scalar}
use Rattle.grid_projection.proofs.leaves.leave_scalar.Goals as goal

pub returns-in_ok-push-in-Some : goal.returns-in_ok-push-in-Some
returns-in_ok-push-in-Some c =
    pushed _ _ _ _ _ c.in_ok-push-in-Some.ensures.ok (view-Base c.in_ok-copied-in-Some.field-0 ∙ ap scalar c.in_ok-copied-in-Some.ensures)
    (left_scalar (marks_in c.args.marks.now) c.args.number c.args.column.now c.in-Some.field-0.now c.in-Some.ensures)
