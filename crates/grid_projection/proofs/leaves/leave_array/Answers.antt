use Rattle.std.proofs.Common.{◌∙◌, ap}
use Rattle.dap_types.proofs.Views.{view-Array}
use Rattle.dap_types.specs.Model.{array}
use Rattle.grid_projection.specs.Resolved.{marks_in}
use Rattle.grid_projection.proofs.Leaving.{pushed, left_array}
use Rattle.grid_projection.proofs.leaves.leave_array.Goals as goal

pub returns-in_ok-push-in-Some : goal.returns-in_ok-push-in-Some
returns-in_ok-push-in-Some c =
    pushed _ _ _ _ _ c.in_ok-push-in-Some.ensures.ok (view-Array c.in_ok-counted-in-Some.field-0 ∙ ap array c.in_ok-counted-in-Some.ensures)
    (left_array (marks_in c.args.marks.now) c.args.number c.args.array.now c.in-Some.slabs.now c.in-Some.ensures)
