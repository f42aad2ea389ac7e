use Rattle.std.proofs.Common.{◌∙◌, ap}
use Rattle.dap_types.proofs.Views.{view-Structure}
use Rattle.dap_types.specs.Model.{structure}
use Rattle.dap_types.specs.View.{members_view}
use Rattle.grid_projection.proofs.Causes.{some_from_not_empty}
use Rattle.grid_projection.proofs.Leaving.{pushed, structure_some}
use Rattle.grid_projection.proofs.leaves.push_structure.Goals as goal

pub returns : goal.returns
returns c =
    pushed _ _ _ _ _ c.in_ok-push.ensures.ok (view-Structure c.in_ok-try_clone.field-0 c.args.parts ∙ ap (λ n. structure n (members_view c.args.parts)) c.in_ok-try_clone.ensures)
    (structure_some c.args.name.now c.args.parts (rw c.items.ensures at (some_from_not_empty c.items.result.now c.is_empty.result c.is_empty.ensures c.if-is_empty.false)))
