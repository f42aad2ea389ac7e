use Rattle.std.proofs.Common.{refl, ◌∙◌, ap}
use Rattle.dap_types.proofs.Views.{view-Grid}
use Rattle.dap_types.specs.Model.{grid}
use Rattle.dap_model.specs.Cutting.{counted}
use Rattle.grid_projection.proofs.Leaving.{pushed}
use Rattle.grid_projection.proofs.grids.push_grid.Goals as goal

pub returns : goal.returns
returns c =
    pushed _ _ _ _ _ c.in_ok-push.ensures.ok
    (view-Grid c.in_ok-try_clone.field-0 c.in_ok-array.array c.in_ok-maps.maps ∙ ap (λ n. grid n c.in_ok-array.array c.in_ok-maps.maps) c.in_ok-try_clone.ensures
    ∙ ap (λ a. grid c.args.name.now a c.in_ok-maps.maps) c.in_ok-array.ensures ∙ ap (grid c.args.name.now (counted c.args.slabs.now c.args.array.now)) c.in_ok-maps.ensures) refl
