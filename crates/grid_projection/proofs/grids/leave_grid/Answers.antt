use Rattle.std.proofs.Common.{◌++◌, map, sym, ◌∙◌, ap}
use Rattle.dap_types.specs.View.{member_view}
use Rattle.grid_projection.specs.Resolved.{marks_in}
use Rattle.grid_projection.proofs.Leaving.{left_grid, left_parts}
use Rattle.grid_projection.proofs.grids.leave_grid.Goals as goal

pub returns-in_ok-push_grid-in-Some : goal.returns-in_ok-push_grid-in-Some
returns-in_ok-push_grid-in-Some c =
    c.in_ok-push_grid-in-Some.ensures ∙ ap (λ l. map member_view c.args.left.now ++ l)
    (sym (left_grid (marks_in c.args.marks.now) c.args.number c.args.name.now c.args.array.now c.args.maps.now c.in-Some.slabs.now c.in-Some.ensures.0 c.in-Some.ensures.1))

pub returns-in_ok-leave_parts-in-None : goal.returns-in_ok-leave_parts-in-None
returns-in_ok-leave_parts-in-None c =
    c.in_ok-leave_parts-in-None.ensures ∙ ap (λ l. map member_view c.args.left.now ++ l)
    (left_parts (marks_in c.args.marks.now) c.args.number c.args.name.now c.args.array.now c.args.maps.now c.in-None.ensures)
