use Rattle.std.proofs.Common.{◌+◌, ◌∙◌, ap, drop, sym}
use Rattle.dap_types.proofs.Views.{members-end, members-here, view-Array, view-Base, view-Grid, view-Sequence, view-Structure}
use Rattle.dap_types.specs.Model.{grid, sequence, structure}
use Rattle.dap_types.specs.View.{member_view, members_view}
use Rattle.xdr_values.proofs.Variables.{array_behind, grid_behind, members_left_end, members_left_next, scalar_behind, sequence_behind, structure_behind}
use Rattle.xdr_values.proofs.members.+variables.Goals as goal

pub behind_member-returns-in-Base : goal.behind_member-returns-in-Base
behind_member-returns-in-Base t c = λ u rest st.
    scalar_behind (member_view c.args.decl.now) u c.args.bytes.now rest _ st c.in-Base.column (ap member_view c.in-Base.is ∙ view-Base c.in-Base.column) c.value.ensures.rest

pub behind_member-returns-in-Array : goal.behind_member-returns-in-Array
behind_member-returns-in-Array t c = λ u rest st.
    array_behind (member_view c.args.decl.now) u c.args.bytes.now rest _ st c.in-Array.array (ap member_view c.in-Array.is ∙ view-Array c.in-Array.array) c.behind_array.ensures

pub behind_member-returns-in-Structure : goal.behind_member-returns-in-Structure
behind_member-returns-in-Structure t c = λ u rest st.
    structure_behind (member_view c.args.decl.now) u c.args.bytes.now rest _ st c.in-Structure.field-0 (members_view c.items.result.now)
    (ap member_view c.in-Structure.is ∙ view-Structure c.in-Structure.field-0 c.in-Structure.parts ∙ ap (λ ds. structure c.in-Structure.field-0 (members_view ds)) (sym c.items.ensures)) c.behind_members.ensures

pub behind_member-returns-in-Grid : goal.behind_member-returns-in-Grid
behind_member-returns-in-Grid t c = λ u rest st.
    grid_behind (member_view c.args.decl.now) u c.args.bytes.now rest _ st c.in-Grid.field-0 c.in-Grid.array c.items-in-Grid.result.now _
    (ap member_view c.in-Grid.is ∙ view-Grid c.in-Grid.field-0 c.in-Grid.array c.in-Grid.maps ∙ ap (λ ds. grid c.in-Grid.field-0 c.in-Grid.array ds) (sym c.items-in-Grid.ensures)) c.behind_array-in-Grid.ensures c.behind_arrays.ensures

pub behind_member-returns-in-Sequence : goal.behind_member-returns-in-Sequence
behind_member-returns-in-Sequence t c = λ u rest st.
    sequence_behind (member_view c.args.decl.now) u c.args.bytes.now rest _ st c.in-Sequence.field-0 c.items-in-Sequence.result.now
    (ap member_view c.in-Sequence.is ∙ view-Sequence c.in-Sequence.field-0 c.in-Sequence.columns ∙ ap (λ ds. sequence c.in-Sequence.field-0 ds) (sym c.items-in-Sequence.ensures)) c.behind_rows.ensures

pub behind_members-loop-decl-init : goal.behind_members-loop-decl-init
behind_members-loop-decl-init t c = λ ts rest st. record { trees = ts; stand = st }

pub behind_members-loop-decl-preserved : goal.behind_members-loop-decl-preserved
behind_members-loop-decl-preserved t c = λ ts rest st.
    let i = c.loop-decl.decl-index in
    members_left_next (members_view (drop i c.args.decls.now)) (member_view c.decl-item.result) (members_view (drop (i + 1) c.args.decls.now)) c.loop-decl.rest.now rest c.behind_member-rest.result.now
    (members-here c.args.decls.now i c.decl-item.result c.loop-decl-test.true c.decl-item.is) (c.loop-decl.invariant ts rest st) c.behind_member-rest.ensures

pub behind_members-returns : goal.behind_members-returns
behind_members-returns t c = λ ts rest st.
    members_left_end _ c.loop-decl.rest.now rest (members-end c.args.decls.now c.loop-decl.decl-index c.loop-decl-test.false) (c.loop-decl.invariant ts rest st)
