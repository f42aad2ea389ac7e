use Rattle.std.proofs.Common.{ap, ◌∙◌}
use Rattle.dap_types.proofs.Views.{view-Structure, view-Grid, view-Sequence}
use Rattle.dap_types.specs.View.{member_view}
use Rattle.dap_model.specs.Dds.{member_text}
use Rattle.dap_model.proofs.Grown.{grown_by_three, grown_by_six}
use Rattle.dds_text.proofs.printing.+printing.Goals as goal

pub put_member-returns-in_ok-put_closing-in-Structure : goal.put_member-returns-in_ok-put_closing-in-Structure
put_member-returns-in_ok-put_closing-in-Structure t c =
    grown_by_three _ _ _ _ _ _ _ _ c.in_ok-put_line-in-Structure.ensures
    (rw c.items.ensures at c.in_ok-put_members-in-Structure.ensures) c.in_ok-put_closing-in-Structure.ensures
    (ap (member_text c.args.depth) (ap member_view c.in-Structure.is ∙ view-Structure c.in-Structure.name c.in-Structure.parts))

pub put_member-returns-in_ok-put_closing-in-Grid : goal.put_member-returns-in_ok-put_closing-in-Grid
put_member-returns-in_ok-put_closing-in-Grid t c =
    grown_by_six _ _ _ _ _ _ _ _ _ _ _ _ _ _ c.in_ok-put_line-in-Grid.ensures
    c.in_ok-put_line-in-Grid-2.ensures c.in_ok-put_array-in-Grid.ensures
    c.in_ok-put_line-in-Grid-3.ensures (rw c.items-in-Grid.ensures at c.in_ok-put_arrays-in-Grid.ensures) c.in_ok-put_closing-in-Grid.ensures
    (ap (member_text c.args.depth) (ap member_view c.in-Grid.is ∙ view-Grid c.in-Grid.name c.in-Grid.array c.in-Grid.maps))

pub put_member-returns-in_ok-put_closing-in-Sequence : goal.put_member-returns-in_ok-put_closing-in-Sequence
put_member-returns-in_ok-put_closing-in-Sequence t c =
    grown_by_three _ _ _ _ _ _ _ _ c.in_ok-put_line-in-Sequence.ensures
    (rw c.items-in-Sequence.ensures at c.in_ok-put_columns-in-Sequence.ensures) c.in_ok-put_closing-in-Sequence.ensures
    (ap (member_text c.args.depth) (ap member_view c.in-Sequence.is ∙ view-Sequence c.in-Sequence.name c.in-Sequence.columns))
