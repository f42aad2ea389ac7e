use Rattle.std.proofs.Common.{◌+◌, ◌∙◌, length, sym}
use Rattle.dap_model.specs.Filter.{one_marked}
use Rattle.dap_model.specs.Rows.{kept}
use Rattle.dap_outside.proofs.Passing.{puts_as}
use Rattle.grid_projection.specs.Resolved.{marks_in}
use Rattle.sequence_select.specs.Tests.{tested}
use Rattle.saved_source.proofs.Putting.{nothing_put}
use Rattle.saved_source.proofs.RowParts.{rows_in, rows_out}
use Rattle.saved_source.specs.Walked.{rows_sent}
use Rattle.saved_source.proofs.rows.put_rows.Goals as goal

pub returns-then-is_any_marked-clause-puts : goal.returns-then-is_any_marked-clause-puts
returns-then-is_any_marked-clause-puts g c = λ rows rest st.
    let marks = marks_in c.args.marks.now in
    puts_as c.put_marked_rows.result _ _ _ _ _ _
    (rows_in (one_marked marks (c.args.sequence + 1) (length c.args.columns.now)) (rows_sent marks (kept (tested c.args.tests.now)) c.args.sequence c.args.columns.now rows) (sym c.is_any_marked.ensures ∙ c.if-is_any_marked.true))
    (c.put_marked_rows.ensures.puts rows rest st)

pub returns-else-is_any_marked-clause-puts : goal.returns-else-is_any_marked-clause-puts
returns-else-is_any_marked-clause-puts g c = λ rows rest st.
    let marks = marks_in c.args.marks.now in
    nothing_put _ _ _
    (rows_out (one_marked marks (c.args.sequence + 1) (length c.args.columns.now)) (rows_sent marks (kept (tested c.args.tests.now)) c.args.sequence c.args.columns.now rows) (sym c.is_any_marked.ensures ∙ c.if-is_any_marked.false))
