use Rattle.std.proofs.Common.{◌+◌, ◌∙◌, ◌∷◌, [], sym}
use Rattle.dap_model.specs.Rows.{kept}
use Rattle.dap_model.specs.Xdr.{bytes_of}
use Rattle.dap_outside.proofs.Passing.{front_as, front_first, puts_as, puts_failed, puts_two}
use Rattle.grid_projection.specs.Resolved.{marks_in}
use Rattle.sequence_select.specs.Tests.{tested}
use Rattle.saved_source.proofs.Putting.{nothing_put}
use Rattle.saved_source.proofs.RowParts.{row_in, row_out}
use Rattle.saved_source.specs.Walked.{cells_sent}
use Rattle.saved_source.proofs.rows.put_row.Goals as goal

pub returns-then-not-keep-clause-puts : goal.returns-then-not-keep-clause-puts
returns-then-not-keep-clause-puts g c = λ cells rest st.
    nothing_put _ _ _ (row_out (marks_in c.args.marks.now) (kept (tested c.args.tests.now)) c.args.sequence c.args.columns.now cells (sym (c.keep.ensures cells rest st) ∙ c.if-not-keep.true))

pub returns-in_err-put-clause-puts : goal.returns-in_err-put-clause-puts
returns-in_err-put-clause-puts g c = λ cells rest st.
    let marks = marks_in c.args.marks.now in
    puts_failed c.from_residual.result _ _ _ _ _ c.from_residual.ensures.0
    (front_as _ _ _ _ _ (row_in marks (kept (tested c.args.tests.now)) c.args.sequence c.args.columns.now cells (sym (c.keep.ensures cells rest st) ∙ c.if-not-keep.false))
    (front_first _ _ _ (0x5a ∷ 0 ∷ 0 ∷ 0 ∷ []) (bytes_of (cells_sent marks (c.args.sequence + 1) c.args.columns.now cells)) c.in_err-put.ensures.puts))

pub returns-clause-puts : goal.returns-clause-puts
returns-clause-puts g c = λ cells rest st.
    let marks = marks_in c.args.marks.now in
    puts_as c.put_cells.result _ _ _ _ _ _ (row_in marks (kept (tested c.args.tests.now)) c.args.sequence c.args.columns.now cells (sym (c.keep.ensures cells rest st) ∙ c.if-not-keep.false))
    (puts_two c.put_cells.result _ _ _ _ _ _ (0x5a ∷ 0 ∷ 0 ∷ 0 ∷ []) (bytes_of (cells_sent marks (c.args.sequence + 1) c.args.columns.now cells)) c.in_ok-put.ensures.puts (c.put_cells.ensures.puts cells rest st))
