use Rattle.std.proofs.Common.{◌∙◌, []}
use Rattle.dap_model.specs.Rows.{kept}
use Rattle.dap_outside.proofs.Passing.{puts_failed}
use Rattle.grid_projection.specs.Resolved.{marks_in}
use Rattle.sequence_select.specs.Tests.{tested}
use Rattle.saved_source.proofs.RowParts.{rows_end, rows_end_failed, rows_failed, rows_next, rows_way_end}
use Rattle.saved_source.proofs.rows.put_marked_rows.Goals as goal

pub returns-in_err-put_row-clause-puts : goal.returns-in_err-put_row-clause-puts
returns-in_err-put_row-clause-puts g c = λ rows rest st.
    puts_failed c.from_residual.result _ _ _ _ _ c.from_residual.ensures.0
    (rows_failed _ _ _ _ _ [] (marks_in c.args.marks.now) (kept (tested c.args.tests.now)) c.args.sequence c.args.columns.now c.loop-rest.rest.now rest _ c.split.result.1.now c.is_row.result c.is_row.ensures.row c.loop-rest-test.true c.split.ensures.rest
    (c.loop-rest.invariant.way rows rest st) c.in_err-put_row.ensures.puts)

pub loop-rest-preserved : goal.loop-rest-preserved
loop-rest-preserved g c =
    let before = c.loop-rest.invariant in
    record {
      way = λ rows rest st.
          rows_next _ _ _ _ _ _ (marks_in c.args.marks.now) (kept (tested c.args.tests.now)) c.args.sequence c.args.columns.now c.loop-rest.rest.now rest _ c.split.result.1.now c.is_row.result c.is_row.ensures.row c.loop-rest-test.true c.split.ensures.rest
          c.behind_cells-rest.result.now (before.way rows rest st) c.in_ok-put_row.ensures.puts c.behind_cells-rest.ensures.rest;
      count = c.in_ok-put_row.ensures.cause.kept ∙ before.count;
      beside = c.put_row.ensures.beside ∙ before.beside;
    }

pub returns-in_err-put-clause-puts : goal.returns-in_err-put-clause-puts
returns-in_err-put-clause-puts g c = λ rows rest st.
    puts_failed c.from_residual-in_err-put.result _ _ _ _ _ c.from_residual-in_err-put.ensures.0
    (rows_end_failed _ _ _ _ _ [] (marks_in c.args.marks.now) (kept (tested c.args.tests.now)) c.args.sequence c.args.columns.now c.loop-rest.rest.now rest _ c.is_row.result c.is_row.ensures.row c.loop-rest-test.false (c.loop-rest.invariant.way rows rest st)
    c.in_err-put.ensures.puts)

pub returns-clause-puts : goal.returns-clause-puts
returns-clause-puts g c = λ rows rest st.
    rows_end _ _ _ _ _ _ (marks_in c.args.marks.now) (kept (tested c.args.tests.now)) c.args.sequence c.args.columns.now c.loop-rest.rest.now rest _ c.is_row.result c.is_row.ensures.row c.loop-rest-test.false (c.loop-rest.invariant.way rows rest st)
    c.in_ok-put.ensures.puts

pub returns-clause-rest : goal.returns-clause-rest
returns-clause-rest g c = λ rows rest st.
    rows_way_end _ _ _ _ (marks_in c.args.marks.now) (kept (tested c.args.tests.now)) c.args.sequence c.args.columns.now c.loop-rest.rest.now rest _ c.split-2.result.1.now c.is_row.result c.is_row.ensures.row c.loop-rest-test.false
    (c.loop-rest.invariant.way rows rest st) c.split-2.ensures.rest
