use Rattle.std.proofs.Common.{◌≡◌, ◌<◌, ◌++◌, ◌+◌, ◌∙◌, arith, length}
use Rattle.dap_outside.proofs.Passing.{puts_failed, way_ends, way_failed, way_more}
use Rattle.xdr_encode.proofs.Choosing.{rows_step, rows_end}
use Rattle.xdr_encode.specs.RowSteps.{row_sent, rows_from}
use Rattle.xdr_encode.proofs.table_rows.put_all_kept.Goals as goal

pub returns-in_err-put_kept-clause-puts : goal.returns-in_err-put_kept-clause-puts
returns-in_err-put_kept-clause-puts g c =
    let lt : c.loop-row.row < length c.args.rows.now.table.rows = omega (arith, c.rows-row-end.ensures, c.loop-row-test.true) in
    let step : rows_from c.args.rows.now c.loop-row.row ≡ row_sent c.args.rows.now c.loop-row.row ++ rows_from c.args.rows.now (c.loop-row.row + 1) = rows_step c.args.rows.now c.loop-row.row lt in
    puts_failed c.from_residual.result _ _ _ _ _ c.from_residual.ensures.0
    (way_failed _ _ _ _ _ _ _ _ _ step c.loop-row.invariant.way c.in_err-put_kept.ensures.puts)

pub loop-row-preserved : goal.loop-row-preserved
loop-row-preserved g c =
    let kept = c.loop-row.invariant in
    let lt : c.loop-row.row < length c.args.rows.now.table.rows = omega (arith, c.rows-row-end.ensures, c.loop-row-test.true) in
    let step : rows_from c.args.rows.now c.loop-row.row ≡ row_sent c.args.rows.now c.loop-row.row ++ rows_from c.args.rows.now (c.loop-row.row + 1) = rows_step c.args.rows.now c.loop-row.row lt in
    record {
      way = way_more _ _ _ _ _ _ _ _ _ _ step kept.way c.in_ok-put_kept.ensures.puts;
      count = c.in_ok-put_kept.ensures.cause.kept ∙ kept.count;
      beside = c.put_kept.ensures.beside ∙ kept.beside;
    }

pub returns-clause-puts : goal.returns-clause-puts
returns-clause-puts g c =
    way_ends _ _ _ _ _ _ (rows_end c.args.rows.now c.loop-row.row (omega (arith, c.rows-row-end.ensures, c.loop-row-test.false))) c.loop-row.invariant.way
