use Rattle.std.proofs.Common.{◌≡◌, ◌<◌, ◌++◌, ◌+◌, ◌∙◌, arith, length}
use Rattle.dap_outside.proofs.Passing.{puts_failed, way_ends, way_failed, way_more}
use Rattle.xdr_encode.proofs.Choosing.{cells_step, cells_end}
use Rattle.xdr_encode.specs.RowSteps.{cell_sent, cells_from}
use Rattle.xdr_encode.proofs.table_rows.put_cells.Goals as goal

pub returns-in_err-put_chosen-clause-puts : goal.returns-in_err-put_chosen-clause-puts
returns-in_err-put_chosen-clause-puts g c =
    let lt : c.loop-column.column < length c.args.rows.now.table.columns = omega (arith, c.columns-column-end.ensures.count, c.loop-column-test.true) in
    let step : cells_from c.args.rows.now c.args.row c.loop-column.column ≡ cell_sent c.args.rows.now c.args.row c.loop-column.column ++ cells_from c.args.rows.now c.args.row (c.loop-column.column + 1)
    = cells_step c.args.rows.now c.args.row c.loop-column.column c.requires.row c.columns-column-end.ensures.each_row lt in
    puts_failed c.from_residual.result _ _ _ _ _ c.from_residual.ensures.0
    (way_failed _ _ _ _ _ _ _ _ _ step c.loop-column.invariant.way c.in_err-put_chosen.ensures.puts)

pub loop-column-preserved : goal.loop-column-preserved
loop-column-preserved g c =
    let kept = c.loop-column.invariant in
    let lt : c.loop-column.column < length c.args.rows.now.table.columns = omega (arith, c.columns-column-end.ensures.count, c.loop-column-test.true) in
    let step : cells_from c.args.rows.now c.args.row c.loop-column.column ≡ cell_sent c.args.rows.now c.args.row c.loop-column.column ++ cells_from c.args.rows.now c.args.row (c.loop-column.column + 1)
    = cells_step c.args.rows.now c.args.row c.loop-column.column c.requires.row c.columns-column-end.ensures.each_row lt in
    record {
      way = way_more _ _ _ _ _ _ _ _ _ _ step kept.way c.in_ok-put_chosen.ensures.puts;
      count = c.in_ok-put_chosen.ensures.cause.kept ∙ kept.count;
      beside = c.put_chosen.ensures.beside ∙ kept.beside;
    }

pub returns-clause-puts : goal.returns-clause-puts
returns-clause-puts g c =
    way_ends _ _ _ _ _ _ (cells_end c.args.rows.now c.args.row c.loop-column.column (omega (arith, c.columns-column-end.ensures.count, c.loop-column-test.false))) c.loop-column.invariant.way
