use Rattle.xdr_values.proofs.RowParts.{rows_left_end, rows_left_next}
use Rattle.xdr_values.proofs.rows.behind_rows.Goals as goal

pub loop-rest-preserved : goal.loop-rest-preserved
loop-rest-preserved c = λ rows rest st.
    rows_left_next c.args.columns.now c.loop-rest.rest.now rest c.split.result.1.now c.behind_cells-rest.result.now c.is_row.result c.is_row.ensures.row c.loop-rest-test.true (c.loop-rest.invariant rows rest st) c.split.ensures.rest
    c.behind_cells-rest.ensures.rest

pub returns : goal.returns
returns c = λ rows rest st.
    rows_left_end c.args.columns.now c.loop-rest.rest.now rest c.split-2.result.1.now c.is_row.result c.is_row.ensures.row c.loop-rest-test.false (c.loop-rest.invariant rows rest st) c.split-2.ensures.rest
