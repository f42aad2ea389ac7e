use Rattle.std.proofs.Common.{◌∷◌, []}
use Rattle.dap_outside.proofs.Passing.{front_first, puts_failed, puts_two}
use Rattle.xdr_encode.proofs.Choosing.{row_parts}
use Rattle.xdr_encode.specs.RowSteps.{cells_from}
use Rattle.xdr_encode.proofs.table_rows.put_row.Goals as goal

pub returns-in_err-put-clause-puts : goal.returns-in_err-put-clause-puts
returns-in_err-put-clause-puts g c =
    rw (row_parts c.args.rows.now c.args.row)
    (puts_failed c.from_residual.result _ _ _ _ _ c.from_residual.ensures.0 (front_first _ _ _ (0x5a ∷ 0 ∷ 0 ∷ 0 ∷ []) (cells_from c.args.rows.now c.args.row 0) c.in_err-put.ensures.puts))

pub returns-clause-puts : goal.returns-clause-puts
returns-clause-puts g c =
    rw (row_parts c.args.rows.now c.args.row)
    (puts_two c.put_cells.result _ _ _ _ _ _ (0x5a ∷ 0 ∷ 0 ∷ 0 ∷ []) (cells_from c.args.rows.now c.args.row 0) c.in_ok-put.ensures.puts c.put_cells.ensures.puts)
