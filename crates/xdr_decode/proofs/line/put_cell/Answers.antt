use Rattle.std.proofs.Common.{◌++◌, codes, ap, sym}
use Rattle.dap_model.specs.Shown.{index_text}
use Rattle.dap_outside.proofs.Passing.{front_as, front_first, puts_as, puts_failed, puts_two}
use Rattle.xdr_decode.specs.inner.Lines.{cell_text, column_text}
use Rattle.xdr_decode.proofs.line.put_cell.Goals as goal

pub returns-in_err-put_index-in-Cells-clause-puts : goal.returns-in_err-put_index-in-Cells-clause-puts
returns-in_err-put_index-in-Cells-clause-puts g c =
    puts_failed c.from_residual.result _ _ _ _ _ c.from_residual.ensures.0
    (front_as _ _ _ _ _ (ap (cell_text c.args.columns.now) (sym c.in-Cells.is)) (front_first _ _ _ (index_text c.in-Cells.row) (codes "." ++ column_text c.args.columns.now c.in-Cells.at) c.in_err-put_index-in-Cells.ensures.puts))

pub returns-in_ok-put_index-in-Cells-clause-puts : goal.returns-in_ok-put_index-in-Cells-clause-puts
returns-in_ok-put_index-in-Cells-clause-puts g c =
    puts_as c.put_below.result _ _ _ _ _ _ (ap (cell_text c.args.columns.now) (sym c.in-Cells.is)) (puts_two c.put_below.result _ _ _ _ _ _ (index_text c.in-Cells.row) (codes "." ++ column_text c.args.columns.now c.in-Cells.at) c.in_ok-put_index-in-Cells.ensures.puts c.put_below.ensures.puts)
