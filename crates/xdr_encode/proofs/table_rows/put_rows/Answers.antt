use Rattle.std.proofs.Common.{◌∷◌, []}
use Rattle.dap_outside.proofs.Passing.{front_first, puts_failed, puts_two}
use Rattle.xdr_encode.proofs.Choosing.{table_parts}
use Rattle.xdr_encode.specs.RowSteps.{rows_from}
use Rattle.xdr_encode.proofs.table_rows.put_rows.Goals as goal

pub returns-in_err-put_all_kept-clause-puts : goal.returns-in_err-put_all_kept-clause-puts
returns-in_err-put_all_kept-clause-puts g c =
    rw (table_parts c.args.rows.now)
    (puts_failed c.from_residual.result _ _ _ _ _ c.from_residual.ensures.0 (front_first _ _ _ (rows_from c.args.rows.now 0) (0xa5 ∷ 0 ∷ 0 ∷ 0 ∷ []) c.in_err-put_all_kept.ensures.puts))

pub returns-clause-puts : goal.returns-clause-puts
returns-clause-puts g c =
    rw (table_parts c.args.rows.now)
    (puts_two c.put.result _ _ _ _ _ _ (rows_from c.args.rows.now 0) (0xa5 ∷ 0 ∷ 0 ∷ 0 ∷ []) c.in_ok-put_all_kept.ensures.puts c.put.ensures.puts)
