use Rattle.std.proofs.Common.{}
use Rattle.dap_outside.proofs.Fronts.{on_err}
use Rattle.dap_outside.proofs.Passing.{front_second, passes_two, sent_or_stopped, stopped_before}
use Rattle.xdr_encode.specs.Rows.{rows_text}
use Rattle.xdr_encode.proofs.table_rows.put_front.Goals as goal

pub returns-in_err-put_any_rows-clause-err : goal.returns-in_err-put_any_rows-clause-err
returns-in_err-put_any_rows-clause-err g c =
    on_err _ _ (stopped_before _ _ _ _ c.clear.ensures (front_second _ _ _ _ _ c.args.head.now (rows_text c.args.rows.now) c.in_ok-put.ensures.puts c.in_err-put_any_rows.ensures.puts))

pub returns-clause-err : goal.returns-clause-err
returns-clause-err g c =
    (sent_or_stopped c.flush.result _ _ _ _ _ _ c.clear.ensures (passes_two _ _ _ _ _ _ c.args.head.now (rows_text c.args.rows.now) c.in_ok-put.ensures.puts c.in_ok-put_any_rows.ensures.puts) c.flush.ensures.ok c.flush.ensures.err).1
