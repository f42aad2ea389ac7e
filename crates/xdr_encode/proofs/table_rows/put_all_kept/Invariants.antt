use Rattle.std.proofs.Common.{◌≡◌, ◌≤◌}
use Rattle.dap_outside.proofs.Passing.{IsOnItsWay}
use Rattle.xdr_encode.specs.RowSteps.{rows_from}
use Rattle.xdr_encode.proofs.table_rows.put_all_kept.Given as goal

abbrev pub invariant-loop-row : goal.invariant-loop-row
invariant-loop-row g l =
    let sink = g.O.Sink in
    record {
      way : IsOnItsWay (sink.written l.fn.out) l.fn.buffer.bytes.items (sink.written l.out) l.buffer.bytes.items (rows_from l.rows l.row) (rows_from l.rows 0);
      count : sink.put_faults l.out ≡ sink.put_faults l.fn.out;
      beside : sink.beside_writing l.out ≡ sink.beside_writing l.fn.out;
    }
