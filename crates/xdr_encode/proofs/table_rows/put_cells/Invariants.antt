use Rattle.std.proofs.Common.{◌≡◌, ◌≤◌}
use Rattle.dap_outside.proofs.Passing.{IsOnItsWay}
use Rattle.xdr_encode.specs.RowSteps.{cells_from}
use Rattle.xdr_encode.proofs.table_rows.put_cells.Given as goal

abbrev pub invariant-loop-column : goal.invariant-loop-column
invariant-loop-column g l =
    let sink = g.O.Sink in
    record {
      way : IsOnItsWay (sink.written l.fn.out) l.fn.buffer.bytes.items (sink.written l.out) l.buffer.bytes.items (cells_from l.rows l.row l.column) (cells_from l.rows l.row 0);
      count : sink.put_faults l.out ≡ sink.put_faults l.fn.out;
      beside : sink.beside_writing l.out ≡ sink.beside_writing l.fn.out;
    }
