use Rattle.std.proofs.Common.{◌≡◌, ℕ, List, length}
use Rattle.dap_types.specs.Model.{Tree}
use Rattle.dap_model.specs.Rows.{kept}
use Rattle.dap_model.specs.Xdr.{bytes_of}
use Rattle.grid_projection.specs.Resolved.{marks_in}
use Rattle.sequence_select.specs.Tests.{tested}
use Rattle.saved_source.proofs.RowParts.{RowsWay}
use Rattle.xdr_values.specs.Walked.{StandRows}
use Rattle.saved_source.specs.Walked.{rows_sent}
use Rattle.saved_source.proofs.rows.put_marked_rows.Given as goal

abbrev pub invariant-loop-rest : goal.invariant-loop-rest
invariant-loop-rest g l =
    let sink = g.O.Sink in
    record {
      way : (rows : List Tree) (rest : List ℕ) → StandRows l.columns rows l.bytes rest →
          RowsWay (sink.written l.fn.out) l.fn.buffer.bytes.items (sink.written l.out) l.buffer.bytes.items (marks_in l.marks) (kept (tested l.tests)) l.sequence l.columns l.rest rest
          (bytes_of (rows_sent (marks_in l.marks) (kept (tested l.tests)) l.sequence l.columns rows));
      count : sink.put_faults l.out ≡ sink.put_faults l.fn.out;
      beside : sink.beside_writing l.out ≡ sink.beside_writing l.fn.out;
    }

abbrev pub decreases-loop-rest : goal.decreases-loop-rest
decreases-loop-rest g l = length l.rest
