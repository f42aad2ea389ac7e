use Rattle.std.proofs.Common.{◌≡◌, ◌+◌, ℕ, List, drop}
use Rattle.dap_types.specs.Model.{Tree}
use Rattle.dap_model.specs.Xdr.{bytes_of}
use Rattle.grid_projection.specs.Resolved.{marks_in}
use Rattle.saved_source.proofs.RowParts.{CellsWay}
use Rattle.xdr_values.specs.Walked.{StandCells}
use Rattle.saved_source.specs.Walked.{cells_sent}
use Rattle.saved_source.proofs.rows.put_cells.Given as goal

abbrev pub invariant-loop-k : goal.invariant-loop-k
invariant-loop-k g l =
    let sink = g.O.Sink in
    record {
      way : (cells : List Tree) (rest : List ℕ) → StandCells l.columns cells l.bytes rest →
          CellsWay (sink.written l.fn.out) l.fn.buffer.bytes.items (sink.written l.out) l.buffer.bytes.items (marks_in l.marks) (l.first + l.k) (drop l.k l.columns) l.rest rest (bytes_of (cells_sent (marks_in l.marks) l.first l.columns cells));
      count : sink.put_faults l.out ≡ sink.put_faults l.fn.out;
      beside : sink.beside_writing l.out ≡ sink.beside_writing l.fn.out;
    }
