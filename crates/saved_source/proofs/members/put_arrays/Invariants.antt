use Rattle.std.proofs.Common.{◌≡◌, ◌+◌, ℕ, List, drop}
use Rattle.dap_types.specs.Model.{Tree}
use Rattle.dap_model.specs.Xdr.{bytes_of}
use Rattle.grid_projection.specs.Resolved.{marks_in}
use Rattle.saved_source.proofs.Grids.{ArraysWay}
use Rattle.saved_source.specs.Walked.{StandArrays}
use Rattle.xdr_encode.specs.Marked.{arrays_sent}
use Rattle.saved_source.proofs.members.put_arrays.Given as goal

abbrev pub invariant-loop-k : goal.invariant-loop-k
invariant-loop-k g l =
    let sink = g.O.Sink in
    record {
      way : (ts : List Tree) (rest : List ℕ) → StandArrays (marks_in l.marks) l.first l.arrays ts l.bytes rest →
          ArraysWay (sink.written l.fn.out) l.fn.buffer.bytes.items (sink.written l.out) l.buffer.bytes.items (marks_in l.marks) (l.first + l.k) (drop l.k l.arrays) l.rest rest (bytes_of (arrays_sent (marks_in l.marks) l.first l.arrays ts));
      count : sink.put_faults l.out ≡ sink.put_faults l.fn.out;
      beside : sink.beside_writing l.out ≡ sink.beside_writing l.fn.out;
    }
