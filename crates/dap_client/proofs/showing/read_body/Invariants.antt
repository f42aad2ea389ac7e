use Rattle.std.proofs.Common.{length, ◌-◌, ◌≡◌, ◌≤◌, ◌⊎◌}
use Rattle.dap_outside.specs.Causes.{Rose}
use Rattle.dap_client.specs.inner.Readers.{HasFailed, HasPutNothing, taken_of}
use Rattle.dap_client.specs.inner.Showing.{Reads}
use Rattle.dap_client.proofs.showing.read_body.Given as goal

abbrev pub invariant-loop-reader : goal.invariant-loop-reader
invariant-loop-reader g l =
    let source = g.I.Source in
    let sink = g.O.Sink in
    record {
      reads : Reads (source.left l.fn.source) (source.left l.source) (sink.written l.fn.out) (sink.written l.out) l.reader;
      room : length l.room ≡ 65536;
      quiet : HasPutNothing l.reader → sink.written l.out ≡ sink.written l.fn.out;
      failed : HasFailed l.reader → HasFailed l.fn.reader ⊎ Rose (sink.put_faults l.fn.out) (sink.put_faults l.out);
      kept : ¬ (HasFailed l.reader) → sink.put_faults l.out ≡ sink.put_faults l.fn.out;
      puts : sink.put_faults l.fn.out ≤ sink.put_faults l.out;
      takes : source.take_faults l.source ≡ source.take_faults l.fn.source;
      whole : source.whole l.source ≡ source.whole l.fn.source;
      beside_reading : source.beside_reading l.source ≡ source.beside_reading l.fn.source;
      beside_writing : sink.beside_writing l.out ≡ sink.beside_writing l.fn.out;
    }

abbrev pub decreases-loop-reader : goal.decreases-loop-reader
decreases-loop-reader g l = 1099511627776 - taken_of l.reader
