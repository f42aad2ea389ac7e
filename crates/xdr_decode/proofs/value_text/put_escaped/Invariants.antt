use Rattle.std.proofs.Common.{length, ◌-◌, ◌≡◌, ◌≤◌, take}
use Rattle.std.specs.List.{flat_map}
use Rattle.dap_model.specs.Shown.{shown_byte}
use Rattle.dap_outside.specs.Buffered.{Passes}
use Rattle.xdr_decode.proofs.value_text.put_escaped.Given as goal

abbrev pub invariant-loop-at : goal.invariant-loop-at
invariant-loop-at g l =
    let sink = g.O.Sink in
    record {
      within : l.at ≤ length l.text;
      passed : Passes (sink.written l.fn.out) l.fn.buffer.bytes.items (sink.written l.out) l.buffer.bytes.items (flat_map shown_byte (take l.at l.text));
      count : sink.put_faults l.out ≡ sink.put_faults l.fn.out;
      beside : sink.beside_writing l.out ≡ sink.beside_writing l.fn.out;
    }

abbrev pub decreases-loop-at : goal.decreases-loop-at
decreases-loop-at g l = length l.text - l.at
