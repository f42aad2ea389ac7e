use Rattle.std.proofs.Common.{length, ◌+◌, ◌-◌, ◌*◌, ◌≡◌, ◌≤◌}
use Rattle.xdr_decode.proofs.Reading.{Comes}
use Rattle.xdr_decode.specs.After.{dataset_of, place_of, start_of}
use Rattle.xdr_decode.specs.inner.Turning.{weight}
use Rattle.xdr_decode.proofs.decoder.Decoder.read.Given as goal

abbrev pub invariant-turns : goal.invariant-turns
invariant-turns g l =
    let sink = g.O.Sink in
    record {
      within : l.at ≤ length l.piece;
      dataset : dataset_of l.self ≡ dataset_of l.fn.self;
      start : start_of l.self ≡ start_of l.fn.self;
      place : place_of l.self ≤ place_of l.fn.self + l.at;
      comes : Comes l.fn.self l.self (sink.written l.fn.out) l.fn.buffer.bytes.items (sink.written l.out) l.buffer.bytes.items l.piece l.at;
      count : sink.put_faults l.out ≡ sink.put_faults l.fn.out;
      beside : sink.beside_writing l.out ≡ sink.beside_writing l.fn.out;
    }

abbrev pub decreases-turns : goal.decreases-turns
decreases-turns g l = weight l.self + 6 * (length l.piece - l.at)
