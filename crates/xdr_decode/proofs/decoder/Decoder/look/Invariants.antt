use Rattle.std.proofs.Common.{length, ◌+◌, ◌-◌, ◌*◌, ◌≡◌, ◌≤◌, None, []}
use Rattle.xdr_decode.proofs.Reading.{Comes}
use Rattle.xdr_decode.specs.After.{dataset_of, place_of, start_of}
use Rattle.xdr_decode.specs.inner.Turning.{weight}
use Rattle.xdr_decode.proofs.decoder.Decoder.look.Given as goal

abbrev pub invariant-turns : goal.invariant-turns
invariant-turns l =
    record {
      within : l.at ≤ length l.piece;
      dataset : dataset_of l.self ≡ dataset_of l.fn.self;
      start : start_of l.self ≡ start_of l.fn.self;
      place : place_of l.self ≤ place_of l.fn.self + l.at;
      comes : Comes l.fn.self l.self None [] None [] l.piece l.at;
    }

abbrev pub decreases-turns : goal.decreases-turns
decreases-turns l = weight l.self + 6 * (length l.piece - l.at)
