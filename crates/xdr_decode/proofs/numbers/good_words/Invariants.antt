use Rattle.std.proofs.Common.{◌≤◌, length}
use Rattle.xdr_decode.specs.inner.Runs.{Begins}
use Rattle.xdr_decode.proofs.numbers.good_words.Given as goal

abbrev pub invariant-loop-rest : goal.invariant-loop-rest
invariant-loop-rest l =
    record {
      begins : Begins l.fn.base l.count l.fn.bytes l.rest;
      few : l.count ≤ length l.fn.bytes;
    }

abbrev pub decreases-loop-rest : goal.decreases-loop-rest
decreases-loop-rest l = length l.rest
