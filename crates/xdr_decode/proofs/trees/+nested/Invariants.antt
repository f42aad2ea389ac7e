use Rattle.std.proofs.Common.{◌+◌, ◌*◌, length}
use Rattle.xdr_decode.proofs.ArrayElements.{EachRead}
use Rattle.xdr_decode.specs.inner.Taken.{sizes_of}
use Rattle.xdr_decode.proofs.trees.+nested.Given as goal

abbrev pub decreases-each : goal.decreases-each
decreases-each l = 2 * length l.dims.now + 1

abbrev pub decreases-nested : goal.decreases-nested
decreases-nested l = 2 * length l.dims.now

abbrev pub invariant-each-loop : goal.invariant-each-loop
invariant-each-loop l = EachRead l.base (sizes_of l.dims) l.counter l.trees l.bytes l.rest
