use Rattle.std.proofs.Common.{◌≡◌, ◌+◌, ◌-◌, ◌*◌, ◌∷◌, ℕ, List, length}
use Rattle.dap_types.specs.Model.{Tree, kids}
use Rattle.saved_source.proofs.Cutting.{IsAt, cut_run, picks_from}
use Rattle.saved_source.specs.Walked.{StandsNested}
use Rattle.dap_outside.proofs.Passing.{IsOnItsWay}
use Rattle.xdr_decode.specs.inner.Taken.{sizes_of}
use Rattle.saved_source.proofs.cut.+cutting.Given as goal

abbrev pub decreases-put_cut : goal.decreases-put_cut
decreases-put_cut g l = 2 * length l.dims.now

abbrev pub decreases-put_each : goal.decreases-put_each
decreases-put_each g l = 2 * length l.dims.now + 1

abbrev pub invariant-put_each-loop : goal.invariant-put_each-loop
invariant-put_each-loop g l =
    let sink = g.O.Sink in
    record {
      at : (n : ℕ) (t : Tree) (rest : List ℕ) → StandsNested l.base (n ∷ sizes_of l.dims) (l.slab ∷ l.slabs) t l.bytes rest → IsAt l.base l.slab t rest l.counter l.rest;
      way : (n : ℕ) (t : Tree) (rest : List ℕ) → StandsNested l.base (n ∷ sizes_of l.dims) (l.slab ∷ l.slabs) t l.bytes rest →
          IsOnItsWay (sink.written l.fn.out) l.fn.buffer.bytes.items (sink.written l.out) l.buffer.bytes.items (cut_run l.base l.slabs (picks_from l.slab (kids t) l.counter (l.slab.count - l.counter))) (cut_run l.base l.slabs (picks_from l.slab (kids t) 0 (l.slab.count - 0)));
      count : sink.put_faults l.out ≡ sink.put_faults l.fn.out;
      beside : sink.beside_writing l.out ≡ sink.beside_writing l.fn.out;
    }
