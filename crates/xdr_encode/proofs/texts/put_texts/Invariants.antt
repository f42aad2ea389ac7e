use Rattle.std.proofs.Common.{◌≡◌, ◌≤◌, ◌+◌, ◌-◌, ℕ, List}
use Rattle.dap_outside.proofs.Passing.{IsOnItsWay}
use Rattle.hyperslab_plan.specs.Batches.{Fetched}
use Rattle.xdr_encode.specs.Elements.{forms_from}
use Rattle.xdr_encode.proofs.texts.put_texts.Given as goal

abbrev pub invariant-loop-j : goal.invariant-loop-j
invariant-loop-j g l =
    let sink = g.O.Sink in
    record {
      way : (bytes : List ℕ) → Fetched l.plan l.batch bytes l.raw →
          IsOnItsWay (sink.written l.fn.out) l.fn.buffer.bytes.items (sink.written l.out) l.buffer.bytes.items (forms_from l.plan bytes (l.batch.first + l.j) (l.batch.count - l.j)) (forms_from l.plan bytes l.batch.first l.batch.count);
      count : sink.put_faults l.out ≡ sink.put_faults l.fn.out;
      beside : sink.beside_writing l.out ≡ sink.beside_writing l.fn.out;
    }
