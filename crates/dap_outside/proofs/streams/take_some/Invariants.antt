use Rattle.std.proofs.Common.{length, ◌-◌, ◌≡◌, ◌≤◌, take, IsTrue}
use Rattle.std.specs.Io.KnownBytes.{Consumes}
use Rattle.dap_outside.proofs.streams.take_some.Given as goal

abbrev pub invariant-loop-taken : goal.invariant-loop-taken
invariant-loop-taken g l =
    let source = g.I.Source in
    record {
      within : l.taken ≤ length l.into;
      whole : source.whole l.source ≡ source.whole l.fn.source;
      bytes : Consumes (source.left l.fn.source) (source.left l.source) (take l.taken l.into);
      stays : IsTrue (source.ended l.fn.source) → IsTrue (source.ended l.source);
      count : source.take_faults l.source ≡ source.take_faults l.fn.source;
      beside : source.beside_reading l.source ≡ source.beside_reading l.fn.source;
    }

abbrev pub decreases-loop-taken : goal.decreases-loop-taken
decreases-loop-taken g l = length l.initial.into - l.taken
