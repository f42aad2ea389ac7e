use Rattle.std.proofs.Common.{◌≡◌, ℕ, ◌≤◌, List, ◌++◌, take, slice_range}
use Rattle.dds_text.specs.inner.Standing.{IsRead, IsReadTo}
use Rattle.dds_text.proofs.front.Front.read.Given as goal

abbrev pub invariant-loop-i : goal.invariant-loop-i
invariant-loop-i l = record {
  within : l.from ≤ l.i;
  stays : l.self.length ≡ l.fn.self.length;
  read : (text : List ℕ) → IsRead l.fn.self text → IsReadTo l.self (slice_range l.piece l.from l.i) (text ++ take l.i l.piece);
}
