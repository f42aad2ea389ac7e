use Rattle.std.proofs.Common.{[], refl}
use Rattle.std.proofs.KnownBytes.{Consumes-nil}
use Rattle.dap_http.proofs.HeadReading.{bad-request, first-request, wanted-request}
use Rattle.dap_http.proofs.head_reader.HeadReader.turn.Goals as goal

pub returns-in-Whole-clause-reads : goal.returns-in-Whole-clause-reads
returns-in-Whole-clause-reads g c =
    ([], Consumes-nil _, first-request c.args.self.now.kept.items c.skip.new.kept.items c.in-Whole.head c.in-Whole.len (rw c.as_slice.ensures.value at c.in-Whole.ensures) c.skip.ensures.items c.args.self.now.few)

pub returns-in-Bad-clause-reads : goal.returns-in-Bad-clause-reads
returns-in-Bad-clause-reads g c = ([], Consumes-nil _, bad-request c.args.self.now.kept.items (rw c.as_slice.ensures.value at c.in-Bad.ensures))

pub returns-in-Memory-clause-reads : goal.returns-in-Memory-clause-reads
returns-in-Memory-clause-reads g c = ([], Consumes-nil _, wanted-request c.args.self.now.kept.items c.in-Memory.head (rw c.as_slice.ensures.value at c.in-Memory.ensures) c.args.self.now.few)

pub returns-in-Partial-clause-at_hand : goal.returns-in-Partial-clause-at_hand
returns-in-Partial-clause-at_hand g c = λ rest head first.
    let none = rw c.as_slice.ensures.value at c.in-Partial.ensures in
    absurd (none.0 head rest first.0)
