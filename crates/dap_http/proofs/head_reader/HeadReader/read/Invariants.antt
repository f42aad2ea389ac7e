use Rattle.std.proofs.Common.{◌≡◌, ◌≤◌, ◌-◌, ◌++◌, ℕ, List, length}
use Rattle.std.specs.Prelude.{IsTrue}
use Rattle.std.specs.Io.KnownBytes.{Consumes}
use Rattle.httparse.specs.Grammar.{RequestHead}
use Rattle.dap_http.specs.Reading.{kept_by}
use Rattle.dap_http.specs.Requests.{FirstRequest}
use Rattle.dap_http.proofs.head_reader.HeadReader.read.Given as goal

abbrev pub invariant-loop-read : goal.invariant-loop-read
invariant-loop-read g l =
    let source = g.I.Source in
    record {
      taken : (x : List ℕ) × Consumes (source.left l.fn.source) (source.left l.source) x × (kept_by l.self ≡ kept_by l.fn.self ++ x);
      at_hand : (rest : List ℕ) (head : RequestHead) → FirstRequest (kept_by l.fn.self) head rest → (l.source ≡ l.fn.source) × (kept_by l.self ≡ kept_by l.fn.self);
      count : source.take_faults l.source ≡ source.take_faults l.fn.source;
      stays : IsTrue (source.ended l.fn.source) → IsTrue (source.ended l.source);
      whole : source.whole l.source ≡ source.whole l.fn.source;
      beside : source.beside_reading l.source ≡ source.beside_reading l.fn.source;
    }

abbrev pub decreases-loop-read : goal.decreases-loop-read
decreases-loop-read g l = 16384 - length l.self.kept.items
