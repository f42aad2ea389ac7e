use Rattle.std.proofs.Common.{◌≡◌, ◌≤◌, ◌-◌, ◌+◌, ◌++◌, ℕ, List, length}
use Rattle.std.specs.Prelude.{IsTrue}
use Rattle.std.specs.Io.KnownBytes.{Consumes}
use Rattle.dap_http.specs.Reading.{rest_of}
use Rattle.dap_http.specs.inner.ReplyJudging.{IsPast}
use Rattle.dap_http.proofs.reply_reader.ReplyReader.read.Given as goal

abbrev pub invariant-loop-read : goal.invariant-loop-read
invariant-loop-read g l =
    let source = g.I.Source in
    record {
      taken : (x : List ℕ) × Consumes (source.left l.fn.source) (source.left l.source) x × (rest_of l.self ≡ rest_of l.fn.self ++ x);
      past : IsPast (rest_of l.self) l.at;
      count : source.take_faults l.source ≡ source.take_faults l.fn.source;
      stays : IsTrue (source.ended l.fn.source) → IsTrue (source.ended l.source);
      whole : source.whole l.source ≡ source.whole l.fn.source;
      beside : source.beside_reading l.source ≡ source.beside_reading l.fn.source;
    }

abbrev pub decreases-loop-read : goal.decreases-loop-read
decreases-loop-read g l = 131072 - (l.at + length l.self.kept.items)
