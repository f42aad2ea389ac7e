use Rattle.std.proofs.Common.{◌≡◌, ◌<◌, ◌^◌, ◌++◌, ◌+◌, ◌-◌, ℕ, List, [], IsTrue}
use Rattle.std.specs.Io.KnownBytes.{Appends, Consumes}
use Rattle.dap_http.specs.Following.{Follows, IsInTime, body_coding}
use Rattle.dap_client.specs.After.{BodyStandsAfter}
use Rattle.dap_client.proofs.reply.read_parts.Given as goal

abbrev pub invariant-loop-reader : goal.invariant-loop-reader
invariant-loop-reader g l =
    let from = g.I.Source in
    let to = g.O.Sink in
    record {
      moved : (taken : List ℕ) × (text : List ℕ) × (body : List ℕ)
          × Consumes (from.left l.fn.source) (from.left l.source) taken
          × Appends (to.written l.fn.out) (to.written l.out) text
          × ((bytes : List ℕ) → Follows l.fn.parts bytes [] → Follows l.parts (bytes ++ taken) body)
          × ((bytes : List ℕ) → Follows l.fn.parts bytes [] → IsInTime (body_coding l.fn.parts) bytes [] → IsInTime (body_coding l.fn.parts) (bytes ++ taken) body)
          × BodyStandsAfter l.reader body text;
      short : l.reader.taken < 2 ^ 40;
      kind : l.reader.kind ≡ l.fn.reader.kind;
      coding : body_coding l.parts ≡ body_coding l.fn.parts;
      reading : from.take_faults l.source ≡ from.take_faults l.fn.source;
      writing : to.put_faults l.out ≡ to.put_faults l.fn.out;
      stays : IsTrue (from.ended l.fn.source) → IsTrue (from.ended l.source);
      whole : from.whole l.source ≡ from.whole l.fn.source;
      beside_reading : from.beside_reading l.source ≡ from.beside_reading l.fn.source;
      beside_writing : to.beside_writing l.out ≡ to.beside_writing l.fn.out;
    }

abbrev pub decreases-loop-reader : goal.decreases-loop-reader
decreases-loop-reader g l = 2 ^ 40 - l.reader.taken
