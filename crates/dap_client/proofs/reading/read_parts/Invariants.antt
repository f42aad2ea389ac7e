use Rattle.std.proofs.Common.{◌≡◌, ◌^◌, ◌++◌, ◌-◌, ℕ, List, []}
use Rattle.std.specs.Io.KnownBytes.{Consumes}
use Rattle.dap_http.specs.Following.{Follows, IsInTime, body_coding}
use Rattle.dap_client.specs.Verdict.{Form}
use Rattle.dap_client.specs.inner.Holding.{IsHolding}
use Rattle.dap_client.proofs.reading.read_parts.Given as goal

abbrev pub invariant-loop-holding : goal.invariant-loop-holding
invariant-loop-holding g l =
    let from = g.I.Source in
    record {
      moved : (taken : List ℕ) × (body : List ℕ)
          × Consumes (from.left l.fn.source) (from.left l.source) taken
          × ((bytes : List ℕ) → Follows l.fn.parts bytes [] → Follows l.parts (bytes ++ taken) body)
          × ((bytes : List ℕ) → Follows l.fn.parts bytes [] → IsInTime (body_coding l.fn.parts) bytes [] → IsInTime (body_coding l.fn.parts) (bytes ++ taken) body)
          × ((form : Form) (limit : ℕ) → IsHolding form limit [] l.fn.holding → IsHolding form limit body l.holding);
      coding : body_coding l.parts ≡ body_coding l.fn.parts;
      reading : from.take_faults l.source ≡ from.take_faults l.fn.source;
      whole : from.whole l.source ≡ from.whole l.fn.source;
      beside : from.beside_reading l.source ≡ from.beside_reading l.fn.source;
    }

abbrev pub decreases-loop-holding : goal.decreases-loop-holding
decreases-loop-holding g l = 2 ^ 40 - l.holding.reader.taken
