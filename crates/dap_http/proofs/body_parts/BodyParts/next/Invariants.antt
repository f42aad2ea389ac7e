use Rattle.std.proofs.Common.{◌≡◌, ◌≤◌, ◌-◌, ◌^◌, ◌++◌, ℕ, List, false}
use Rattle.std.specs.Prelude.{IsTrue}
use Rattle.std.specs.Io.KnownBytes.{Consumes}
use Rattle.dap_http.specs.Delivered.{IsWholeBody}
use Rattle.dap_http.specs.Following.{Follows, IsInTime, body_coding}
use Rattle.dap_http.specs.inner.Parting.{taken_by}
use Rattle.dap_http.proofs.body_parts.BodyParts.next.Given as goal

abbrev pub invariant-loop-arrived : goal.invariant-loop-arrived
invariant-loop-arrived g l =
    let source = g.I.Source in
    record {
      taken : (x : List ℕ) × Consumes (source.left l.fn.source) (source.left l.source) x × ((bytes body : List ℕ) → Follows l.fn.self bytes body → Follows l.self (bytes ++ x) body)
          × ((bytes body : List ℕ) → Follows l.fn.self bytes body → IsInTime (body_coding l.fn.self) bytes body → IsInTime (body_coding l.fn.self) (bytes ++ x) body);
      begun : (bytes body rest : List ℕ) → Follows l.fn.self bytes body → IsWholeBody (body_coding l.fn.self) bytes false body rest → (l.self ≡ l.fn.self) × (l.source ≡ l.fn.source);
      coding : body_coding l.self ≡ body_coding l.fn.self;
      count : source.take_faults l.source ≡ source.take_faults l.fn.source;
      stays : IsTrue (source.ended l.fn.source) → IsTrue (source.ended l.source);
      whole : source.whole l.source ≡ source.whole l.fn.source;
      beside : source.beside_reading l.source ≡ source.beside_reading l.fn.source;
    }

abbrev pub decreases-loop-arrived : goal.decreases-loop-arrived
decreases-loop-arrived g l = 2 ^ 53 - taken_by l.self
