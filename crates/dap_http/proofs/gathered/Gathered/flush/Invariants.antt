use Rattle.std.proofs.Common.{◌≡◌, ◌+◌, ◌-◌, ◌≤◌, ◌++◌, List, ℕ, length}
use Rattle.std.specs.Io.KnownBytes.{Appends}
use Rattle.dap_http.specs.inner.Putting.{body_in, front_in, gained_by}
use Rattle.dap_http.proofs.gathered.Gathered.flush.Given as goal

abbrev pub invariant-loop-self : goal.invariant-loop-self
invariant-loop-self g l = record {
  whole : l.self.from + 65536 ≤ length l.self.frame.items;
  chunked : l.self.chunked ≡ l.initial.self.chunked;
  front : front_in l.self ≡ front_in l.initial.self;
  body : body_in l.self ≡ body_in l.initial.self;
  gains : (x : List ℕ) × (gained_by l.self ≡ gained_by l.initial.self ++ x) × Appends (g.O.Sink.written l.initial.out) (g.O.Sink.written l.out) x;
  count : g.O.Sink.put_faults l.out ≡ g.O.Sink.put_faults l.initial.out;
  beside : g.O.Sink.beside_writing l.out ≡ g.O.Sink.beside_writing l.initial.out;
}

abbrev pub decreases-loop-self : goal.decreases-loop-self
decreases-loop-self g l = length l.self.frame.items - l.self.sent
