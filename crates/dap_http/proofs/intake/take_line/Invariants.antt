use Rattle.std.proofs.Common.{◌≡◌, ◌≤◌, ◌<◌, ◌-◌, ◌++◌, ℕ, List, length}
use Rattle.std.specs.Prelude.{IsTrue, vec_capacity}
use Rattle.std.specs.Io.KnownBytes.{Consumes}
use Rattle.dap_http.specs.Requests.{feeds}
use Rattle.dap_http.proofs.intake.take_line.Given as goal

abbrev pub invariant-loop-kept : goal.invariant-loop-kept
invariant-loop-kept g l =
    let source = g.I.Source in
    record {
      taken : (x : List ℕ) × Consumes (source.left l.fn.source) (source.left l.source) x × (l.kept.items ≡ l.fn.kept.items ++ x);
      short : length l.kept.items < l.most;
      room : l.most ≤ vec_capacity l.kept;
      plain : feeds l.kept.items ≡ feeds l.fn.kept.items;
      stays : IsTrue (source.ended l.fn.source) → IsTrue (source.ended l.source);
      count : source.take_faults l.source ≡ source.take_faults l.fn.source;
      whole : source.whole l.source ≡ source.whole l.fn.source;
      beside : source.beside_reading l.source ≡ source.beside_reading l.fn.source;
    }

abbrev pub decreases-loop-kept : goal.decreases-loop-kept
decreases-loop-kept g l = l.most - length l.kept.items
