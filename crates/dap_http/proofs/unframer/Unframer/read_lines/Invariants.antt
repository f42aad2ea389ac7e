use Rattle.std.proofs.Common.{◌≡◌, ◌+◌, ◌-◌, ◌≤◌, length, take}
use Rattle.dap_http.specs.After.{coding_of, used_by}
use Rattle.dap_http.specs.inner.Tracking.{Tracks}
use Rattle.dap_http.specs.inner.Steps.{Known, run}
use Rattle.dap_http.proofs.unframer.Unframer.read_lines.Given as goal

abbrev pub invariant-loop-used : goal.invariant-loop-used
invariant-loop-used l = record {
  within : l.used ≤ length l.piece;
  tracks : (k : Known) → Tracks l.fn.self k → Tracks l.self (run k (take l.used l.piece)) × ((run k (take l.used l.piece)).body ≡ k.body);
  counted : used_by l.self ≡ used_by l.fn.self + l.used;
  coding : coding_of l.self ≡ coding_of l.fn.self;
}

abbrev pub decreases-loop-used : goal.decreases-loop-used
decreases-loop-used l = length l.piece - l.used
