use Rattle.std.proofs.Common.{length, ◌-◌, ◌≤◌}
use Rattle.das_text.specs.inner.Held.{state_view}
use Rattle.das_text.specs.inner.Standing.{Stands}
use Rattle.das_text.proofs.scan.scan.Given as goal

abbrev pub invariant-tokens : goal.invariant-tokens
invariant-tokens l = record {
  high : l.at ≤ length l.text;
  stands : Stands l.text l.at (state_view l.levels l.state);
}

abbrev pub decreases-tokens : goal.decreases-tokens
decreases-tokens l = length l.text - l.at
