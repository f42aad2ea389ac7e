use Rattle.std.proofs.Common.{◌≡◌, ◌≤◌, ◌-◌, length, drop}
use Rattle.csv_source.specs.Cells.{without_front_spaces}
use Rattle.csv_source.proofs.numbers.without_front_spaces.Given as goal

abbrev pub invariant-loop-start : goal.invariant-loop-start
invariant-loop-start l = record {
  same : without_front_spaces l.text ≡ without_front_spaces (drop l.start l.text);
  within : l.start ≤ length l.text;
}

abbrev pub decreases-loop-start : goal.decreases-loop-start
decreases-loop-start l = length l.text - l.start
