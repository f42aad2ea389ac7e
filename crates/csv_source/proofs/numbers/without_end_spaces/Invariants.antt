use Rattle.std.proofs.Common.{◌≡◌, ◌≤◌, length, take}
use Rattle.csv_source.specs.Cells.{without_end_spaces}
use Rattle.csv_source.proofs.numbers.without_end_spaces.Given as goal

abbrev pub invariant-loop-end : goal.invariant-loop-end
invariant-loop-end l = record {
  same : without_end_spaces l.text ≡ without_end_spaces (take l.end l.text);
  within : l.end ≤ length l.text;
}

abbrev pub decreases-loop-end : goal.decreases-loop-end
decreases-loop-end l = l.end
