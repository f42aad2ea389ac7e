use Rattle.std.proofs.Common.{length, ◌-◌, ◌≤◌, List, ℕ}
use Rattle.viable.specs.Runs.{IsRunOf}
use Rattle.constraint_parse.specs.Classes.{class_test}
use Rattle.constraint_parse.proofs.scan.run_end.Given as goal

abbrev pub invariant-loop-to : goal.invariant-loop-to
invariant-loop-to l = record {
  low : l.from ≤ l.to;
  high : l.to ≤ length l.text;
  run : (run : List ℕ) × IsRunOf (class_test l.class) l.text l.from l.to run;
}

abbrev pub decreases-loop-to : goal.decreases-loop-to
decreases-loop-to l = length l.text - l.to
