use Rattle.std.proofs.Common.{◌≡◌, ◌≤◌, ◌-◌, ℕ, List, [], map, length}
use Rattle.constraint_parse.specs.Language.{ItemsTree, ClauseTree, Operator, ValueTree}
use Rattle.constraint_parse.specs.inner.Machine.{Bracing}
use Rattle.constraint_parse.specs.inner.Standing.{StandsAt, IsPlace}
use Rattle.constraint_parse.specs.Values.{value_constant}
use Rattle.constraint_parse.proofs.clauses.braced_values.Given as goal

abbrev pub invariant-commas : goal.invariant-commas
invariant-commas l = record {
  further : l.fn.from ≤ l.at;
  place : IsPlace l.text l.at;
  spelled : (items : ItemsTree) (clauses : List ClauseTree) (labels : List (List ℕ)) (n : List ℕ) (o : Operator) → StandsAt l.text l.fn.from (Bracing items clauses labels n o []) →
      (front : List ValueTree) × (l.values ≡ map value_constant front) × StandsAt l.text l.at (Bracing items clauses labels n o front);
}

abbrev pub decreases-commas : goal.decreases-commas
decreases-commas l = length l.text - l.at
