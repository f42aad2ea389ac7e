use Rattle.std.proofs.Common.{◌≡◌, ◌-◌, List, [], map, length}
use Rattle.constraint_parse.specs.Language.{ClauseTree, ItemsTree}
use Rattle.constraint_parse.specs.inner.Machine.{Clausal}
use Rattle.constraint_parse.specs.inner.Standing.{StandsAt, IsPlace}
use Rattle.constraint_parse.specs.Values.{clause_value}
use Rattle.constraint_parse.proofs.clauses.clause_list.Given as goal

abbrev pub invariant-ampersands : goal.invariant-ampersands
invariant-ampersands l = record {
  place : IsPlace l.text l.at;
  spelled : (items : ItemsTree) → StandsAt l.text l.fn.from (Clausal items []) →
      (t : List ClauseTree) × (l.clauses ≡ map clause_value t) × StandsAt l.text l.at (Clausal items t);
}

abbrev pub decreases-ampersands : goal.decreases-ampersands
decreases-ampersands l = length l.text - l.at
