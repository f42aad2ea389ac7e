use Rattle.std.proofs.Common.{◌≡◌, ◌≤◌, ◌-◌, ℕ, List, [], map, length}
use Rattle.dap_types.specs.Names.{constraint_id}
use Rattle.constraint_parse.specs.Language.{ItemsTree, ClauseTree}
use Rattle.constraint_parse.specs.inner.Machine.{ClauseNamed, with_last}
use Rattle.constraint_parse.specs.inner.Standing.{StandsAt, IsPlace, Lacks}
use Rattle.constraint_parse.proofs.clauses.more_labels.Given as goal

abbrev pub invariant-dots : goal.invariant-dots
invariant-dots l = record {
  further : l.fn.from ≤ l.at;
  place : IsPlace l.text l.at;
  spelled : (items : ItemsTree) (clauses : List ClauseTree) (n : List ℕ) → l.fn.first ≡ constraint_id n → Lacks l.text l.fn.from 40 → StandsAt l.text l.fn.from (ClauseNamed items clauses [] n) →
      (front : List (List ℕ)) × (last : List ℕ) × (l.labels ≡ map constraint_id (with_last front last)) × (front ≡ [] → Lacks l.text l.at 40) × StandsAt l.text l.at (ClauseNamed items clauses front last);
}

abbrev pub decreases-dots : goal.decreases-dots
decreases-dots l = length l.text - l.at
