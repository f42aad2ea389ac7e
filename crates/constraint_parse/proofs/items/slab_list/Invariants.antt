use Rattle.std.proofs.Common.{◌≡◌, ◌≤◌, ◌-◌, ℕ, List, [], map, length}
use Rattle.constraint_parse.specs.Language.{SlabTree, StepTree, ItemTree}
use Rattle.constraint_parse.specs.inner.Machine.{Stepped}
use Rattle.constraint_parse.specs.inner.Standing.{StandsAt, IsPlace}
use Rattle.constraint_parse.specs.Values.{slab_value}
use Rattle.constraint_parse.proofs.items.slab_list.Given as goal

abbrev pub invariant-loop-slabs : goal.invariant-loop-slabs
invariant-loop-slabs l = record {
  further : l.fn.from ≤ l.at;
  place : IsPlace l.text l.at;
  spelled : (items : List ItemTree) (steps : List StepTree) (n : List ℕ) → StandsAt l.text l.fn.from (Stepped items steps n []) →
      (t : List SlabTree) × (l.slabs ≡ map slab_value t) × StandsAt l.text l.at (Stepped items steps n t);
}

abbrev pub decreases-loop-slabs : goal.decreases-loop-slabs
decreases-loop-slabs l = length l.text - l.at
