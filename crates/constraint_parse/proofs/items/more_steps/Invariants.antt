use Rattle.std.proofs.Common.{◌≡◌, ◌≤◌, ◌-◌, List, [], map, length}
use Rattle.constraint_parse.specs.Language.{StepTree, ItemTree}
use Rattle.constraint_parse.specs.inner.Machine.{Stepped, with_last}
use Rattle.constraint_parse.specs.inner.Standing.{StandsAt, IsPlace, Lacks, MayCall}
use Rattle.constraint_parse.specs.Values.{step_value}
use Rattle.constraint_parse.proofs.items.more_steps.Given as goal

abbrev pub invariant-dots : goal.invariant-dots
invariant-dots l = record {
  further : l.fn.from ≤ l.at;
  place : IsPlace l.text l.at;
  no_slab : Lacks l.text l.fn.from 91 → Lacks l.text l.at 91;
  spelled : (items : List ItemTree) (t : StepTree) → l.fn.first ≡ step_value t → (MayCall [] t.slabs → Lacks l.text l.fn.from 40) → StandsAt l.text l.fn.from (Stepped items [] t.label t.slabs) →
      (front : List StepTree) × (last : StepTree) × (l.steps ≡ map step_value (with_last front last)) × (MayCall front last.slabs → Lacks l.text l.at 40) × StandsAt l.text l.at (Stepped items front last.label last.slabs);
}

abbrev pub decreases-dots : goal.decreases-dots
decreases-dots l = length l.text - l.at
