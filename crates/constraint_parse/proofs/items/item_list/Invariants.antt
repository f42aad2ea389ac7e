use Rattle.std.proofs.Common.{◌≡◌, ◌-◌, List, [], map, length}
use Rattle.constraint_parse.specs.Language.{ItemTree}
use Rattle.constraint_parse.specs.inner.Machine.{Naming, with_last}
use Rattle.constraint_parse.specs.inner.Standing.{StandsAt, StandsBehindItem, IsPlace}
use Rattle.constraint_parse.specs.Values.{item_value}
use Rattle.constraint_parse.proofs.items.item_list.Given as goal

abbrev pub invariant-commas : goal.invariant-commas
invariant-commas l = record {
  place : IsPlace l.text l.at;
  spelled : StandsAt l.text l.fn.from (Naming [] []) →
      (front : List ItemTree) × (last : ItemTree) × (l.items ≡ map item_value (with_last front last)) × StandsBehindItem l.text l.at front last;
}

abbrev pub decreases-commas : goal.decreases-commas
decreases-commas l = length l.text - l.at
