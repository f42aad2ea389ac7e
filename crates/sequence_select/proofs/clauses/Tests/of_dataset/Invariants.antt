use Rattle.std.proofs.Common.{◌≡◌, map, take}
use Rattle.std.specs.List.{flat_map}
use Rattle.dap_types.specs.Numbered.{number_in}
use Rattle.sequence_select.specs.Selections.{selection_in}
use Rattle.sequence_select.specs.Tests.{selection_of}
use Rattle.sequence_select.proofs.clauses.Tests.of_dataset.Given as goal

-- those of the clauses so far
abbrev pub invariant-loop-clause : goal.invariant-loop-clause
invariant-loop-clause l = map selection_of l.tests ≡ flat_map (selection_in (number_in l.index)) (take l.clause-index l.constraint.clauses)
