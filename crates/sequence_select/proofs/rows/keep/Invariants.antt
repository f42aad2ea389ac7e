use Rattle.std.proofs.Common.{◌≡◌, take, map, true}
use Rattle.dap_model.specs.Rows.{kept}
use Rattle.csv_source.specs.Dataset.{row_tree}
use Rattle.sequence_select.specs.Selections.{row_of}
use Rattle.sequence_select.specs.Tests.{selection_of}
use Rattle.sequence_select.proofs.rows.keep.Given as goal

-- each of the clauses so far
abbrev pub invariant-loop-test : goal.invariant-loop-test
invariant-loop-test l = kept (map selection_of (take l.test-index l.tests.tests)) 1 (row_tree (row_of l.table l.row)) ≡ true
