use Rattle.std.proofs.Common.{◌≡◌, ℕ, List, map, take, true}
use Rattle.dap_types.specs.Model.{Tree, many, trees_of}
use Rattle.dap_model.specs.Rows.{kept}
use Rattle.xdr_values.specs.Walked.{StandCells}
use Rattle.sequence_select.specs.Tests.{selection_of}
use Rattle.saved_source.proofs.clauses.keep.Given as goal

-- each of the clauses so far
abbrev pub invariant-loop-test : goal.invariant-loop-test
invariant-loop-test l = (cells : List Tree) (rest : List ℕ) → StandCells l.columns cells l.row rest → kept (map selection_of (take l.test-index l.tests.tests)) l.sequence (many (trees_of cells)) ≡ true
