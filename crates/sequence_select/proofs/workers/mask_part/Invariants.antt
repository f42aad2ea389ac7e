use Rattle.std.proofs.Common.{◌≡◌, ℕ, ◌+◌, ◌<◌, get_or, false}
use Rattle.dap_model.specs.Rows.{kept}
use Rattle.csv_source.specs.Dataset.{row_tree}
use Rattle.sequence_select.specs.Selections.{row_of}
use Rattle.sequence_select.specs.Tests.{tested}
use Rattle.sequence_select.proofs.workers.mask_part.Given as goal

-- the rows so far are judged
abbrev pub invariant-loop-k : goal.invariant-loop-k
invariant-loop-k l = (k : ℕ) → k < l.k → get_or l.part k false ≡ kept (tested l.tests) 1 (row_tree (row_of l.table (l.start + k)))
