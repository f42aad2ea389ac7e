use Rattle.std.proofs.Common.{ℕ, List, length}
use Rattle.dap_types.specs.Model.{Tree}
use Rattle.xdr_values.proofs.RowParts.{RowsLeft}
use Rattle.xdr_values.specs.Walked.{StandRows}
use Rattle.xdr_values.proofs.rows.behind_rows.Given as goal

abbrev pub invariant-loop-rest : goal.invariant-loop-rest
invariant-loop-rest l = (rows : List Tree) (rest : List ℕ) → StandRows l.columns rows l.bytes rest → RowsLeft l.columns l.rest rest

abbrev pub decreases-loop-rest : goal.decreases-loop-rest
decreases-loop-rest l = length l.rest
