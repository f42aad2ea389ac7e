use Rattle.std.proofs.Common.{ℕ, List, ◌≤◌, drop, length}
use Rattle.dap_types.specs.Model.{Tree}
use Rattle.xdr_values.proofs.RowParts.{CellsLeft}
use Rattle.xdr_values.specs.Walked.{StandCells}
use Rattle.xdr_values.proofs.rows.behind_cells.Given as goal

abbrev pub invariant-loop-column : goal.invariant-loop-column
invariant-loop-column l = record {
  left : (cells : List Tree) (rest : List ℕ) → StandCells l.columns cells l.bytes rest → CellsLeft (drop l.column-index l.columns) l.rest rest;
  within : length l.rest ≤ length l.bytes;
}
