use Rattle.std.proofs.Common.{◌≡◌, ◌+◌, ◌++◌, drop}
use Rattle.dap_model.specs.Filter.{marked, unchanged}
use Rattle.grid_projection.specs.Resolved.{marks_in}
use Rattle.grid_projection.proofs.sequences.kept_columns.Given as goal

abbrev pub invariant-loop-column : goal.invariant-loop-column
invariant-loop-column l = record {
  numbered : l.number ≡ l.first + l.column-index;
  left : l.left ++ marked unchanged (marks_in l.marks) l.number (drop l.column-index l.columns) ≡ marked unchanged (marks_in l.marks) l.first l.columns;
}
