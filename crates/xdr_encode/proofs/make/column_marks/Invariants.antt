use Rattle.std.proofs.Common.{◌≡◌, length}
use Rattle.grid_projection.specs.Resolved.{marks_in}
use Rattle.xdr_encode.specs.Rows.{marked_columns}
use Rattle.xdr_encode.proofs.make.column_marks.Given as goal

abbrev pub invariant-loop-column : goal.invariant-loop-column
invariant-loop-column l = record {
  marked : l.chosen ≡ marked_columns (marks_in l.marks) l.column;
  long : length l.chosen ≡ l.column;
}
