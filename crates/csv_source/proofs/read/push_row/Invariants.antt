use Rattle.std.proofs.Common.{◌≡◌, ◌+◌, ◌++◌, length, take, drop}
use Rattle.csv.specs.Records.{fields_of}
use Rattle.csv_source.specs.Causes.{bad_column, is_row}
use Rattle.csv_source.specs.inner.Held.{AreEnds, fields_in, total}
use Rattle.csv_source.proofs.read.push_row.Given as goal

-- the cells so far are pushed, and what is left decides
abbrev pub invariant-loop-i : goal.invariant-loop-i
invariant-loop-i l = record {
  are_ends : AreEnds 0 l.cells.ends.items (length l.cells.text.items);
  fields : fields_in l.cells.ends.items l.cells.text.items ≡ fields_in l.fn.cells.ends.items l.fn.cells.text.items ++ take l.i (fields_of l.row);
  long : length l.cells.text.items ≡ length l.fn.cells.text.items + total (take l.i (fields_of l.row));
  row : is_row l.columns (fields_of l.row) ≡ is_row (drop l.i l.columns) (drop l.i (fields_of l.row));
  cause : bad_column 1 l.columns (fields_of l.row) ≡ bad_column (l.i + 1) (drop l.i l.columns) (drop l.i (fields_of l.row));
}
