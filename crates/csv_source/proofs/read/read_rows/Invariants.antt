use Rattle.std.proofs.Common.{◌≡◌, ◌≤◌, ◌*◌, ◌∷◌, length, true}
use Rattle.std.specs.List.{list_all}
use Rattle.csv.specs.Records.{fields_of}
use Rattle.csv_source.specs.Causes.{is_row}
use Rattle.csv_source.specs.inner.Held.{AreEnds, fields_in, rows_of, total_all}
use Rattle.csv_source.specs.inner.Standing.{Stands}
use Rattle.csv_source.proofs.read.read_rows.Given as goal

-- the reader gave the header and the rows that are held, and each is a row
abbrev pub invariant-records : goal.invariant-records
invariant-records l = record {
  stands : Stands l.fn.bytes (fields_of l.fn.header ∷ rows_of (length l.columns) l.rows (fields_in l.cells.ends.items l.cells.text.items)) l.reader;
  are_ends : AreEnds 0 l.cells.ends.items (length l.cells.text.items);
  count : length (fields_in l.cells.ends.items l.cells.text.items) ≡ l.rows * length l.columns;
  are_rows : list_all (is_row l.columns) (rows_of (length l.columns) l.rows (fields_in l.cells.ends.items l.cells.text.items)) ≡ true;
  long : length l.cells.text.items ≡ total_all (rows_of (length l.columns) l.rows (fields_in l.cells.ends.items l.cells.text.items));
  short : length l.cells.text.items ≤ 67108864;
}
