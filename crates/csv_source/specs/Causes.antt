-- The table of a file, or the first thing that is wrong with it (RFC 4180 for the records; the typed
-- header and the limits are this project's). Rows and columns are numbered from 1.
use Rattle.std.specs.Prelude.{ℕ, ◌+◌, Bool, List, [], ◌∷◌, ◌==◌, nat_lt, length, map, if◌then◌else◌, Option, Some, None, option_map, Result, Ok, Err}
use Rattle.std.specs.Cmp.Lexicographic.{pointwise}
use Rattle.std.specs.Option.{option_or}
use Rattle.dap_types.specs.Limits.{most_columns, most_table}
use Rattle.dap_types.specs.declared.declarations.Column.{Column}
use Rattle.dap_types.specs.declared.values.Value.{Value}
use Rattle.csv_source.specs.Cells.{is_cell, cell_value}
use Rattle.csv_source.specs.Csv.{csv_records}
use Rattle.csv_source.specs.Header.{columns_of, repeated}
use Rattle.csv_source.specs.Table.{CsvTable, table}
use Rattle.csv_source.specs.declared.refusal.TableRefusal.{TableRefusal}
use Rattle.csv_source.specs.declared.refusal.TableRefusal.TheVariants.{TooLong, NoHeader, TooWide, RepeatedColumn, Ragged, BadCell}

-- a record with a cell for each column, and the values of its cells
unfoldable pub is_row : List Column → List (List ℕ) → Bool
is_row columns fields = pointwise (λ c field. is_cell c.base field) columns fields

unfoldable pub row_values : List Column → List (List ℕ) → List Value
row_values [] fields = []
row_values (c ∷ cs) [] = []
row_values (c ∷ cs) (field ∷ fields) = cell_value c.base field ∷ row_values cs fields

-- the number of the first column from this one on whose field is no cell of it
unfoldable pub bad_column : ℕ → List Column → List (List ℕ) → Option ℕ
bad_column number [] fields = None
bad_column number (c ∷ cs) [] = None
bad_column number (c ∷ cs) (field ∷ fields) = if is_cell c.base field then bad_column (number + 1) cs fields else Some number

-- what is wrong with the row of this number: how many fields it has, else its first bad cell
unfoldable pub row_cause : List Column → ℕ → List (List ℕ) → Option TableRefusal
row_cause columns row fields = if length fields == length columns then option_map (λ number. BadCell row number) (bad_column 1 columns fields) else Some (Ragged row)

-- what is wrong first with the rows from this number on
unfoldable pub rows_cause : List Column → ℕ → List (List (List ℕ)) → Option TableRefusal
rows_cause columns row [] = None
rows_cause columns row (fields ∷ rows) = option_or (row_cause columns row fields) (rows_cause columns (row + 1) rows)

-- what is wrong first with a header's columns and the rows behind it
abbrev pub table_cause : List Column → List (List (List ℕ)) → Option TableRefusal
table_cause columns rows = option_or (option_map (λ number. RepeatedColumn number) (repeated columns)) (rows_cause columns 1 rows)

-- where nothing is wrong, the value
abbrev pub ok_unless : Option TableRefusal → CsvTable → Result CsvTable TableRefusal
ok_unless (Some cause) t = Err cause
ok_unless None t = Ok t

-- the first record is the header, and the others are the rows
unfoldable pub table_of_records : List ℕ → List (List (List ℕ)) → Result CsvTable TableRefusal
table_of_records file_name [] = Err NoHeader
table_of_records file_name (header ∷ rows) =
    let columns : List Column = columns_of header in
    if nat_lt most_columns (length header) then Err TooWide else ok_unless (table_cause columns rows) (table file_name columns (map (row_values columns) rows))

-- the table of a file of at most 67,108,864 bytes, or its first cause
unfoldable pub table_of : List ℕ → List ℕ → Result CsvTable TableRefusal
table_of file_name bytes = if nat_lt most_table (length bytes) then Err TooLong else table_of_records file_name (csv_records bytes)
