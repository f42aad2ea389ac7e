-- The table of a file and its first cause in the words of a reader: what stands in front of the
-- first thing that is wrong is right.
use Rattle.std.specs.Prelude.{◌≡◌, ◌≢◌, ◌≤◌, ◌<◌, ◌+◌, ℕ, true, false, List, [], ◌∷◌, ◌++◌, length, map, take, Some, slice_get}
use Rattle.std.specs.List.{IsDistinct, list_all, list_any}
use Rattle.std.specs.Str.{bytes_eq}
use Rattle.dap_types.specs.Limits.{most_columns, most_table}
use Rattle.dap_types.specs.declared.declarations.Column.{Column}
use Rattle.csv_source.specs.Causes.{is_row, row_values}
use Rattle.csv_source.specs.Cells.{is_cell}
use Rattle.csv_source.specs.Csv.{csv_records}
use Rattle.csv_source.specs.Header.{columns_of}
use Rattle.csv_source.specs.Table.{CsvTable, table}
use Rattle.csv_source.specs.declared.refusal.TableRefusal.{TableRefusal}
use Rattle.csv_source.specs.declared.refusal.TableRefusal.TheVariants.{TooLong, NoHeader, TooWide, RepeatedColumn, Ragged, BadCell, Memory}

-- the file is not too long, and its records are a header and these behind it
pub record Begins (bytes : List ℕ) (header : List (List ℕ)) (rows : List (List (List ℕ))) : Type 0 where
  pub short : length bytes ≤ most_table
  pub parts : csv_records bytes ≡ header ∷ rows

abbrev pub names : List Column → List (List ℕ)
names columns = map (λ c. c.name) columns

-- a header of at most 1,024 columns whose names differ
pub record IsHeader (header : List (List ℕ)) : Type 0 where
  pub few : length header ≤ most_columns
  pub differ : IsDistinct bytes_eq (names (columns_of header))

-- this column has the name of one before it, and the names of those differ
pub record IsFirstRepeat (columns : List Column) (number : ℕ) : Type 0 where
  pub before : List Column
  pub column : Column
  pub after : List Column
  pub parts : columns ≡ before ++ column ∷ after
  pub count : number ≡ length before + 1
  pub differ : IsDistinct bytes_eq (names before)
  pub again : list_any (bytes_eq column.name) (names before) ≡ true

-- the field of this column is no cell of it, and those before it are cells of theirs
pub record IsFirstBadCell (columns : List Column) (fields : List (List ℕ)) (number : ℕ) : Type 0 where
  pub at : ℕ
  pub column : Column
  pub field : List ℕ
  pub count : number ≡ at + 1
  pub column_is : slice_get columns at ≡ Some column
  pub field_is : slice_get fields at ≡ Some field
  pub bad : is_cell column.base field ≡ false
  pub good : is_row (take at columns) (take at fields) ≡ true

-- what is wrong with the row of this number
abbrev pub IsRowCause : List Column → ℕ → List (List ℕ) → TableRefusal → Type 0
IsRowCause columns row fields (Ragged r) = (r ≡ row) × (length fields ≢ length columns)
IsRowCause columns row fields (BadCell r number) = (r ≡ row) × (length fields ≡ length columns) × IsFirstBadCell columns fields number
IsRowCause columns row fields TooLong = ⊥
IsRowCause columns row fields NoHeader = ⊥
IsRowCause columns row fields TooWide = ⊥
IsRowCause columns row fields (RepeatedColumn number) = ⊥
IsRowCause columns row fields Memory = ⊥

-- this is wrong with a row, and those before it are rows
pub record IsFirstBadRow (columns : List Column) (rows : List (List (List ℕ))) (cause : TableRefusal) : Type 0 where
  pub before : List (List (List ℕ))
  pub fields : List (List ℕ)
  pub after : List (List (List ℕ))
  pub parts : rows ≡ before ++ fields ∷ after
  pub good : list_all (is_row columns) before ≡ true
  pub bad : IsRowCause columns (length before + 1) fields cause

-- this is wrong first
abbrev pub IsFirstCause : List ℕ → TableRefusal → Type 0
IsFirstCause bytes TooLong = most_table < length bytes
IsFirstCause bytes NoHeader = (length bytes ≤ most_table) × (csv_records bytes ≡ [])
IsFirstCause bytes TooWide = (header : List (List ℕ)) × (rows : List (List (List ℕ))) × Begins bytes header rows × (most_columns < length header)
IsFirstCause bytes (RepeatedColumn number) = (header : List (List ℕ)) × (rows : List (List (List ℕ))) × Begins bytes header rows × (length header ≤ most_columns) × IsFirstRepeat (columns_of header) number
IsFirstCause bytes (Ragged row) = (header : List (List ℕ)) × (rows : List (List (List ℕ))) × Begins bytes header rows × IsHeader header × IsFirstBadRow (columns_of header) rows (Ragged row)
IsFirstCause bytes (BadCell row number) = (header : List (List ℕ)) × (rows : List (List (List ℕ))) × Begins bytes header rows × IsHeader header × IsFirstBadRow (columns_of header) rows (BadCell row number)
IsFirstCause bytes Memory = ⊥

-- nothing is wrong, and this is the table
pub record IsTableOf (file_name bytes : List ℕ) (t : CsvTable) : Type 0 where
  pub header : List (List ℕ)
  pub rows : List (List (List ℕ))
  pub begins : Begins bytes header rows
  pub is_header : IsHeader header
  pub are_rows : list_all (is_row (columns_of header)) rows ≡ true
  pub is_table : t ≡ table file_name (columns_of header) (map (row_values (columns_of header)) rows)
