-- A table as a value: what a `Table` is seen as.
use Rattle.std.specs.Prelude.{ℕ, List, Option, slice_get, option_and_then}
use Rattle.dap_types.specs.declared.declarations.Column.{Column}
use Rattle.dap_types.specs.declared.values.Value.{Value}

-- the name of the file, the columns from left to right, and the rows in order, each with a value
-- for every column
pub record CsvTable : Type 0 where
  pub file_name : List ℕ
  pub columns : List Column
  pub rows : List (List Value)

abbrev pub table : List ℕ → List Column → List (List Value) → CsvTable
table file_name columns rows = record { file_name = file_name; columns = columns; rows = rows }

-- the value at a row and a column, both from 0
abbrev pub value_at : CsvTable → ℕ → ℕ → Option Value
value_at t row column = option_and_then (λ values. slice_get values column) (slice_get t.rows row)
