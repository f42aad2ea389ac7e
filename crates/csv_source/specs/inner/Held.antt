-- The rows that a table holds: the bytes of all fields in one text, and the place where each ends.
use Rattle.std.specs.Prelude.{◌≡◌, ◌≤◌, ℕ, ◌+◌, ◌-◌, zero, suc, true, List, [], ◌∷◌, None, length, map, take, drop}
use Rattle.std.specs.List.{list_all}
use Rattle.dap_types.specs.Limits.{most_columns, most_table}
use Rattle.dap_types.specs.declared.declarations.Column.{Column}
use Rattle.dap_types.specs.declared.values.Value.{Value}
use Rattle.csv_source.specs.Causes.{is_row, row_values}
use Rattle.csv_source.specs.Header.{repeated}

-- the fields that end at these places, the first of them beginning at `start`
unfoldable pub fields_from : ℕ → List ℕ → List ℕ → List (List ℕ)
fields_from start [] text = []
fields_from start (end ∷ ends) text = take (end - start) (drop start text) ∷ fields_from end ends text

abbrev pub fields_in : List ℕ → List ℕ → List (List ℕ)
fields_in ends text = fields_from 0 ends text

-- the places do not fall, and the last is that of the end
unfoldable pub AreEnds : ℕ → List ℕ → ℕ → Type 0
AreEnds start [] last = start ≡ last
AreEnds start (end ∷ ends) last = (start ≤ end) × AreEnds end ends last

-- where the field at a place begins
unfoldable pub begin_of : ℕ → List ℕ → ℕ → ℕ
begin_of start ends zero = start
begin_of start [] (suc at) = start
begin_of start (end ∷ ends) (suc at) = begin_of end ends at

-- so many rows of so many fields
unfoldable pub rows_of : ℕ → ℕ → List (List ℕ) → List (List (List ℕ))
rows_of width zero fields = []
rows_of width (suc n) fields = take width fields ∷ rows_of width n (drop width fields)

-- their values
unfoldable pub held_rows : List Column → ℕ → List (List ℕ) → List (List Value)
held_rows columns rows fields = map (row_values columns) (rows_of (length columns) rows fields)

-- the bytes of some fields, and of some records
unfoldable pub total : List (List ℕ) → ℕ
total [] = 0
total (field ∷ fields) = length field + total fields

unfoldable pub total_all : List (List (List ℕ)) → ℕ
total_all [] = 0
total_all (fields ∷ records) = total fields + total_all records

-- the names of the columns differ, and the text and the places are those of so many rows of them
pub record IsHeld (columns : List Column) (rows : ℕ) (ends text : List ℕ) : Type 0 where
  pub few : length columns ≤ most_columns
  pub once : repeated columns ≡ None
  pub are_rows : list_all (is_row columns) (rows_of (length columns) rows (fields_in ends text)) ≡ true
  pub are_ends : AreEnds 0 ends (length text)
  pub short : length text ≤ most_table
