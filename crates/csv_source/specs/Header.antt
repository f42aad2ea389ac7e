-- The columns that the fields of a header name: NAME:TYPE, or NAME alone for a String (this project's).
use Rattle.std.specs.Prelude.{ℕ, ◌+◌, List, [], ◌∷◌, ◌++◌, ◌==◌, length, codes, if◌then◌else◌, Option, Some, None}
use Rattle.std.specs.Fmt.{decimal}
use Rattle.std.specs.List.{list_any}
use Rattle.std.specs.Str.{bytes_eq}
use Rattle.dap_model.specs.Dds.{type_word}
use Rattle.dap_types.specs.Names.{file_id}
use Rattle.dap_types.specs.declared.declarations.BaseType.{BaseType}
use Rattle.dap_types.specs.declared.declarations.BaseType.TheVariants.{Byte, Int16, UInt16, Int32, UInt32, Float32, Float64, Text, Url}
use Rattle.dap_types.specs.declared.declarations.Column.{Column}
use Rattle.csv_source.specs.Names.{has_suffix, before_suffix}

-- `:` and the word for a type
abbrev pub type_mark : BaseType → List ℕ
type_mark base = codes ":" ++ type_word base

-- the name and the type of a field that ends with the mark of one of these types, else of a String
unfoldable pub typed_by : List BaseType → List ℕ → List ℕ × BaseType
typed_by [] field = (field, Text)
typed_by (base ∷ bases) field = if has_suffix (type_mark base) field then (before_suffix (type_mark base) field, base) else typed_by bases field

abbrev pub all_types : List BaseType
all_types = Byte ∷ Int16 ∷ UInt16 ∷ Int32 ∷ UInt32 ∷ Float32 ∷ Float64 ∷ Text ∷ Url ∷ []

abbrev pub typed : List ℕ → List ℕ × BaseType
typed field = typed_by all_types field

-- an empty name is that of the column's number
unfoldable pub column_name : ℕ → List ℕ → List ℕ
column_name number name = if length name == 0 then codes "column" ++ decimal number else name

abbrev pub column : List ℕ → BaseType → Column
column name base = record { name = name; base = base }

-- the column with this number that a field names
unfoldable pub column_of : ℕ → List ℕ → Column
column_of number field = column (file_id (column_name number (typed field).0)) (typed field).1

-- the columns from this number on, and all of them
unfoldable pub columns_from : ℕ → List (List ℕ) → List Column
columns_from number [] = []
columns_from number (field ∷ fields) = column_of number field ∷ columns_from (number + 1) fields

abbrev pub columns_of : List (List ℕ) → List Column
columns_of header = columns_from 1 header

-- the number of the first column with the name of an earlier one
unfoldable pub repeated_from : ℕ → List (List ℕ) → List Column → Option ℕ
repeated_from number earlier [] = None
repeated_from number earlier (c ∷ columns) = if list_any (bytes_eq c.name) earlier then Some number else repeated_from (number + 1) (earlier ++ c.name ∷ []) columns

abbrev pub repeated : List Column → Option ℕ
repeated columns = repeated_from 1 [] columns
