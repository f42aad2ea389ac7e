-- The dataset of a netCDF classic file: which variables are offered, and what each becomes (DAP 2.0,
-- DDS; the mapping is this project's).
use Rattle.std.specs.Prelude.{◌≡◌, ℕ, ◌+◌, ◌-◌, Bool, true, false, ◌&&◌, not, List, [], ◌∷◌, ◌++◌, length, map, filter, filter_map, take, ◌==◌, nat_lt, nat_le, if◌then◌else◌, Option, Some, None, is_some, is_none, option_map, option_and_then, slice_get, slice_index}
use Rattle.std.specs.List.{list_all, list_any, position_from}
use Rattle.std.specs.Option.{option_map_or}
use Rattle.std.specs.Str.{bytes_eq}
use Rattle.dap_types.specs.Limits.{most_elements, most_piece}
use Rattle.dap_types.specs.Model.{Member, scalar, array, grid, Dataset, members_of}
use Rattle.dap_types.specs.Names.{file_id}
use Rattle.dap_types.specs.declared.declarations.ArrayDecl.{ArrayDecl}
use Rattle.dap_types.specs.declared.declarations.BaseType.{BaseType}
use Rattle.dap_types.specs.declared.declarations.BaseType.TheVariants as base
use Rattle.dap_types.specs.declared.declarations.Column.{Column}
use Rattle.dap_types.specs.declared.declarations.Dim.{Dim}
use Rattle.file_names.specs.Names.{dataset_name}
use Rattle.netcdf_source.specs.Grammar.{is_record_dimension}
use Rattle.netcdf_source.specs.Parts.{length_at, lengths, is_record}
use Rattle.netcdf_source.specs.Types.{size_of}
use Rattle.netcdf_source.specs.declared.external_type.ExternalType.{ExternalType}
use Rattle.netcdf_source.specs.declared.external_type.ExternalType.TheVariants.{Byte, Char, Short, Int, Float, Double, UByte, UShort, UInt, Int64, UInt64}
use Rattle.netcdf_source.specs.declared.header.Contents.{Contents}
use Rattle.netcdf_source.specs.declared.header.Variable.{Variable}

-- ---- dimensions and types

-- the record dimension has as many indexes as there are records
abbrev pub size_at : Contents → ℕ → ℕ
size_at c i = if length_at c.dimensions i == 0 then c.records else length_at c.dimensions i

unfoldable pub name_at : Contents → ℕ → List ℕ
name_at c i = option_map_or (λ d. d.name) (slice_get c.dimensions i) []

-- the names of all dimensions as those of variables
abbrev pub dimension_ids : Contents → List (List ℕ)
dimension_ids c = map (λ d. file_id d.name) c.dimensions

-- the DAP type of values; numbers of 64 bits have none, and are no more than texts
abbrev pub base_of : ExternalType → BaseType
base_of Byte = base.Byte
base_of Char = base.Text
base_of Short = base.Int16
base_of Int = base.Int32
base_of Float = base.Float32
base_of Double = base.Float64
base_of UByte = base.Byte
base_of UShort = base.UInt16
base_of UInt = base.UInt32
base_of Int64 = base.Text
base_of UInt64 = base.Text

-- whole numbers of 64 bits, which DAP 2.0 does not have
abbrev pub is_long : ExternalType → Bool
is_long Int64 = true
is_long UInt64 = true
is_long t = false

abbrev pub is_char_type : ExternalType → Bool
is_char_type Char = true
is_char_type t = false

abbrev pub is_char : Variable → Bool
is_char v = is_char_type v.external_type

-- ---- texts

-- a char variable without dimensions, or over the record dimension alone, has texts of one byte
abbrev pub has_single_bytes : List ℕ → Bool
has_single_bytes [] = true
has_single_bytes (n ∷ []) = n == 0
has_single_bytes (n ∷ m ∷ ns) = false

-- the last dimension of any other char variable is that of the bytes of its texts
unfoldable pub has_texts : Contents → Variable → Bool
has_texts c v = is_char v && not (has_single_bytes (lengths c.dimensions v.dimensions))

-- the dimensions of a variable's elements
unfoldable pub element_dimensions : Contents → Variable → List ℕ
element_dimensions c v = if has_texts c v then take (length v.dimensions - 1) v.dimensions else v.dimensions

-- the bytes of an element
unfoldable pub element_size : Contents → Variable → ℕ
element_size c v = if has_texts c v then length_at c.dimensions (slice_index v.dimensions (length v.dimensions - 1)) else size_of v.external_type

-- the sizes of these dimensions are Int32, as those of an array
unfoldable pub are_small : Contents → List ℕ → Bool
are_small c ids = list_all (λ i. nat_le (size_at c i) most_elements) ids

-- a variable is offered where its type is one of DAP 2.0, its sizes are those of an array, and its
-- texts have at most 65,536 bytes
unfoldable pub is_offered : Contents → Variable → Bool
is_offered c v = not (is_long v.external_type) && are_small c v.dimensions && not (nat_lt most_piece (element_size c v))

-- ---- coordinate variables and Grids

-- the dimension that a variable is the coordinate variable of: it is offered and not char, has that
-- dimension alone, and its name
abbrev pub has_dimension_name : Contents → ℕ → Variable → Bool
has_dimension_name c i v = option_map_or (λ d. is_offered c v && not (is_char v) && bytes_eq v.name d.name) (slice_get c.dimensions i) false

abbrev pub own_dimension_in : Contents → Variable → List ℕ → Option ℕ
own_dimension_in c v [] = None
own_dimension_in c v (i ∷ []) = if has_dimension_name c i v then Some i else None
own_dimension_in c v (i ∷ j ∷ js) = None

unfoldable pub own_dimension : Contents → Variable → Option ℕ
own_dimension c v = own_dimension_in c v v.dimensions

abbrev pub is_coordinate_of : Contents → ℕ → Variable → Bool
is_coordinate_of c i v = option_map_or (λ j. j == i) (own_dimension c v) false

-- the place of a dimension's coordinate variable among the variables, from 0
unfoldable pub coordinate_at : Contents → ℕ → Option ℕ
coordinate_at c i = position_from (is_coordinate_of c i) 0 c.variables

unfoldable pub differ : List ℕ → Bool
differ [] = true
differ (i ∷ is) = not (list_any (λ j. j == i) is) && differ is

abbrev pub is_empty : List ℕ → Bool
is_empty ids = length ids == 0

-- an offered variable is a Grid where its dimensions differ, and each has a coordinate variable
-- (DAP 2.0, Grid)
unfoldable pub is_grid : Contents → Variable → Bool
is_grid c v =
    not (is_char v) && is_none (own_dimension c v) && not (is_empty v.dimensions) && differ v.dimensions
    && list_all (λ i. is_some (coordinate_at c i)) v.dimensions

-- ---- declarations

abbrev pub dim_of : Contents → ℕ → Dim
dim_of c i = record { name = Some (file_id (name_at c i)); size = size_at c i }

abbrev pub column_of : Variable → Column
column_of v = record { name = file_id v.name; base = base_of v.external_type }

abbrev pub array_of : Contents → Variable → ArrayDecl
array_of c v = record { name = file_id v.name; base = base_of v.external_type; dims = map (dim_of c) (element_dimensions c v) }

-- the coordinate variables of some dimensions
abbrev pub coordinate_variable : Contents → ℕ → Option Variable
coordinate_variable c i = option_and_then (slice_get c.variables) (coordinate_at c i)

abbrev pub maps_of : Contents → List ℕ → List ArrayDecl
maps_of c ids = filter_map (λ i. option_map (array_of c) (coordinate_variable c i)) ids

unfoldable pub member_of : Contents → Variable → Member
member_of c v =
    if is_empty (element_dimensions c v) then scalar (column_of v)
    else if is_grid c v then grid (file_id v.name) (array_of c v) (maps_of c v.dimensions)
    else array (array_of c v)

-- the dataset of a file with that name
abbrev pub dataset_of : Contents → List ℕ → Dataset
dataset_of c file_name = record { name = dataset_name file_name; members = members_of (map (member_of c) (filter (is_offered c) c.variables)) }

-- ---- the variable of a member

-- a Grid is no leaf; its array and its maps are
abbrev pub leaves_of : Contents → ℕ → Variable → List (Option ℕ)
leaves_of c k v = if is_grid c v then None ∷ Some k ∷ map (coordinate_at c) v.dimensions else Some k ∷ []

-- the places of the variables of all members in preorder, none for a Grid
unfoldable pub leaves_from : Contents → ℕ → List Variable → List (Option ℕ)
leaves_from c k [] = []
leaves_from c k (v ∷ vs) = (if is_offered c v then leaves_of c k v else []) ++ leaves_from c (k + 1) vs

-- the place of the variable of member number n, from 1
abbrev pub leaf_in : List (Option ℕ) → ℕ → Option ℕ
leaf_in leaves n = if n == 0 then None else option_and_then (λ leaf. leaf) (slice_get leaves (n - 1))

-- the variable of the leaf with that number as a member: none where that member is no leaf
unfoldable pub leaf_variable : Contents → ℕ → Option Variable
leaf_variable c n = option_and_then (slice_get c.variables) (leaf_in (leaves_from c 0 c.variables) n)

-- ---- files that are joined along the record dimension

abbrev pub has_record_dimension : Contents → Bool
has_record_dimension c = list_any is_record_dimension c.dimensions

-- the number of records, where there is a record dimension
abbrev pub records_of : Contents → Option ℕ
records_of c = if has_record_dimension c then Some c.records else None

-- what a header says, with another number of records
abbrev pub with_records : ℕ → Contents → Contents
with_records records c = record { records = records; dimensions = c.dimensions; attributes = c.attributes; variables = c.variables }

-- the first dimension of a variable is the record dimension
abbrev pub is_over_records : Contents → Variable → Bool
is_over_records c v = is_record c.dimensions v.dimensions

-- a variable without its attributes and its place
pub record VariableShape : Type 0 where
  pub name : List ℕ
  pub external_type : ExternalType
  pub dimensions : List ℕ

abbrev pub shape_of : Variable → VariableShape
shape_of v = record { name = v.name; external_type = v.external_type; dimensions = v.dimensions }

-- equal lists of dimensions, each with its name and length, and of variables, each with its name,
-- type and dimensions
pub record HaveSameShape (c d : Contents) : Type 0 where
  pub dimensions : c.dimensions ≡ d.dimensions
  pub variables : map shape_of c.variables ≡ map shape_of d.variables
