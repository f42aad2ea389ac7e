-- The netCDF classic file of some variables (netCDF classic format specification). A dimension of size 0
-- becomes the record dimension of a file without records.
use Rattle.std.specs.Prelude.{ℕ, ℤ, ◌+◌, Bool, true, false, List, [], ◌∷◌, ◌++◌, length, map, drop, filter, nat_lt, ◌==◌, if◌then◌else◌}
use Rattle.std.specs.Int.{w32, w64, to_be_bytes, cast_unsigned}
use Rattle.std.specs.List.{flat_map, list_any, position_from}
use Rattle.std.specs.Option.{option_map_or}
use Rattle.dap_types.specs.Limits.{most_header}
use Rattle.dap_types.specs.declared.declarations.BaseType.{BaseType}
use Rattle.dap_types.specs.declared.declarations.BaseType.TheVariants.{Byte, Int16, UInt16, Int32, UInt32, Float32, Float64, Text, Url}
use Rattle.dap_types.specs.declared.declarations.Dim.{Dim}
use Rattle.dap_types.specs.declared.values.Value.{Value}
use Rattle.dap_types.specs.declared.values.Value.TheVariants as values
use Rattle.dap_model.specs.Fits.{values_in}
use Rattle.dap_model.specs.Xdr.{zeros}
use Rattle.netcdf_source.specs.Grammar.{Listed, VariableTree, HeaderTree}
use Rattle.netcdf_source.specs.declared.header.Dimension.{Dimension}
use Rattle.netcdf_source.specs.declared.version.Version.{Version}
use Rattle.netcdf_source.specs.declared.version.Version.TheVariants.{One, Five}
use Rattle.netcdf_writer.specs.Names.{file_name}
use Rattle.netcdf_writer.specs.Printer.{header_bytes}
use Rattle.netcdf_writer.specs.Variables.{Variable, dim_name, is_named, dims_of, is_record, is_fixed, room, record_bytes, fixed_bytes}

-- ---- the header

-- the number of a type (netCDF classic format, nc_type)
abbrev pub type_number : BaseType → ℕ
type_number Byte = 1
type_number Int16 = 3
type_number Int32 = 4
type_number Float32 = 5
type_number Float64 = 6
type_number UInt16 = 8
type_number UInt32 = 9
type_number Text = 2
type_number Url = 2

-- types that version 5 alone has
abbrev pub is_unsigned : BaseType → Bool
is_unsigned UInt16 = true
is_unsigned UInt32 = true
is_unsigned base = false

unfoldable pub is_five : List Variable → Bool
is_five vs = list_any (λ v. is_unsigned v.base) vs

abbrev pub version_if : Bool → Version
version_if true = Five
version_if false = One

abbrev pub version_of : List Variable → Version
version_of vs = version_if (is_five vs)

-- a list, or an absent one
unfoldable pub listed : {X : Type 0} → ℕ → List X → Listed X
listed tag xs = record { tag = if length xs == 0 then 0 else tag; items = xs }

abbrev pub absent : {X : Type 0} → Listed X
absent = record { tag = 0; items = [] }

abbrev pub dimension : Dim → Dimension
dimension d = record { name = file_name (dim_name d); length = d.size }

-- the number of a dimension among those of the file, from 0
abbrev pub id_of : List Dim → Dim → ℕ
id_of dims d = option_map_or (λ i. i) (position_from (is_named (dim_name d)) 0 dims) 0

-- where a variable begins, behind so many bytes and these variables: those without the record dimension come first
unfoldable pub begin : ℕ → List Variable → List Variable → Variable → ℕ
begin front all earlier v = if is_record v then front + fixed_bytes all + record_bytes earlier else front + fixed_bytes earlier

unfoldable pub variable_tree : ℕ → List Variable → List Variable → Variable → VariableTree
variable_tree front all earlier v = record {
  name = file_name v.name;
  dimensions = map (id_of (dims_of all)) v.dims;
  attributes = absent;
  number = type_number v.base;
  size = room v;
  begin = begin front all earlier v;
}

-- variables behind earlier ones
unfoldable pub variable_trees : ℕ → List Variable → List Variable → List Variable → List VariableTree
variable_trees front all earlier [] = []
variable_trees front all earlier (v ∷ vs) = variable_tree front all earlier v ∷ variable_trees front all (earlier ++ v ∷ []) vs

-- the header of a file whose values begin behind so many bytes
unfoldable pub header_tree : ℕ → List Variable → HeaderTree
header_tree front vs = record {
  version = version_of vs;
  records = 0;
  dimensions = listed 10 (map dimension (dims_of vs));
  attributes = absent;
  variables = listed 11 (variable_trees front vs [] vs);
}

-- its length, wherever the values begin
unfoldable pub header_length : List Variable → ℕ
header_length vs = length (header_bytes (header_tree 0 vs))

unfoldable pub is_header_too_long : List Variable → Bool
is_header_too_long vs = nat_lt most_header (header_length vs)

-- ---- the values

-- whole numbers in two's complement, the high byte first: the low bytes of eight, as many as their type has
abbrev pub whole_bytes : BaseType → ℤ → List ℕ
whole_bytes Byte z = drop 7 (to_be_bytes w64 (cast_unsigned w64 z))
whole_bytes Int16 z = drop 6 (to_be_bytes w64 (cast_unsigned w64 z))
whole_bytes UInt16 z = drop 6 (to_be_bytes w64 (cast_unsigned w64 z))
whole_bytes base z = drop 4 (to_be_bytes w64 (cast_unsigned w64 z))

abbrev pub value_bytes : BaseType → Value → List ℕ
value_bytes base (values.Whole z) = whole_bytes base z
value_bytes base (values.Bits32 n) = to_be_bytes w32 n
value_bytes base (values.Bits64 n) = to_be_bytes w64 n
value_bytes base (values.Text bytes) = []

-- the values of a variable in row-major order
unfoldable pub values_bytes : BaseType → List Value → List ℕ
values_bytes base vs = flat_map (value_bytes base) vs

-- and zero bytes up to a multiple of four
unfoldable pub part_bytes : Variable → List ℕ
part_bytes v = values_bytes v.base (values_in v.tree) ++ zeros (length (values_bytes v.base (values_in v.tree)))

unfoldable pub data_bytes : List Variable → List ℕ
data_bytes vs = flat_map part_bytes (filter is_fixed vs)

-- ---- the file

unfoldable pub cdf : List Variable → List ℕ
cdf vs = header_bytes (header_tree (header_length vs) vs) ++ data_bytes vs
