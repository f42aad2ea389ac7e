-- The variables that a dataset is stored as (DAP 2.0, Grid; netCDF classic format, coordinate variables;
-- which member becomes what is this project's).
use Rattle.std.specs.Prelude.{ℕ, ◌*◌, Bool, true, false, ◌&&◌, not, List, [], ◌∷◌, ◌++◌, map, filter, drop, find, sum_by, ◌==◌, Option, is_some, if◌then◌else◌}
use Rattle.std.specs.Cmp.Lexicographic.{pointwise}
use Rattle.std.specs.List.{flat_map, list_any}
use Rattle.std.specs.Option.{option_map_or}
use Rattle.std.specs.Ordering.{int_eq}
use Rattle.std.specs.Str.{bytes_eq}
use Rattle.dap_types.specs.Model.{Member, scalar, array, structure, grid, sequence, Members, no_members, member, Dataset, Tree, one, kids, name_of, product}
use Rattle.dap_types.specs.declared.declarations.ArrayDecl.{ArrayDecl}
use Rattle.dap_types.specs.declared.declarations.BaseType.{BaseType}
use Rattle.dap_types.specs.declared.declarations.BaseType.TheVariants.{Byte, Int16, UInt16, Int32, UInt32, Float32, Float64, Text, Url}
use Rattle.dap_types.specs.declared.declarations.Dim.{Dim}
use Rattle.dap_types.specs.declared.values.Value.{Value}
use Rattle.dap_types.specs.declared.values.Value.TheVariants as values
use Rattle.dap_model.specs.Xdr.{padded}
use Rattle.netcdf_source.specs.Parts.{inner}

-- a variable and its values; a scalar has no dimensions
pub record Variable : Type 0 where
  pub name : List ℕ
  pub base : BaseType
  pub dims : List Dim
  pub tree : Tree

-- the top members of a dataset, each with its values
abbrev pub Top : Type 0
Top = Member × Tree

abbrev pub tops_of : Members → List Tree → List Top
tops_of no_members ts = []
tops_of (member m ms) [] = []
tops_of (member m ms) (t ∷ ts) = (m, t) ∷ tops_of ms ts

-- ---- what a top member is stored as

abbrev pub array_variable : ArrayDecl → Tree → Variable
array_variable a t = record { name = a.name; base = a.base; dims = a.dims; tree = t }

-- arrays, each with its values
abbrev pub array_variables : List ArrayDecl → List Tree → List Variable
array_variables [] ts = []
array_variables (a ∷ arrays) [] = []
array_variables (a ∷ arrays) (t ∷ ts) = array_variable a t ∷ array_variables arrays ts

-- a scalar or an array itself, and the array of a Grid
unfoldable pub own : Top → List Variable
own (scalar c, t) = record { name = c.name; base = c.base; dims = []; tree = t } ∷ []
own (array a, t) = array_variable a t ∷ []
own (grid name a maps, t) = array_variables (a ∷ []) (kids t)
own (structure name parts, t) = []
own (sequence name columns, t) = []

-- the maps of a Grid
unfoldable pub maps_of : Top → List Variable
maps_of (grid name a maps, t) = array_variables maps (drop 1 (kids t))
maps_of (scalar c, t) = []
maps_of (array a, t) = []
maps_of (structure name parts, t) = []
maps_of (sequence name columns, t) = []

abbrev pub all_maps : List Top → List Variable
all_maps tops = flat_map maps_of tops

-- ---- which maps are stored once for several Grids

abbrev pub has_name : List ℕ → Variable → Bool
has_name name v = bytes_eq name v.name

-- the top member of a name
abbrev pub top_named : List ℕ → List Top → Option Top
top_named name tops = find (λ top. bytes_eq name (name_of top.0)) tops

abbrev pub is_array : Top → Bool
is_array (array a, t) = true
is_array top = false

-- a map is stored but where a top array or an earlier map has its name
unfoldable pub is_new : List Top → List Top → Variable → Bool
is_new all earlier v = not (option_map_or is_array (top_named v.name all) false) && not (is_some (find (has_name v.name) (all_maps earlier)))

-- the variables of a top member: those of its maps that are stored, and itself
unfoldable pub stored : List Top → List Top → Top → List Variable
stored all earlier top = filter (is_new all earlier) (maps_of top) ++ own top

-- those of some top members behind earlier ones
unfoldable pub stored_from : List Top → List Top → List Top → List Variable
stored_from all earlier [] = []
stored_from all earlier (top ∷ tops) = stored all earlier top ++ stored_from all (earlier ++ top ∷ []) tops

-- the variables of a dataset
abbrev pub variables : Dataset → List Tree → List Variable
variables d ts = let tops = tops_of d.members ts in stored_from tops [] tops

-- ---- dimensions

abbrev pub dim_name : Dim → List ℕ
dim_name d = option_map_or (λ n. n) d.name []

abbrev pub is_named : List ℕ → Dim → Bool
is_named name d = bytes_eq name (dim_name d)

abbrev pub all_dims : List Variable → List Dim
all_dims vs = flat_map (λ v. v.dims) vs

-- dimensions in the order of their first use
unfoldable pub first_uses : List Dim → List Dim → List Dim
first_uses earlier [] = []
first_uses earlier (d ∷ ds) = (if is_some (find (is_named (dim_name d)) earlier) then [] else d ∷ []) ++ first_uses (earlier ++ d ∷ []) ds

abbrev pub dims_of : List Variable → List Dim
dims_of vs = first_uses [] (all_dims vs)

abbrev pub sizes_of : Variable → List ℕ
sizes_of v = map (λ d. d.size) v.dims

abbrev pub is_empty_dim : Dim → Bool
is_empty_dim d = d.size == 0

-- a variable over a dimension of size 0, which becomes the record dimension
abbrev pub is_record : Variable → Bool
is_record v = list_any is_empty_dim v.dims

abbrev pub is_fixed : Variable → Bool
is_fixed v = not (is_record v)

-- ---- bytes

-- the bytes of a value in a netCDF file (netCDF classic format, nc_type)
abbrev pub width_of : BaseType → ℕ
width_of Byte = 1
width_of Int16 = 2
width_of UInt16 = 2
width_of Int32 = 4
width_of UInt32 = 4
width_of Float32 = 4
width_of Float64 = 8
width_of Text = 1
width_of Url = 1

-- the bytes of all values, or of those of one record, and the same up to a multiple of four
unfoldable pub part : Variable → ℕ
part v = product (inner (sizes_of v)) * width_of v.base

abbrev pub room : Variable → ℕ
room v = padded (part v)

abbrev pub room_in_record : Variable → ℕ
room_in_record v = if is_record v then room v else 0

abbrev pub room_by_itself : Variable → ℕ
room_by_itself v = if is_record v then 0 else room v

abbrev pub record_bytes : List Variable → ℕ
record_bytes vs = sum_by room_in_record vs

abbrev pub fixed_bytes : List Variable → ℕ
fixed_bytes vs = sum_by room_by_itself vs

-- ---- the same variable once more

abbrev pub same_base : BaseType → BaseType → Bool
same_base Byte Byte = true
same_base Int16 Int16 = true
same_base UInt16 UInt16 = true
same_base Int32 Int32 = true
same_base UInt32 UInt32 = true
same_base Float32 Float32 = true
same_base Float64 Float64 = true
same_base Text Text = true
same_base Url Url = true
same_base a b = false

abbrev pub same_dim : Dim → Dim → Bool
same_dim d e = d.size == e.size && bytes_eq (dim_name d) (dim_name e)

abbrev pub same_value : Value → Value → Bool
same_value (values.Whole y) (values.Whole z) = int_eq y z
same_value (values.Text a) (values.Text b) = bytes_eq a b
same_value (values.Bits32 m) (values.Bits32 n) = m == n
same_value (values.Bits64 m) (values.Bits64 n) = m == n
same_value v w = false

abbrev pub same_element : Tree → Tree → Bool
same_element (one v) (one w) = same_value v w
same_element t u = false

-- the same type, dimensions and values, for variables of one dimension
unfoldable pub is_same : Variable → Variable → Bool
is_same v w = same_base v.base w.base && pointwise same_dim v.dims w.dims && pointwise same_element (kids v.tree) (kids w.tree)
