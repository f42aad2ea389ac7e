-- The values of a netCDF classic file (netCDF classic format, external types; DAP 2.0, base types and
-- constructor types): what the bytes of an element stand for, the values of a variable, and those of
-- the file's dataset.
use Rattle.std.specs.Prelude.{ℕ, ◌&&◌, List, [], ◌∷◌, length, map, filter, filter_map, ◌==◌, if◌then◌else◌}
use Rattle.std.specs.Fmt.{decimal, signed_decimal}
use Rattle.std.specs.Int.{w64, from_be_bytes, cast_signed}
use Rattle.dap_types.specs.Model.{Tree, many, trees_of}
use Rattle.dap_types.specs.declared.slabs.Layout.{Layout}
use Rattle.dap_types.specs.declared.values.Value.{Value}
use Rattle.dap_types.specs.declared.values.Value.TheVariants.{Text}
use Rattle.dap_model.specs.Indexing.{indexed_tree}
use Rattle.dap_model.specs.Raw as raw
use Rattle.netcdf_source.specs.Layouts.{slice, element_sizes, element_at, place}
use Rattle.netcdf_source.specs.Mapping.{base_of, is_offered, is_grid, coordinate_variable}
use Rattle.netcdf_source.specs.declared.external_type.ExternalType.{ExternalType}
use Rattle.netcdf_source.specs.declared.external_type.ExternalType.TheVariants.{Char, Int64, UInt64}
use Rattle.netcdf_source.specs.declared.header.Contents.{Contents}
use Rattle.netcdf_source.specs.declared.header.Variable.{Variable}

-- a text without the zero bytes at its end
abbrev pub without_zeros : List ℕ → List ℕ
without_zeros [] = []
without_zeros (b ∷ bytes) = if b == 0 && length (without_zeros bytes) == 0 then [] else b ∷ without_zeros bytes

-- the value of an external type that stands in some bytes: a number of 64 bits is a text of its decimal
-- digits
abbrev pub value_of : ExternalType → List ℕ → Value
value_of Char bytes = Text (without_zeros bytes)
value_of Int64 bytes = Text (signed_decimal (cast_signed w64 (from_be_bytes w64 bytes)))
value_of UInt64 bytes = Text (decimal (from_be_bytes w64 bytes))
value_of t bytes = raw.value_of (base_of t) bytes

-- the values of a variable: at each index that of its element
unfoldable pub tree_of : Contents → List ℕ → Variable → Tree
tree_of c file v = indexed_tree (element_sizes c v) (λ indexes. value_of v.external_type (element_at c file v indexes))

-- the values that stand at the places of a layout
abbrev pub placed_tree : Contents → List ℕ → Variable → Layout → Tree
placed_tree c file v l = indexed_tree (element_sizes c v) (λ indexes. value_of v.external_type (slice file (place l indexes) l.size))

-- the coordinate variables of some dimensions
abbrev pub map_variables : Contents → List ℕ → List Variable
map_variables c ids = filter_map (coordinate_variable c) ids

-- the values of what a variable becomes: a Grid has those of its array and of its maps
abbrev pub member_tree : Contents → List ℕ → Variable → Tree
member_tree c file v = if is_grid c v then many (trees_of (map (tree_of c file) (v ∷ map_variables c v.dimensions))) else tree_of c file v

-- the values of the dataset
abbrev pub file_trees : Contents → List ℕ → List Tree
file_trees c file = map (member_tree c file) (filter (is_offered c) c.variables)
