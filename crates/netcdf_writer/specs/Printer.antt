-- The bytes of a header of a netCDF classic file, from the tree of its grammar (netCDF classic format
-- specification). Paddings are zero bytes.
use Rattle.std.specs.Prelude.{ℕ, List, ◌++◌, length}
use Rattle.std.specs.List.{flat_map}
use Rattle.dap_model.specs.Xdr.{word, zeros}
use Rattle.netcdf_source.specs.Grammar.{Listed, AttributeTree, VariableTree, HeaderTree}
use Rattle.netcdf_source.specs.Header.{magic}
use Rattle.netcdf_source.specs.Versions.{number_bytes, number_width, place_width}
use Rattle.netcdf_source.specs.declared.header.Dimension.{Dimension}
use Rattle.netcdf_source.specs.declared.version.Version.{Version}
use Rattle.netcdf_source.specs.declared.version.Width.{Width}

-- some bytes, and their padding
abbrev pub run_bytes : List ℕ → List ℕ
run_bytes bytes = bytes ++ zeros (length bytes)

unfoldable pub name_bytes : Width → List ℕ → List ℕ
name_bytes width name = number_bytes width (length name) ++ run_bytes name

-- a list: its tag, its count and its items
unfoldable pub list_bytes : {X : Type 0} → Width → (X → List ℕ) → Listed X → List ℕ
list_bytes width item l = word l.tag ++ number_bytes width (length l.items) ++ flat_map item l.items

unfoldable pub dimension_bytes : Width → Dimension → List ℕ
dimension_bytes width d = name_bytes width d.name ++ number_bytes width d.length

unfoldable pub attribute_bytes : Width → AttributeTree → List ℕ
attribute_bytes width a = name_bytes width a.name ++ word a.number ++ number_bytes width a.count ++ run_bytes a.values

unfoldable pub ids_bytes : Width → List ℕ → List ℕ
ids_bytes width ids = number_bytes width (length ids) ++ flat_map (number_bytes width) ids

unfoldable pub variable_bytes : Version → VariableTree → List ℕ
variable_bytes version v =
    name_bytes (number_width version) v.name ++ ids_bytes (number_width version) v.dimensions ++ list_bytes (number_width version) (attribute_bytes (number_width version)) v.attributes
    ++ word v.number ++ number_bytes (number_width version) v.size ++ number_bytes (place_width version) v.begin

unfoldable pub header_bytes : HeaderTree → List ℕ
header_bytes h =
    magic h.version ++ number_bytes (number_width h.version) h.records
    ++ list_bytes (number_width h.version) (dimension_bytes (number_width h.version)) h.dimensions
    ++ list_bytes (number_width h.version) (attribute_bytes (number_width h.version)) h.attributes
    ++ list_bytes (number_width h.version) (variable_bytes h.version) h.variables
