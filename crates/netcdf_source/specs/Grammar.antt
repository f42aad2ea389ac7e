-- The grammar of a netCDF classic header (netCDF classic format specification): a header as a tree
-- of names and numbers, its fields in order, and which field has a fault. The grammar takes any
-- numbers; the faults are the format's rules and this project's limits.
--
--   header  = magic numrecs dims attrs vars
--   dims    = tag count (name length)*
--   attrs   = tag count (name type count values)*
--   vars    = tag count (name rank dimid* attrs type vsize begin)*
--   name    = count bytes
--
-- A tag and a type have four bytes, the other numbers those of the version.
use Rattle.std.specs.Prelude.{ℕ, ◌+◌, ◌*◌, ◌^◌, Bool, ◌&&◌, ◌||◌, not, List, [], ◌∷◌, ◌++◌, length, map, ◌==◌, nat_lt, nat_le, if◌then◌else◌, Option, Some, None, unwrap_or, is_none}
use Rattle.std.specs.List.{list_any}
use Rattle.std.specs.Str.{bytes_eq}
use Rattle.dap_types.specs.Limits.{most_dimensions, most_name, most_variable}
use Rattle.netcdf_source.specs.Fields.{run, Fault, streaming, bad_if, Judged, judged, fine}
use Rattle.netcdf_source.specs.Parts.{length_at, part, is_record, share, shares}
use Rattle.netcdf_source.specs.Types.{size_of, type_numbered, type_of}
use Rattle.netcdf_source.specs.Versions.{number_width, place_width, bytes_in, largest, all_ones}
use Rattle.netcdf_source.specs.declared.external_type.ExternalType.{ExternalType}
use Rattle.netcdf_source.specs.declared.external_type.ExternalType.TheVariants.{Byte}
use Rattle.netcdf_source.specs.Attribute.{Attribute}
use Rattle.netcdf_source.specs.declared.header.Contents.{Contents}
use Rattle.netcdf_source.specs.declared.header.Dimension.{Dimension}
use Rattle.netcdf_source.specs.declared.header.Variable.{Variable}
use Rattle.netcdf_source.specs.declared.version.Version.{Version}
use Rattle.netcdf_source.specs.declared.version.Width.{Width}
use Rattle.netcdf_source.specs.declared.version.Width.TheVariants.{Four}

-- a list: its tag and its items
pub record Listed (X : Type 0) : Type 0 where
  pub tag : ℕ
  pub items : List X

pub record AttributeTree : Type 0 where
  pub name : List ℕ
  pub number : ℕ
  pub count : ℕ
  pub values : List ℕ

pub record VariableTree : Type 0 where
  pub name : List ℕ
  pub dimensions : List ℕ
  pub attributes : Listed AttributeTree
  pub number : ℕ
  -- vsize, which may be any number
  pub size : ℕ
  pub begin : ℕ

pub record HeaderTree : Type 0 where
  pub version : Version
  pub records : ℕ
  pub dimensions : Listed Dimension
  pub attributes : Listed AttributeTree
  pub variables : Listed VariableTree

-- ---- what a tree says

abbrev pub external_type : ℕ → ExternalType
external_type n = unwrap_or (type_numbered n) Byte

abbrev pub attribute : AttributeTree → Attribute
attribute a = record { name = a.name; external_type = external_type a.number; values = a.values }

abbrev pub variable : VariableTree → Variable
variable v = record { name = v.name; dimensions = v.dimensions; attributes = map attribute v.attributes.items; external_type = external_type v.number; begin = v.begin }

abbrev pub contents : HeaderTree → Contents
contents h = record { records = h.records; dimensions = h.dimensions.items; attributes = map attribute h.attributes.items; variables = map variable h.variables.items }

-- ---- faults

-- numrecs, which is all ones while the file is still written
unfoldable pub records_fault : Width → ℕ → Option Fault
records_fault width n = if n == all_ones width then Some streaming else bad_if (nat_lt (largest width) n) 0

-- the tag of an absent list is 0
unfoldable pub tag_fault : ℕ → ℕ → Option Fault
tag_fault tag n = bad_if (not (n == 0 || n == tag)) 0

unfoldable pub count_fault : ℕ → ℕ → Option Fault
count_fault tag n = bad_if (tag == 0 && not (n == 0)) 0

-- the length of a name
unfoldable pub name_fault : ℕ → Option Fault
name_fault n = bad_if (n == 0 || nat_lt most_name n) 0

-- a name that an earlier one is equal to is told at its length
unfoldable pub repeat_fault : Width → List (List ℕ) → List ℕ → Option Fault
repeat_fault width earlier name = bad_if (list_any (bytes_eq name) earlier) (bytes_in width)

-- the length of a dimension, behind a record dimension or not
unfoldable pub length_fault : Width → Bool → ℕ → Option Fault
length_fault width has_records n = bad_if (nat_lt (largest width) n || n == 0 && has_records) 0

unfoldable pub type_fault : Version → ℕ → Option Fault
type_fault version n = bad_if (is_none (type_of version n)) 0

-- a number that may be any
abbrev pub no_fault : ℕ → Option Fault
no_fault n = None

unfoldable pub rank_fault : ℕ → Option Fault
rank_fault n = bad_if (nat_lt most_dimensions n) 0

-- a dimension of a variable, which is its first or not: the record dimension is the first alone
unfoldable pub dimension_fault : List Dimension → Bool → ℕ → Option Fault
dimension_fault dims is_first n = bad_if (nat_le (length dims) n || not is_first && length_at dims n == 0) 0

-- a variable's bytes, and those of a record up to it
unfoldable pub part_fault : List Dimension → ℕ → List ℕ → ExternalType → Option Fault
part_fault dims sum ids kind = bad_if (nat_lt most_variable (part dims ids kind) || is_record dims ids && nat_lt most_variable (sum + share dims ids kind)) 0

-- a variable's vsize, which may be any number: at it the variable's bytes are judged
unfoldable pub size_fault : List Dimension → ℕ → List ℕ → ExternalType → ℕ → Option Fault
size_fault dims sum ids kind n = part_fault dims sum ids kind

unfoldable pub begin_fault : ℕ → Option Fault
begin_fault n = bad_if (nat_le (2 ^ 63) n) 0

-- ---- fields

-- fields of several kinds, one kind after the other
abbrev pub in_order : List (List Judged) → List Judged
in_order [] = []
in_order (fs ∷ more) = fs ++ in_order more

-- items in order, each judged by what stands before it
unfoldable pub in_turn : {T X : Type 0} → (List X → T → List Judged) → (T → X) → List X → List T → List Judged
in_turn fields says before [] = []
in_turn fields says before (t ∷ ts) = fields before t ++ in_turn fields says (before ++ says t ∷ []) ts

abbrev pub list_fields : {T X : Type 0} → Width → ℕ → (List X → T → List Judged) → (T → X) → Listed T → List Judged
list_fields width tag fields says l =
    judged Four (tag_fault tag) l.tag ∷ judged width (count_fault l.tag) (length l.items) ∷ in_turn fields says [] l.items

-- a name of an attribute, which may be that of another one
abbrev pub name_fields : Width → List ℕ → List Judged
name_fields width name = judged width name_fault (length name) ∷ fine (run (length name) name) ∷ []

abbrev pub new_name_fields : Width → List (List ℕ) → List ℕ → List Judged
new_name_fields width earlier name =
    judged width name_fault (length name) ∷ record { field = run (length name) name; fault = repeat_fault width earlier name } ∷ []

abbrev pub is_record_dimension : Dimension → Bool
is_record_dimension d = d.length == 0

unfoldable pub dimension_fields : Width → List Dimension → Dimension → List Judged
dimension_fields width before d = in_order (
    new_name_fields width (map (λ b. b.name) before) d.name
    ∷ (judged width (length_fault width (list_any is_record_dimension before)) d.length ∷ [])
    ∷ [])

unfoldable pub attribute_fields : Version → List Attribute → AttributeTree → List Judged
attribute_fields version before a = in_order (
    name_fields (number_width version) a.name
    ∷ (judged Four (type_fault version) a.number ∷ [])
    ∷ (judged (number_width version) no_fault a.count ∷ [])
    ∷ (fine (run (a.count * size_of (external_type a.number)) a.values) ∷ [])
    ∷ [])

unfoldable pub id_fields : Width → List Dimension → List ℕ → ℕ → List Judged
id_fields width dims before n = judged width (dimension_fault dims (length before == 0)) n ∷ []

unfoldable pub variable_fields : Version → List Dimension → List Variable → VariableTree → List Judged
variable_fields version dims before v = in_order (
    new_name_fields (number_width version) (map (λ b. b.name) before) v.name
    ∷ (judged (number_width version) rank_fault (length v.dimensions) ∷ in_turn (id_fields (number_width version) dims) (λ n. n) [] v.dimensions)
    ∷ list_fields (number_width version) 12 (attribute_fields version) attribute v.attributes
    ∷ (judged Four (type_fault version) v.number ∷ [])
    ∷ (judged (number_width version) (size_fault dims (shares dims before) v.dimensions (external_type v.number)) v.size ∷ [])
    ∷ (judged (place_width version) begin_fault v.begin ∷ [])
    ∷ [])

-- all that stands behind the magic
unfoldable pub header_fields : HeaderTree → List Judged
header_fields h = in_order (
    (judged (number_width h.version) (records_fault (number_width h.version)) h.records ∷ [])
    ∷ list_fields (number_width h.version) 10 (dimension_fields (number_width h.version)) (λ d. d) h.dimensions
    ∷ list_fields (number_width h.version) 12 (attribute_fields h.version) attribute h.attributes
    ∷ list_fields (number_width h.version) 11 (variable_fields h.version h.dimensions.items) variable h.variables
    ∷ [])
