-- How many bytes a variable has, and where they stand (netCDF classic format, "Computing file offsets").
use Rattle.std.specs.Prelude.{ℕ, ◌+◌, ◌-◌, ◌*◌, Bool, false, ◌&&◌, not, List, [], ◌∷◌, map, sum_by, ◌==◌, nat_lt, if◌then◌else◌, Option, slice_get}
use Rattle.std.specs.List.{position_from}
use Rattle.std.specs.Option.{option_map_or}
use Rattle.dap_types.specs.Model.{product}
use Rattle.netcdf_source.specs.Types.{size_of}
use Rattle.netcdf_source.specs.declared.external_type.ExternalType.{ExternalType}
use Rattle.netcdf_source.specs.declared.header.Dimension.{Dimension}
use Rattle.netcdf_source.specs.declared.header.Variable.{Variable}
use Rattle.netcdf_source.specs.declared.header.Contents.{Contents}
use Rattle.dap_model.specs.Xdr.{padded}

-- the length of dimension number i, which is 0 for the record dimension
unfoldable pub length_at : List Dimension → ℕ → ℕ
length_at dims i = option_map_or (λ d. d.length) (slice_get dims i) 1

abbrev pub lengths : List Dimension → List ℕ → List ℕ
lengths dims ids = map (length_at dims) ids

-- a record variable has the record dimension first
abbrev pub begins_with_records : List ℕ → Bool
begins_with_records [] = false
begins_with_records (n ∷ ns) = n == 0

-- the lengths inside one record, or all of them
abbrev pub inner : List ℕ → List ℕ
inner [] = []
inner (n ∷ ns) = if n == 0 then ns else n ∷ ns

abbrev pub is_record : List Dimension → List ℕ → Bool
is_record dims ids = begins_with_records (lengths dims ids)

-- the bytes of all values, or for a record variable those of one record
unfoldable pub part : List Dimension → List ℕ → ExternalType → ℕ
part dims ids external_type = product (inner (lengths dims ids)) * size_of external_type

-- what a record variable adds to a record, in a file with several of them
abbrev pub share : List Dimension → List ℕ → ExternalType → ℕ
share dims ids external_type = if is_record dims ids then padded (part dims ids external_type) else 0

unfoldable pub shares : List Dimension → List Variable → ℕ
shares dims [] = 0
shares dims (v ∷ vs) = share dims v.dimensions v.external_type + shares dims vs

-- what a record variable adds to a record that is its alone
abbrev pub bare : List Dimension → Variable → ℕ
bare dims v = if is_record dims v.dimensions then part dims v.dimensions v.external_type else 0

abbrev pub mark : List Dimension → Variable → ℕ
mark dims v = if is_record dims v.dimensions then 1 else 0

-- the bytes of a record: a single record variable is not padded
unfoldable pub record_size : List Dimension → List Variable → ℕ
record_size dims vs = if sum_by (mark dims) vs == 1 then sum_by (bare dims) vs else shares dims vs

-- the records before the last one
abbrev pub records_before : Contents → Variable → ℕ
records_before c v = if is_record c.dimensions v.dimensions then c.records - 1 else 0

-- the place behind the last byte of a variable
unfoldable pub end_of : Contents → Variable → ℕ
end_of c v = v.begin + records_before c v * record_size c.dimensions c.variables + part c.dimensions v.dimensions v.external_type

-- a variable with an element has its last byte behind the end of the file
abbrev pub is_past : Contents → ℕ → Variable → Bool
is_past c file_len v = not (is_record c.dimensions v.dimensions && c.records == 0) && nat_lt file_len (end_of c v)

-- the number of the first such variable, from 1
unfoldable pub past_end : Contents → ℕ → Option ℕ
past_end c file_len = position_from (is_past c file_len) 1 c.variables
