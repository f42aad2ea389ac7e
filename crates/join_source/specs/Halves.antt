-- A netCDF file that was cut in two along its records (netCDF classic format, record data): joined, the two files give
-- its dataset and its values back.
use Rattle.std.specs.Prelude.{◌≡◌, ◌≢◌, ℕ, ◌+◌, ◌<◌, ◌≤◌, true, false, List, [], ◌∷◌, None, slice_get}
use Rattle.std.specs.Option.{option_map_or}
use Rattle.dap_types.specs.Limits.{most_elements}
use Rattle.netcdf_source.specs.Laws.{HasHeader}
use Rattle.netcdf_source.specs.Layouts.{record_slice, whole_slice}
use Rattle.netcdf_source.specs.Mapping.{dataset_of, records_of, HaveSameShape}
use Rattle.netcdf_source.specs.Values.{file_trees}
use Rattle.netcdf_source.specs.declared.header.Contents.{Contents}
use Rattle.join_source.specs.Members.{CanJoin, joined_dataset}
use Rattle.join_source.specs.Trees.{is_over_records_at, joined_trees}

-- the bytes of the variable with that number, from 0, which is no record variable
abbrev pub fixed_bytes : ℕ → Contents → List ℕ → List ℕ
fixed_bytes k c file = option_map_or (whole_slice c file) (slice_get c.variables k) []

-- those of a record variable in record r, from 0
abbrev pub record_bytes : ℕ → ℕ → Contents → List ℕ → List ℕ
record_bytes k r c file = option_map_or (λ v. record_slice c file v r) (slice_get c.variables k) []

-- Two files of the shape of another, into which that was cut: the first has its first records and its variables that
-- are over no records, the second the records behind.
pub record AreHalves (c : Contents) (file : List ℕ) (one : Contents) (first : List ℕ) (other : Contents) (second : List ℕ) : Type 0 where
  pub first_shape : HaveSameShape c one
  pub second_shape : HaveSameShape c other
  pub records : one.records + other.records ≡ c.records
  pub fixed : (k : ℕ) → is_over_records_at c k ≡ false → fixed_bytes k one first ≡ fixed_bytes k c file
  pub before : (k r : ℕ) → is_over_records_at c k ≡ true → r < one.records → record_bytes k r one first ≡ record_bytes k r c file
  pub behind : (k r : ℕ) → is_over_records_at c k ≡ true → r < other.records → record_bytes k r other second ≡ record_bytes k (one.records + r) c file

-- they can be joined, and are then what was cut
abbrev pub HalvesAreTheWhole : Type 0
HalvesAreTheWhole = (c one other : Contents) (file first second file_name : List ℕ) → HasHeader c file → records_of c ≢ None → c.records ≤ most_elements → AreHalves c file one first other second
    → CanJoin (one ∷ other ∷ []) × (joined_dataset (one ∷ other ∷ []) file_name ≡ dataset_of c file_name) × (joined_trees (one ∷ other ∷ []) (first ∷ second ∷ []) ≡ file_trees c file)
