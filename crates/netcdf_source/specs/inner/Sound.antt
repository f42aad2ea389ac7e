-- What holds of each header that has no fault (netCDF classic format specification; the limits on
-- names, rank and bytes are this project's).
use Rattle.std.specs.Prelude.{◌≡◌, ◌≢◌, ℕ, ◌+◌, ◌^◌, ◌<◌, ◌≤◌, true, false, List, [], ◌∷◌, ◌++◌, length, map, sum_by}
use Rattle.std.specs.List.{list_any, AllByRecursion}
use Rattle.std.specs.Str.{bytes_eq}
use Rattle.dap_types.specs.Limits.{most_dimensions, most_members, most_variable}
use Rattle.netcdf_source.specs.Grammar.{is_record_dimension}
use Rattle.netcdf_source.specs.Parts.{length_at, is_record, part, share, shares}
use Rattle.netcdf_source.specs.declared.header.Contents.{Contents}
use Rattle.netcdf_source.specs.declared.header.Dimension.{Dimension}
use Rattle.netcdf_source.specs.declared.header.Variable.{Variable}

-- each item, with the items before it
unfoldable pub InTurn : {X : Type 0} → (List X → X → Type 0) → List X → List X → Type 0
InTurn P before [] = Unit {0}
InTurn P before (x ∷ xs) = P before x × InTurn P (before ++ x ∷ []) xs

pub record IsDimension (before : List Dimension) (d : Dimension) : Type 0 where
  pub is_new : list_any (bytes_eq d.name) (map (λ b. b.name) before) ≡ false
  pub one_record : list_any is_record_dimension before ≡ true → d.length ≢ 0

-- the record dimension stands first alone
pub record IsId (dims : List Dimension) (before : List ℕ) (n : ℕ) : Type 0 where
  pub within : n < length dims
  pub inner : length before ≢ 0 → length_at dims n ≢ 0

pub record IsVariable (dims : List Dimension) (before : List Variable) (v : Variable) : Type 0 where
  pub is_new : list_any (bytes_eq v.name) (map (λ b. b.name) before) ≡ false
  pub rank : length v.dimensions ≤ most_dimensions
  pub ids : InTurn (IsId dims) [] v.dimensions
  pub bytes : part dims v.dimensions v.external_type ≤ most_variable
  pub record_bytes : is_record dims v.dimensions ≡ true → shares dims before + share dims v.dimensions v.external_type ≤ most_variable
  pub place : v.begin < 2 ^ 63

-- a variable's bytes are few enough
unfoldable pub HasSize : List Dimension → Variable → Type 0
HasSize dims v = part dims v.dimensions v.external_type ≤ most_variable

unfoldable pub HaveSizes : List Dimension → List Variable → Type 0
HaveSizes dims vs = AllByRecursion (HasSize dims) vs

-- A variable becomes at most a Grid, its array, and a map for each dimension.
abbrev pub grid_members : Variable → ℕ
grid_members v = length v.dimensions + 2

pub record IsSound (c : Contents) : Type 0 where
  pub dimensions : InTurn IsDimension [] c.dimensions
  pub count : length c.variables < 2 ^ 32
  pub variables : InTurn (IsVariable c.dimensions) [] c.variables
  pub members : sum_by grid_members c.variables ≤ most_members
