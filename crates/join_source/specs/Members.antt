-- Files that are joined along the record dimension (netCDF classic format): what their headers say
-- together, and the dataset that they give.
use Rattle.std.specs.Prelude.{◌≡◌, ◌≢◌, ℕ, ◌≤◌, List, [], ◌∷◌, ◌++◌, map, All, None, option_map}
use Rattle.std.specs.List.{sum_by, AllZip}
use Rattle.dap_types.specs.Limits.{most_elements}
use Rattle.dap_types.specs.Model.{Dataset}
use Rattle.das_text.specs.Model.{Attributes}
use Rattle.netcdf_source.specs.Attributes.{attributes_of}
use Rattle.netcdf_source.specs.File.{FileHeader}
use Rattle.netcdf_source.specs.Laws.{HasHeader}
use Rattle.netcdf_source.specs.Mapping.{dataset_of, leaf_variable, records_of, shape_of, with_records, HaveSameShape}
use Rattle.netcdf_source.specs.declared.header.Contents.{Contents}

abbrev pub contents_of : List FileHeader → List Contents
contents_of headers = map (λ h. h.contents) headers

abbrev pub lengths_of : List FileHeader → List ℕ
lengths_of headers = map (λ h. h.length) headers

-- the records of all files
abbrev pub all_records : List Contents → ℕ
all_records cs = sum_by (λ c. c.records) cs

-- the first header; without any, one that says nothing
abbrev pub first_of : List Contents → Contents
first_of [] = record { records = 0; dimensions = []; attributes = []; variables = [] }
first_of (c ∷ cs) = c

-- the first header, with the records of all
unfoldable pub joined_contents : List Contents → Contents
joined_contents cs = with_records (all_records cs) (first_of cs)

-- Headers can be joined where the first has a record dimension, the others have its shape, and the records
-- are those of an array.
pub record CanJoin (cs : List Contents) : Type 0 where
  pub record_dimension : records_of (first_of cs) ≢ None
  pub same : All (HaveSameShape (first_of cs)) cs
  pub few : all_records cs ≤ most_elements

-- the dataset and attributes of the files together
abbrev pub joined_dataset : List Contents → List ℕ → Dataset
joined_dataset cs file_name = dataset_of (joined_contents cs) file_name

abbrev pub joined_attributes : List Contents → Attributes
joined_attributes cs = attributes_of (first_of cs)

-- each file begins with its header
abbrev pub HaveHeaders : List Contents → List (List ℕ) → Type 0
HaveHeaders cs files = AllZip HasHeader cs files

-- a leaf of joined files has the number that it has in each of them, where it has the same name, type and dimensions
abbrev pub LeavesAreAlike : Type 0
LeavesAreAlike = (cs : List Contents) (leaf : ℕ) → CanJoin cs → All (λ c. option_map shape_of (leaf_variable c leaf) ≡ option_map shape_of (leaf_variable (joined_contents cs) leaf)) cs

-- with another number of records a leaf keeps its number and its variable
abbrev pub NumbersAreKept : Type 0
NumbersAreKept = (c : Contents) (records leaf : ℕ) → c.records ≤ most_elements → records ≤ most_elements → leaf_variable (with_records records c) leaf ≡ leaf_variable c leaf

-- With the header of the first file behind them, without records, the same is joined, and can be where it could.
abbrev pub EmptyAddsNothing : Type 0
EmptyAddsNothing = (c : Contents) (cs : List Contents) → (joined_contents ((c ∷ cs) ++ with_records 0 c ∷ []) ≡ joined_contents (c ∷ cs))
    × (CanJoin (c ∷ cs) → CanJoin ((c ∷ cs) ++ with_records 0 c ∷ [])) × (CanJoin ((c ∷ cs) ++ with_records 0 c ∷ []) → CanJoin (c ∷ cs))
