-- Where the elements of a variable stand (netCDF classic format, "Computing file offsets"): the bytes
-- of a variable chopped into equal pieces, and the steps that lead to the same places.
use Rattle.std.specs.Prelude.{◌≡◌, ℕ, ◌+◌, ◌*◌, ◌/◌, ◌<◌, ◌≤◌, false, true, List, [], ◌∷◌, ◌++◌, length, map, take, drop, if◌then◌else◌, Option, Some, MatchOption}
use Rattle.std.specs.List.{AllByRecursion}
use Rattle.dap_types.specs.Limits.{most_piece, most_variable}
use Rattle.dap_types.specs.Model.{product}
use Rattle.dap_types.specs.declared.slabs.Layout.{Layout}
use Rattle.dap_model.specs.Indexing.{AreIndexes, distance}
use Rattle.netcdf_source.specs.Mapping.{is_char, is_over_records, leaf_variable, size_at, element_dimensions, element_size, with_records}
use Rattle.netcdf_source.specs.Parts.{lengths, inner, is_record, part, record_size}
use Rattle.netcdf_source.specs.Types.{size_of}
use Rattle.netcdf_source.specs.declared.header.Contents.{Contents}
use Rattle.netcdf_source.specs.declared.header.Variable.{Variable}

-- ---- pieces

-- so many bytes from a place on
abbrev pub slice : List ℕ → ℕ → ℕ → List ℕ
slice bytes place len = take len (drop place bytes)

-- piece number i of n equal pieces, from 0
abbrev pub piece : ℕ → ℕ → List ℕ → List ℕ
piece n i bytes = slice bytes (i * (length bytes / n)) (length bytes / n)

-- bytes chopped into pieces for the first size, each piece for the next, and so on: the last piece
-- at these indexes
unfoldable pub chopped : List ℕ → List ℕ → List ℕ → List ℕ
chopped [] indexes bytes = bytes
chopped (n ∷ ns) [] bytes = bytes
chopped (n ∷ ns) (i ∷ is) bytes = chopped ns is (piece n i bytes)

-- the sizes of a variable's elements
abbrev pub element_sizes : Contents → Variable → List ℕ
element_sizes c v = map (size_at c) (element_dimensions c v)

-- the bytes of a variable that is no record variable, and those of one in a record
abbrev pub whole_slice : Contents → List ℕ → Variable → List ℕ
whole_slice c file v = slice file v.begin (part c.dimensions v.dimensions v.external_type)

abbrev pub record_slice : Contents → List ℕ → Variable → ℕ → List ℕ
record_slice c file v k = slice file (v.begin + k * record_size c.dimensions c.variables) (part c.dimensions v.dimensions v.external_type)

-- the bytes of the element at these indexes: a record variable has one slice a record
abbrev pub in_record : Contents → List ℕ → Variable → List ℕ → List ℕ
in_record c file v [] = []
in_record c file v (k ∷ is) = chopped (inner (lengths c.dimensions (element_dimensions c v))) is (record_slice c file v k)

unfoldable pub element_at : Contents → List ℕ → Variable → List ℕ → List ℕ
element_at c file v indexes =
    if is_record c.dimensions v.dimensions then in_record c file v indexes
    else chopped (element_sizes c v) indexes (whole_slice c file v)

-- ---- steps

-- from one index to the next: the bytes of all elements behind that index
unfoldable pub row_steps : ℕ → List ℕ → List ℕ
row_steps size [] = []
row_steps size (n ∷ ns) = size * product ns ∷ row_steps size ns

-- a record variable's first step is a record
unfoldable pub steps_of : Contents → Variable → List ℕ
steps_of c v =
    (if is_record c.dimensions (element_dimensions c v) then record_size c.dimensions c.variables ∷ [] else [])
    ++ row_steps (element_size c v) (inner (lengths c.dimensions (element_dimensions c v)))

abbrev pub layout_of : Contents → Variable → Layout
layout_of c v = record { base = v.begin; steps = steps_of c v; size = element_size c v }

-- where the element at these indexes begins
abbrev pub place : Layout → List ℕ → ℕ
place l indexes = l.base + distance l.steps indexes

-- Every element that is placed stands in the file, and is that piece of it.
unfoldable pub IsPlaced : Contents → ℕ → Variable → Layout → Type 0
IsPlaced c file_len v l =
    (file indexes : List ℕ) → length file ≡ file_len → AreIndexes (element_sizes c v) indexes
    → (place l indexes + l.size ≤ file_len) × (slice file (place l indexes) l.size ≡ element_at c file v indexes)

-- the bytes of all elements behind each index are few enough
unfoldable pub SuffixesFit : List ℕ → ℕ → Type 0
SuffixesFit ns size = (i : ℕ) → size * product (drop i ns) ≤ most_variable

unfoldable pub HasSteps : Contents → Variable → Type 0
HasSteps c v = SuffixesFit (inner (lengths c.dimensions (element_dimensions c v))) (element_size c v)

unfoldable pub HaveSteps : Contents → List Variable → Type 0
HaveSteps c vs = AllByRecursion (HasSteps c) vs

-- the layout of a leaf places each element of its variable
unfoldable pub LeafIsPlaced : Contents → ℕ → ℕ → Option Layout → Type 0
LeafIsPlaced c file_len leaf found = MatchOption found (Unit {0}) (λ l. (v : Variable) × (leaf_variable c leaf ≡ Some v) × IsPlaced c file_len v l)

-- A layout has a step for each dimension of the elements, and an element has 1 to 65,536 bytes: those
-- of its type, unless it is a text.
pub record IsShaped (c : Contents) (v : Variable) (l : Layout) : Type 0 where
  pub steps : length l.steps ≡ length (element_dimensions c v)
  pub some : 0 < l.size
  pub few : l.size ≤ most_piece
  pub typed : is_char v ≡ false → l.size ≡ size_of v.external_type

unfoldable pub LeafIsShaped : Contents → ℕ → Option Layout → Type 0
LeafIsShaped c leaf found = MatchOption found (Unit {0}) (λ l. (v : Variable) × (leaf_variable c leaf ≡ Some v) × IsShaped c v l)

-- The record dimension stands first alone: with any number of records these are the sizes of the elements of a record
-- variable, and of any other one.
pub record HasSizes (c : Contents) (v : Variable) : Type 0 where
  pub over_records : is_over_records c v ≡ true → (records : ℕ) → element_sizes (with_records records c) v ≡ records ∷ inner (lengths c.dimensions (element_dimensions c v))
  pub fixed : is_over_records c v ≡ false → (records : ℕ) → element_sizes (with_records records c) v ≡ lengths c.dimensions (element_dimensions c v)

unfoldable pub LeafHasSizes : Contents → ℕ → Type 0
LeafHasSizes c leaf = (v : Variable) → leaf_variable c leaf ≡ Some v → HasSizes c v
