-- What the definitions of this crate promise of one another and to those of `dap_model`, each as a
-- statement over all headers and files.
use Rattle.std.specs.Prelude.{◌≡◌, ◌≢◌, ℕ, ◌<◌, ◌≤◌, List, [], ◌∷◌, ◌++◌, replicate, take, length, All, Option, Some, None, Result, Ok, Err, option_map, option_and_then, if◌then◌else◌}
use Rattle.dap_types.specs.Limits.{most_header}
use Rattle.dap_types.specs.Model.{Member, scalar, array}
use Rattle.dap_types.specs.WellFormed.{member_at, is_leaf, IsWellFormed}
use Rattle.dap_model.specs.Fits.{FitsAll}
use Rattle.dap_model.specs.Grammar.{HasWords}
use Rattle.file_names.specs.Names.{segment}
use Rattle.netcdf_source.specs.Header.{IsHeader, IsFirst}
use Rattle.netcdf_source.specs.Layouts.{layout_of}
use Rattle.netcdf_source.specs.Mapping.{element_dimensions, is_empty, column_of, array_of, dataset_of, leaf_variable, with_records}
use Rattle.netcdf_source.specs.Values.{without_zeros, tree_of, placed_tree, file_trees}
use Rattle.netcdf_source.specs.declared.header.Contents.{Contents}
use Rattle.netcdf_source.specs.declared.header.Variable.{Variable}
use Rattle.netcdf_source.specs.declared.refusal.HeaderRefusal.{HeaderRefusal}

-- a variable by itself: a scalar or an array
abbrev pub leaf_of : Contents → Variable → Member
leaf_of c v = if is_empty (element_dimensions c v) then scalar (column_of v) else array (array_of c v)

abbrev pub own_leaf : Member → Option Member
own_leaf m = if is_leaf m then Some m else None

-- The member with a number is a leaf exactly where the header has a variable for it, and is then the
-- leaf of that variable.
abbrev pub LeavesAgree : Type 0
LeavesAgree = (c : Contents) (file_name : List ℕ) (n : ℕ) → option_and_then own_leaf (member_at (dataset_of c file_name) n) ≡ option_map (leaf_of c) (leaf_variable c n)

-- the file begins with a header that says this
abbrev pub HasHeader : Contents → List ℕ → Type 0
HasHeader c file = All (λ b. b < 256) file × IsHeader c (take most_header file) (length file)

-- the values of a file are values of its dataset
abbrev pub ValuesFit : Type 0
ValuesFit = (c : Contents) (file_name file : List ℕ) → HasHeader c file → FitsAll (dataset_of c file_name).members (file_trees c file)

-- the values of a leaf are those that stand at the places of its layout
abbrev pub ValuesArePlaced : Type 0
ValuesArePlaced = (c : Contents) (file : List ℕ) (leaf : ℕ) (v : Variable) → IsHeader c (take most_header file) (length file) → leaf_variable c leaf ≡ Some v → tree_of c file v ≡ placed_tree c file v (layout_of c v)

-- a text lacks the zero bytes at its end, and nothing else
abbrev pub ZerosAreCut : Type 0
ZerosAreCut = (bytes : List ℕ) → ((n : ℕ) × (bytes ≡ without_zeros bytes ++ replicate n 0)) × ((front : List ℕ) → without_zeros bytes ≢ front ++ 0 ∷ [])

-- the first bytes of a file of that length are a header that says this, or are none for this first cause
abbrev pub IsVerdict : List ℕ → ℕ → Result Contents HeaderRefusal → Type 0
IsVerdict front file_len (Ok c) = IsHeader c front file_len
IsVerdict front file_len (Err cause) = IsFirst cause front file_len

-- they are one header at most, or have one first cause, and never both
abbrev pub OneVerdict : Type 0
OneVerdict = (front : List ℕ) (file_len : ℕ) (one other : Result Contents HeaderRefusal) → IsVerdict front file_len one → IsVerdict front file_len other → one ≡ other

-- and whatever the bytes, they are one of these
abbrev pub EachHasVerdict : Type 0
EachHasVerdict = (front : List ℕ) (file_len : ℕ) → All (λ b. b < 256) front → (verdict : Result Contents HeaderRefusal) × IsVerdict front file_len verdict

-- the dataset of a header is well formed, with any number of records
abbrev pub DatasetIsWellFormed : Type 0
DatasetIsWellFormed = (c : Contents) (front file_name : List ℕ) (file_len records : ℕ) → length front ≤ most_header → IsHeader c front file_len →
    IsWellFormed (dataset_of c file_name) × IsWellFormed (dataset_of (with_records records c) file_name)

-- the names in a file's dataset are words: those of its members, and its own where the file has one
abbrev pub DatasetHasWords : Type 0
DatasetHasWords = (c : Contents) (file_name file : List ℕ) → HasHeader c file → All (λ b. b < 256) file_name → segment file_name ≢ [] → HasWords (dataset_of c file_name)
