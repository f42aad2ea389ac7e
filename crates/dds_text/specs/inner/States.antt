-- How much of a DDS was read (DAP 2.0, DDS): the members so far, and where in the next one.
use Rattle.std.specs.Prelude.{ℕ, ◌+◌, Bool, true, false, ◌||◌, List, [], ◌∷◌, ◌++◌, length, nat_lt, Option, Some, None, if◌then◌else◌, slice_get}
use Rattle.std.specs.List.{list_any}
use Rattle.std.specs.Str.{bytes_eq}
use Rattle.dap_types.specs.Limits.{most_depth, most_dimensions, most_members}
use Rattle.dap_types.specs.Model.{Member, scalar, array, structure, grid, sequence, members_of, Dataset, name_of, count_all, sizes}
use Rattle.dap_types.specs.declared.declarations.ArrayDecl.{ArrayDecl}
use Rattle.dap_types.specs.declared.declarations.BaseType.{BaseType}
use Rattle.dap_types.specs.declared.declarations.Column.{Column}
use Rattle.dap_types.specs.declared.declarations.Dim.{Dim}
use Rattle.dap_model.specs.Grammar.{has_dims}

-- the levels that are open, each with its members so far in order: the dataset's, and those of the
-- Structures that stand in one another
pub data Levels : Type 0 where
  top : List Member → Levels
  within : Levels → List Member → Levels

-- a member without dimensions or parts, an array, or the array or a map of a Grid, behind what came
-- before it there
pub data Role : Type 0 where
  variable : Role
  column : List Column → Role
  grid_array : Role
  grid_map : ArrayDecl → List ArrayDecl → Role

-- how much of `base word dim* ;` was read
pub data Stage : Type 0 where
  -- behind the type word
  typed : BaseType → Stage
  -- behind the name and some dimensions
  named : ArrayDecl → Stage
  -- behind `[`
  bracketed : ArrayDecl → Stage
  -- behind a word there: a size, or the name of a dimension
  worded : ArrayDecl → List ℕ → Stage
  -- behind the name and `=`
  equated : ArrayDecl → List ℕ → Stage
  -- behind the size of a dimension that has a name
  measured : ArrayDecl → Dim → Stage

-- what nests
pub data Kind : Type 0 where
  structures sequences grids : Kind

-- how much of a Grid was read, up to its maps
pub data GridStage : Type 0 where
  -- behind `{`, `Array` and `:`
  entered arrayed ready : GridStage
  -- behind the array, and behind `Maps`
  filled mapping : ArrayDecl → GridStage

-- a whole that has no name yet
pub data Whole : Type 0 where
  whole_structure : List Member → Whole
  whole_sequence : List Column → Whole
  whole_grid : ArrayDecl → List ArrayDecl → Whole

pub data State : Type 0 where
  -- nothing, and `Dataset`
  begun headed : State
  -- in a level: behind its `{` or a member
  inside : Levels → State
  -- in a declaration
  declaring : Levels → Role → Stage → State
  -- behind `Structure`, `Sequence` or `Grid`
  opening : Levels → Kind → State
  -- in a Sequence: behind its `{` or a column
  in_sequence : Levels → List Column → State
  -- in a Grid: before its maps, and behind `Maps`, `:` or a map
  in_grid : Levels → GridStage → State
  in_maps : Levels → ArrayDecl → List ArrayDecl → State
  -- behind a whole's `}`, and behind its name
  closed : Levels → Whole → State
  called : Levels → Member → State
  -- behind the dataset's `}`, and behind its name
  dataset_closed : List Member → State
  dataset_called : Dataset → State
  -- behind the last `;`
  ended : Dataset → State

-- the depth of the next member
abbrev pub depth_of : Levels → ℕ
depth_of (top ms) = 1
depth_of (within outer ms) = depth_of outer + 1

-- the number of the next member
abbrev pub next_number : Levels → ℕ
next_number (top ms) = 1 + count_all (members_of ms)
next_number (within outer ms) = next_number outer + 1 + count_all (members_of ms)

-- the members so far of the innermost level
abbrev pub members_in : Levels → List Member
members_in (top ms) = ms
members_in (within outer ms) = ms

-- one more member
abbrev pub add : Levels → Member → Levels
add (top ms) m = top (ms ++ m ∷ [])
add (within outer ms) m = within outer (ms ++ m ∷ [])

-- one of these has the name
abbrev pub is_name_of : List Member → List ℕ → Bool
is_name_of ms n = list_any (λ m. bytes_eq n (name_of m)) ms

abbrev pub is_name_of_column : List Column → List ℕ → Bool
is_name_of_column cs n = list_any (λ c. bytes_eq n c.name) cs

abbrev pub is_name_of_map : ArrayDecl → List ArrayDecl → List ℕ → Bool
is_name_of_map a maps n = list_any (λ b. bytes_eq n b.name) (a ∷ maps)

-- a declaration repeats a name
abbrev pub repeats : Levels → Role → List ℕ → Bool
repeats levels variable n = is_name_of (members_in levels) n
repeats levels (column cs) n = is_name_of_column cs n
repeats levels grid_array n = false
repeats levels (grid_map a maps) n = is_name_of_map a maps n

-- too deep, or one member too many
abbrev pub is_past : ℕ → ℕ → Bool
is_past depth n = nat_lt most_depth depth || nat_lt most_members n

-- the size that a dimension has to have: that of the array's dimension of the map's number
abbrev pub wanted_size : Role → Option ℕ
wanted_size (grid_map a maps) = slice_get (sizes a) (length maps)
wanted_size role = None

abbrev pub is_some : Option ℕ → Bool
is_some None = false
is_some (Some n) = true

-- a declaration may not stand here
abbrev pub is_out : Levels → Role → Bool
is_out levels variable = is_past (depth_of levels) (next_number levels)
is_out levels (column cs) = is_past (depth_of levels + 1) (next_number levels + 1 + length cs)
is_out levels grid_array = is_past (depth_of levels + 1) (next_number levels + 1)
is_out levels (grid_map a maps) = if is_some (wanted_size (grid_map a maps)) then is_past (depth_of levels + 1) (next_number levels + 2 + length maps) else true

-- it may have dimensions, and so many of them
abbrev pub may_have_dims : Role → Bool
may_have_dims (column cs) = false
may_have_dims role = true

abbrev pub most_dims : Role → ℕ
most_dims (grid_map a maps) = 1
most_dims role = most_dimensions

-- an array with one more dimension
abbrev pub with_dim : ArrayDecl → Dim → ArrayDecl
with_dim a dim = record { name = a.name; base = a.base; dims = a.dims ++ dim ∷ [] }

-- a name and a type
abbrev pub declared : BaseType → List ℕ → ArrayDecl
declared base n = record { name = n; base = base; dims = [] }

abbrev pub without_dims : ArrayDecl → Column
without_dims a = record { name = a.name; base = a.base }

-- the state behind a declaration. Only a variable may have dimensions and have none, and a column has none
abbrev pub behind_array : Levels → Role → ArrayDecl → Option State
behind_array levels variable a = Some (inside (add levels (array a)))
behind_array levels (column cs) a = None
behind_array levels grid_array a = Some (in_grid levels (filled a))
behind_array levels (grid_map g maps) a = Some (in_maps levels g (maps ++ a ∷ []))

abbrev pub behind_scalar : Levels → Role → Column → Option State
behind_scalar levels variable c = Some (inside (add levels (scalar c)))
behind_scalar levels (column cs) c = Some (in_sequence levels (cs ++ c ∷ []))
behind_scalar levels grid_array c = None
behind_scalar levels (grid_map g maps) c = None

abbrev pub behind_declaration : Levels → Role → ArrayDecl → Option State
behind_declaration levels role a = if has_dims a then behind_array levels role a else behind_scalar levels role (without_dims a)

-- the state behind `{`
abbrev pub behind_brace : Levels → Kind → State
behind_brace levels structures = inside (within levels [])
behind_brace levels sequences = in_sequence levels []
behind_brace levels grids = in_grid levels entered

-- the state behind the `}` of a level
abbrev pub behind_level : Levels → State
behind_level (top ms) = dataset_closed ms
behind_level (within outer ms) = closed outer (whole_structure ms)

-- a whole with its name
abbrev pub with_name : Whole → List ℕ → Member
with_name (whole_structure ms) n = structure n (members_of ms)
with_name (whole_sequence cs) n = sequence n cs
with_name (whole_grid a maps) n = grid n a maps

-- the dataset is not read to its end
abbrev pub IsOpenState : State → Type 0
IsOpenState (ended d) = ⊥
IsOpenState s = Unit {0}
