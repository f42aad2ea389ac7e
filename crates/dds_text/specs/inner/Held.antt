-- What the values of the parser stand for, and what holds of them.
use Rattle.std.specs.Prelude.{◌≡◌, ℕ, ◌+◌, Bool, false, not, List, [], ◌∷◌, All, length, map, Option, Some, None, option_map, if◌then◌else◌}
use Rattle.std.specs.List.{list_any}
use Rattle.std.specs.Option.{option_and_then}
use Rattle.std.specs.Str.{bytes_eq}
use Rattle.dap_types.specs.Model.{Member, count}
use Rattle.dap_types.specs.View.{dataset_view, member_view}
use Rattle.dap_model.specs.Tokens.{Token}
use Rattle.dds_text.specs.inner.Machine.{Moved, step}
use Rattle.dds_text.specs.inner.States.{Levels, top, within, Role, variable, column, grid_array, grid_map, Stage, typed, named, bracketed, worded, equated, measured, GridStage, entered, arrayed, ready, filled, mapping, Whole, whole_structure, whole_sequence, whole_grid, State, begun, headed, inside, declaring, opening, in_sequence, in_grid, in_maps, closed, called, dataset_closed, dataset_called, next_number, depth_of, is_some, wanted_size, is_name_of, is_name_of_column, with_name}
use Rattle.dds_text.specs.inner.States as model
use Rattle.dds_text.specs.declared.level.Level.{Level}
use Rattle.dds_text.specs.declared.level.Levels as code_levels
use Rattle.dds_text.specs.declared.level.Columns.{Columns}
use Rattle.dds_text.specs.declared.state.Kind.{Kind}
use Rattle.dds_text.specs.declared.state.Kind.TheVariants as kind
use Rattle.dds_text.specs.declared.state.Role as code_role
use Rattle.dds_text.specs.declared.state.Role.TheVariants as role
use Rattle.dds_text.specs.declared.state.Stage as code_stage
use Rattle.dds_text.specs.declared.state.Stage.TheVariants as stage
use Rattle.dds_text.specs.declared.state.GridStage as code_grid
use Rattle.dds_text.specs.declared.state.GridStage.TheVariants as grid_stage
use Rattle.dds_text.specs.declared.state.Whole as code_whole
use Rattle.dds_text.specs.declared.state.Whole.TheVariants as whole
use Rattle.dds_text.specs.declared.state.State as code_state
use Rattle.dds_text.specs.declared.state.State.TheVariants as state

-- a level, and levels inside one another
abbrev pub level_view : Level → List Member
level_view l = map member_view l.members

abbrev pub nested_on : Levels → List Level → Level → Levels
nested_on around [] inner = within around (level_view inner)
nested_on around (l ∷ ls) inner = nested_on (within around (level_view l)) ls inner

unfoldable pub nested : List Level → Level → Levels
nested [] inner = top (level_view inner)
nested (l ∷ ls) inner = nested_on (top (level_view l)) ls inner

abbrev pub levels_view : code_levels.Levels → Levels
levels_view l = nested l.outer.items l.inner

abbrev pub kind_view : Kind → model.Kind
kind_view kind.Structure = model.structures
kind_view kind.Sequence = model.sequences
kind_view kind.Grid = model.grids

abbrev pub kind_seen : Option Kind → Option model.Kind
kind_seen found = option_map kind_view found

abbrev pub role_view : code_role.Role → Role
role_view role.Variable = variable
role_view (role.Column columns) = column columns.list
role_view role.GridArray = grid_array
role_view (role.GridMap m) = grid_map m.array m.maps

abbrev pub stage_view : code_stage.Stage → Stage
stage_view (stage.Typed base) = typed base
stage_view (stage.Named a) = named a
stage_view (stage.Bracketed a) = bracketed a
stage_view (stage.Worded a w) = worded a w
stage_view (stage.Equated a w) = equated a w
stage_view (stage.Measured a dim) = measured a dim

abbrev pub grid_view : code_grid.GridStage → GridStage
grid_view grid_stage.Entered = entered
grid_view grid_stage.Arrayed = arrayed
grid_view grid_stage.Ready = ready
grid_view (grid_stage.Filled a) = filled a
grid_view (grid_stage.Mapping a) = mapping a

abbrev pub whole_view : code_whole.Whole → Whole
whole_view (whole.Structure parts) = whole_structure (map member_view parts)
whole_view (whole.Sequence columns) = whole_sequence columns
whole_view (whole.Grid m) = whole_grid m.array m.maps

abbrev pub state_view : code_levels.Levels → code_state.State → State
state_view l state.Begun = begun
state_view l state.Headed = headed
state_view l state.Inside = inside (levels_view l)
state_view l (state.Declaring role stage) = declaring (levels_view l) (role_view role) (stage_view stage)
state_view l (state.Opening k) = opening (levels_view l) (kind_view k)
state_view l (state.InSequence columns) = in_sequence (levels_view l) columns.list
state_view l (state.InGrid g) = in_grid (levels_view l) (grid_view g)
state_view l (state.InMaps m) = in_maps (levels_view l) m.array m.maps
state_view l (state.Closed w) = closed (levels_view l) (whole_view w)
state_view l (state.Called m) = called (levels_view l) (member_view m)
state_view l (state.DatasetClosed ms) = dataset_closed (map member_view ms)
state_view l (state.DatasetCalled d) = dataset_called (dataset_view d)

-- names by which those of a level are found
unfoldable pub NamesAre : List (List ℕ) → (List ℕ → Bool) → Type 0
NamesAre names test = (n : List ℕ) → list_any (bytes_eq n) names ≡ test n

abbrev pub HasNames : Level → Type 0
HasNames l = NamesAre l.names (is_name_of (level_view l))

abbrev pub HasColumnNames : Columns → Type 0
HasColumnNames c = NamesAre c.names (is_name_of_column c.list)

-- each open level has its names
unfoldable pub AllNamed : Level → List Level → Type 0
AllNamed inner outer = HasNames inner × All HasNames outer

abbrev pub HaveNames : code_levels.Levels → Type 0
HaveNames l = AllNamed l.inner l.outer.items

abbrev pub RoleHasNames : code_role.Role → Type 0
RoleHasNames (role.Column columns) = HasColumnNames columns
RoleHasNames r = Unit {0}

-- the number of the member that begins in a role
abbrev pub own_number : Levels → Role → ℕ
own_number l variable = next_number l
own_number l (column cs) = next_number l + 1 + length cs
own_number l grid_array = next_number l + 1
own_number l (grid_map a maps) = next_number l + 2 + length maps

-- its depth
abbrev pub own_depth : Levels → Role → ℕ
own_depth l variable = depth_of l
own_depth l r = depth_of l + 1

-- a Grid has no dimension for one more map
abbrev pub is_extra : Role → Bool
is_extra (grid_map a maps) = not (is_some (wanted_size (grid_map a maps)))
is_extra r = false

-- so many members have begun
abbrev pub IsCounted : ℕ → State → Type 0
IsCounted n (inside l) = n + 1 ≡ own_number l variable
IsCounted n (declaring l role stage) = n ≡ own_number l role
IsCounted n (opening l k) = n ≡ next_number l
IsCounted n (in_sequence l cs) = n + 1 ≡ own_number l (column cs)
IsCounted n (in_grid l entered) = n + 1 ≡ own_number l grid_array
IsCounted n (in_grid l arrayed) = n + 1 ≡ own_number l grid_array
IsCounted n (in_grid l ready) = n + 1 ≡ own_number l grid_array
IsCounted n (in_grid l (filled a)) = n ≡ own_number l grid_array
IsCounted n (in_grid l (mapping a)) = n ≡ own_number l grid_array
IsCounted n (in_maps l a maps) = n + 1 ≡ own_number l (grid_map a maps)
IsCounted n (closed l w) = n + 1 ≡ next_number l + count (with_name w [])
IsCounted n (called l m) = n + 1 ≡ next_number l + count m
IsCounted n s = Unit {0}

-- before the first member no level is open but that of the dataset
abbrev pub IsFresh : code_levels.Levels → Type 0
IsFresh l = (levels_view l ≡ top []) × (l.count ≡ 0)

abbrev pub StateHolds : code_levels.Levels → code_state.State → Type 0
StateHolds l state.Begun = IsFresh l
StateHolds l state.Headed = IsFresh l
StateHolds l (state.Declaring role stage) = RoleHasNames role
StateHolds l (state.InSequence columns) = HasColumnNames columns
StateHolds l s = Unit {0}

abbrev pub IsSound : code_levels.Levels → code_state.State → Type 0
IsSound l s = HaveNames l × IsCounted l.count (state_view l s) × StateHolds l s

-- the state behind a token that breaks no rule
abbrev pub unbroken : Moved → Option State
unbroken m = if m.breaks then None else Some m.next

abbrev pub go : State → Token → Option State
go s t = option_and_then unbroken (step s t)

-- what is held behind a token that moves the machine so: nothing where it does not go on or breaks a rule
abbrev pub MovesTo : Option Moved → code_levels.Levels → Option code_state.State → Type 0
MovesTo moved l None = option_and_then unbroken moved ≡ None
MovesTo moved l (Some to) = (option_and_then unbroken moved ≡ Some (state_view l to)) × IsSound l to

-- the name of the dataset has not been read
abbrev pub IsNotLast : code_state.State → Type 0
IsNotLast (state.DatasetCalled d) = ⊥
IsNotLast s = Unit {0}
