-- Every state that is reached can go on to the end of a dataset: what is open is closed under any name.
use Rattle.std.proofs.Common.{◌≡◌, ℕ, ◌+◌, List, [], ◌∷◌, ◌++◌, length, Bool, true, false, nat_lt, Some, refl, codes, arith}
use Rattle.std.proofs.lemmas.Bool.Decides.{nat_tests}
use Rattle.dap_types.specs.Model.{Member, Dataset, array, members_of}
use Rattle.dap_types.specs.declared.declarations.ArrayDecl.{ArrayDecl}
use Rattle.dap_types.specs.declared.declarations.BaseType.TheVariants.{Byte}
use Rattle.dap_types.specs.declared.declarations.Column.{Column}
use Rattle.dap_types.specs.declared.declarations.Dim.{Dim}
use Rattle.dap_model.specs.Grammar.{has_dims, is_other}
use Rattle.dap_model.specs.Tokens.{Token}
use Rattle.dap_model.specs.Tokens as token
use Rattle.dds_text.specs.inner.Machine.{moved, step, Steps}
use Rattle.dds_text.specs.inner.States.{Levels, top, within, Role, variable, column, grid_array, grid_map, Stage, typed, named, bracketed, worded, equated, measured, Kind, structures, sequences, grids, GridStage, entered, arrayed, ready, filled, mapping, Whole, whole_structure, whole_sequence, whole_grid, State, begun, headed, inside, declaring, opening, in_sequence, in_grid, in_maps, closed, called, dataset_closed, dataset_called, ended, add, wanted_size, is_out, members_in, is_name_of, repeats, with_dim, declared, without_dims, with_name}
use Rattle.dds_text.proofs.LevelFacts.{length_last}
use Rattle.dds_text.proofs.Tells.{DimsFit, Fits}

abbrev pub Live : State → Type 0
Live s = (more : List Token) × (bs : List Bool) × (d : Dataset) × Steps s more bs (ended d)

live_step : (s next : State) (t : Token) (b : Bool) → step s t ≡ Some (moved next b) → Live next → Live s
live_step s next t b is (more, bs, d, steps) = (t ∷ more, b ∷ bs, d, (next, is, steps))

-- a name for what has none, and a size
abbrev some_name : List ℕ
some_name = codes "x"

abbrev zero_size : List ℕ
zero_size = codes "0"

-- levels
dataset_called_live : (d : Dataset) → Live (dataset_called d)
dataset_called_live d = live_step (dataset_called d) (ended d) (token.sign 59) false refl ([], [], d, refl)

dataset_closed_live : (ms : List Member) → Live (dataset_closed ms)
dataset_closed_live ms =
    let d : Dataset = record { name = some_name; members = members_of ms } in
    live_step (dataset_closed ms) (dataset_called d) (token.word some_name) false refl (dataset_called_live d)

top_live : (ms : List Member) → Live (inside (top ms))
top_live ms = live_step (inside (top ms)) (dataset_closed ms) (token.sign 125) false refl (dataset_closed_live ms)

added_live : (levels : Levels) (m : Member) → Live (inside (add levels m))
added_live (top ms) m = top_live (ms ++ m ∷ [])
added_live (within outer ms) m =
    let all : List Member = ms ++ m ∷ [] in
    let whole = with_name (whole_structure all) some_name in
    live_step (inside (within outer all)) (closed outer (whole_structure all)) (token.sign 125) false refl
    (live_step (closed outer (whole_structure all)) (called outer whole) (token.word some_name) (is_name_of (members_in outer) some_name) refl
    (live_step (called outer whole) (inside (add outer whole)) (token.sign 59) false refl (added_live outer whole)))

called_live : (levels : Levels) (m : Member) → Live (called levels m)
called_live levels m = live_step (called levels m) (inside (add levels m)) (token.sign 59) false refl (added_live levels m)

closed_live : (levels : Levels) (whole : Whole) → Live (closed levels whole)
closed_live levels whole =
    let m = with_name whole some_name in
    live_step (closed levels whole) (called levels m) (token.word some_name) (is_name_of (members_in levels) some_name) refl (called_live levels m)

inside_live : (levels : Levels) → Live (inside levels)
inside_live (top ms) = top_live ms
inside_live (within outer ms) = live_step (inside (within outer ms)) (closed outer (whole_structure ms)) (token.sign 125) false refl (closed_live outer (whole_structure ms))

sequence_live : (levels : Levels) (cs : List Column) → Live (in_sequence levels cs)
sequence_live levels cs = live_step (in_sequence levels cs) (closed levels (whole_sequence cs)) (token.sign 125) false refl (closed_live levels (whole_sequence cs))

maps_live : (levels : Levels) (a : ArrayDecl) (maps : List ArrayDecl) → Live (in_maps levels a maps)
maps_live levels a maps =
    live_step (in_maps levels a maps) (closed levels (whole_grid a maps)) (token.sign 125) (nat_lt (length maps) (length a.dims)) refl (closed_live levels (whole_grid a maps))

mapping_live : (levels : Levels) (a : ArrayDecl) → Live (in_grid levels (mapping a))
mapping_live levels a = live_step (in_grid levels (mapping a)) (in_maps levels a []) (token.sign 58) false refl (maps_live levels a [])

filled_live : (levels : Levels) (a : ArrayDecl) → Live (in_grid levels (filled a))
filled_live levels a = live_step (in_grid levels (filled a)) (in_grid levels (mapping a)) (token.word (codes "Maps")) false refl (mapping_live levels a)

-- a declaration ends behind one dimension more, and a column without one
one_more : (a : ArrayDecl) (dim : Dim) → has_dims (with_dim a dim) ≡ true
one_more a dim = let long = length_last a.dims dim in grind (arith, nat_tests)

array_live : (levels : Levels) (role : Role) (a : ArrayDecl) → DimsFit role → has_dims a ≡ true → Live (declaring levels role (named a))
array_live levels variable a fits some =
    live_step (declaring levels variable (named a)) (inside (add levels (array a))) (token.sign 59) false (rw some refl) (added_live levels (array a))
array_live levels (column cs) a fits some = absurd fits
array_live levels grid_array a fits some = live_step (declaring levels grid_array (named a)) (in_grid levels (filled a)) (token.sign 59) false (rw some refl) (filled_live levels a)
array_live levels (grid_map g maps) a fits some =
    live_step (declaring levels (grid_map g maps) (named a)) (in_maps levels g (maps ++ a ∷ [])) (token.sign 59) false (rw some refl) (maps_live levels g (maps ++ a ∷ []))

measured_live : (levels : Levels) (role : Role) (a : ArrayDecl) (dim : Dim) → DimsFit role → Live (declaring levels role (measured a dim))
measured_live levels role a dim fits =
    live_step (declaring levels role (measured a dim)) (declaring levels role (named (with_dim a dim))) (token.sign 93) false refl (array_live levels role (with_dim a dim) fits (one_more a dim))

equated_live : (levels : Levels) (role : Role) (a : ArrayDecl) (w : List ℕ) → DimsFit role → Live (declaring levels role (equated a w))
equated_live levels role a w fits =
    live_step (declaring levels role (equated a w)) (declaring levels role (measured a (record { name = Some w; size = 0 }))) (token.word zero_size) (is_other (wanted_size role) 0) refl
    (measured_live levels role a (record { name = Some w; size = 0 }) fits)

worded_live : (levels : Levels) (role : Role) (a : ArrayDecl) (w : List ℕ) → DimsFit role → Live (declaring levels role (worded a w))
worded_live levels role a w fits = live_step (declaring levels role (worded a w)) (declaring levels role (equated a w)) (token.sign 61) false refl (equated_live levels role a w fits)

bracketed_live : (levels : Levels) (role : Role) (a : ArrayDecl) → DimsFit role → Live (declaring levels role (bracketed a))
bracketed_live levels role a fits =
    live_step (declaring levels role (bracketed a)) (declaring levels role (worded a some_name)) (token.word some_name) false refl (worded_live levels role a some_name fits)

named_live : (levels : Levels) (role : Role) (a : ArrayDecl) → Fits (declaring levels role (named a)) → Live (declaring levels role (named a))
named_live levels variable a fits =
    live_step (declaring levels variable (named a)) (declaring levels variable (bracketed a)) (token.sign 91) (nat_lt 32 (length a.dims + 1)) refl (bracketed_live levels variable a tt)
named_live levels (column cs) a fits =
    live_step (declaring levels (column cs) (named a)) (in_sequence levels (cs ++ without_dims a ∷ [])) (token.sign 59) false (let none : has_dims a ≡ false = fits.2 in rw none refl)
    (sequence_live levels (cs ++ without_dims a ∷ []))
named_live levels grid_array a fits =
    live_step (declaring levels grid_array (named a)) (declaring levels grid_array (bracketed a)) (token.sign 91) (nat_lt 32 (length a.dims + 1)) refl (bracketed_live levels grid_array a tt)
named_live levels (grid_map g maps) a fits =
    live_step (declaring levels (grid_map g maps) (named a)) (declaring levels (grid_map g maps) (bracketed a)) (token.sign 91) (nat_lt 1 (length a.dims + 1)) refl (bracketed_live levels (grid_map g maps) a tt)

typed_live : (levels : Levels) (role : Role) (stage : Stage) → Fits (declaring levels role stage) → Live (declaring levels role stage)
typed_live levels variable (typed base) fits =
    live_step (declaring levels variable (typed base)) (declaring levels variable (named (declared base some_name))) (token.word some_name) (repeats levels variable some_name) refl
    (named_live levels variable (declared base some_name) (fits.0, tt, tt))
typed_live levels (column cs) (typed base) fits =
    live_step (declaring levels (column cs) (typed base)) (declaring levels (column cs) (named (declared base some_name))) (token.word some_name) (repeats levels (column cs) some_name) refl
    (named_live levels (column cs) (declared base some_name) (fits.0, tt, refl))
typed_live levels grid_array (typed base) fits =
    live_step (declaring levels grid_array (typed base)) (declaring levels grid_array (named (declared base some_name))) (token.word some_name) false refl
    (named_live levels grid_array (declared base some_name) (fits.0, tt, tt))
typed_live levels (grid_map g maps) (typed base) fits =
    live_step (declaring levels (grid_map g maps) (typed base)) (declaring levels (grid_map g maps) (named (declared base some_name))) (token.word some_name) (repeats levels (grid_map g maps) some_name) refl
    (named_live levels (grid_map g maps) (declared base some_name) (fits.0, fits.1, tt))
typed_live levels role (named a) fits = named_live levels role a fits
typed_live levels role (bracketed a) fits = bracketed_live levels role a fits.2
typed_live levels role (worded a w) fits = worded_live levels role a w fits.2
typed_live levels role (equated a w) fits = equated_live levels role a w fits.2
typed_live levels role (measured a dim) fits = measured_live levels role a dim fits.2

-- Grids
ready_live : (levels : Levels) → Live (in_grid levels ready)
ready_live levels =
    live_step (in_grid levels ready) (declaring levels grid_array (typed Byte)) (token.word (codes "Byte")) (is_out levels grid_array) refl
    (live_step (declaring levels grid_array (typed Byte)) (declaring levels grid_array (named (declared Byte some_name))) (token.word some_name) false refl
    (live_step (declaring levels grid_array (named (declared Byte some_name))) (declaring levels grid_array (bracketed (declared Byte some_name))) (token.sign 91) false refl
    (bracketed_live levels grid_array (declared Byte some_name) tt)))

grid_live : (levels : Levels) (stage : GridStage) → Live (in_grid levels stage)
grid_live levels entered =
    live_step (in_grid levels entered) (in_grid levels arrayed) (token.word (codes "Array")) false refl (live_step (in_grid levels arrayed) (in_grid levels ready) (token.sign 58) false refl (ready_live levels))
grid_live levels arrayed = live_step (in_grid levels arrayed) (in_grid levels ready) (token.sign 58) false refl (ready_live levels)
grid_live levels ready = ready_live levels
grid_live levels (filled a) = filled_live levels a
grid_live levels (mapping a) = mapping_live levels a

opening_live : (levels : Levels) (kind : Kind) → Live (opening levels kind)
opening_live levels structures = live_step (opening levels structures) (inside (within levels [])) (token.sign 123) false refl (inside_live (within levels []))
opening_live levels sequences = live_step (opening levels sequences) (in_sequence levels []) (token.sign 123) false refl (sequence_live levels [])
opening_live levels grids = live_step (opening levels grids) (in_grid levels entered) (token.sign 123) false refl (grid_live levels entered)

headed_live : Live headed
headed_live = live_step headed (inside (top [])) (token.sign 123) false refl (top_live [])

pub live : (s : State) → Fits s → Live s
live begun fits = live_step begun headed (token.word (codes "Dataset")) false refl headed_live
live headed fits = headed_live
live (inside levels) fits = inside_live levels
live (declaring levels role stage) fits = typed_live levels role stage fits
live (opening levels kind) fits = opening_live levels kind
live (in_sequence levels cs) fits = sequence_live levels cs
live (in_grid levels stage) fits = grid_live levels stage
live (in_maps levels a maps) fits = maps_live levels a maps
live (closed levels whole) fits = closed_live levels whole
live (called levels m) fits = called_live levels m
live (dataset_closed ms) fits = dataset_closed_live ms
live (dataset_called d) fits = dataset_called_live d
live (ended d) fits = ([], [], d, refl)
