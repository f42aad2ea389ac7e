-- The slots of what was read, without a word on the rules.
use Rattle.std.proofs.Common.{◌≡◌, ℕ, ◌+◌, List, [], ◌∷◌, ◌++◌, length, nat_lt, true, Option, Some, None, refl, sym, ap, ap₂, ◌∙◌, append_assoc, append-nil, codes}
use Rattle.std.proofs.lemmas.List.{map-append}
use Rattle.std.specs.List.{flat_map}
use Rattle.dap_types.specs.Model.{Member, scalar, array, structure, grid, sequence, Members, no_members, member, members_of, Dataset, name_of, count, sizes}
use Rattle.dap_types.specs.declared.declarations.ArrayDecl.{ArrayDecl}
use Rattle.dap_types.specs.declared.declarations.BaseType.{BaseType}
use Rattle.dap_types.specs.declared.declarations.Column.{Column}
use Rattle.dap_types.specs.declared.declarations.Dim.{Dim}
use Rattle.dap_model.specs.Dds.{type_word}
use Rattle.dap_model.specs.Grammar.{Slot, keyword, name, size, sign, Judged, head, semicolon, named as named_slot, size_slots, dim_slots, array_slots, column_slots, map_slots, slots, slots_all, dataset_slots, fine, colon}
use Rattle.dds_text.specs.inner.Machine.{kind_word}
use Rattle.dds_text.specs.inner.States.{Levels, top, within, Role, variable, column, grid_array, grid_map, Stage, typed, named, bracketed, worded, equated, measured, GridStage, entered, arrayed, ready, filled, mapping, Whole, whole_structure, whole_sequence, whole_grid, State, begun, headed, inside, declaring, opening, in_sequence, in_grid, in_maps, closed, called, dataset_closed, dataset_called, ended, add}
use Rattle.dds_text.proofs.Runs.{slots_in}

-- a dimension up to its `]`
abbrev pub size_front : Option (List ℕ) → ℕ → List Slot
size_front None n = size n ∷ []
size_front (Some dim) n = name dim ∷ sign 61 ∷ size n ∷ []

abbrev pub dim_spelling : Dim → List Slot
dim_spelling dim = sign 91 ∷ size_front dim.name dim.size ++ sign 93 ∷ []

-- a declaration up to its semicolon
abbrev pub typed_name : BaseType → List ℕ → List Dim → List Slot
typed_name base own dims = keyword (type_word base) ∷ name own ∷ flat_map dim_spelling dims

abbrev pub column_spelling : Column → List Slot
column_spelling c = typed_name c.base c.name [] ++ sign 59 ∷ []

abbrev pub array_spelling : ArrayDecl → List Slot
array_spelling a = typed_name a.base a.name a.dims ++ sign 59 ∷ []

-- a Grid up to its maps, and up to the `}`
abbrev pub grid_front : ArrayDecl → List Slot
grid_front a = keyword (codes "Grid") ∷ sign 123 ∷ keyword (codes "Array") ∷ sign 58 ∷ array_spelling a

abbrev pub maps_front : ArrayDecl → List ArrayDecl → List Slot
maps_front a maps = grid_front a ++ keyword (codes "Maps") ∷ sign 58 ∷ flat_map array_spelling maps

abbrev pub sequence_front : List Column → List Slot
sequence_front cs = keyword (codes "Sequence") ∷ sign 123 ∷ flat_map column_spelling cs

-- a member up to its semicolon
abbrev mutual
  pub front_of : Member → List Slot
  front_of (scalar c) = typed_name c.base c.name []
  front_of (array a) = typed_name a.base a.name a.dims
  front_of (structure own parts) = (keyword (codes "Structure") ∷ sign 123 ∷ spelling_all parts) ++ sign 125 ∷ name own ∷ []
  front_of (grid own a maps) = maps_front a maps ++ sign 125 ∷ name own ∷ []
  front_of (sequence own columns) = sequence_front columns ++ sign 125 ∷ name own ∷ []

  pub spelling_all : Members → List Slot
  spelling_all no_members = []
  spelling_all (member m ms) = (front_of m ++ sign 59 ∷ []) ++ spelling_all ms

abbrev pub spelling : Member → List Slot
spelling m = front_of m ++ sign 59 ∷ []

abbrev pub structure_front : List Member → List Slot
structure_front ms = keyword (codes "Structure") ∷ sign 123 ∷ flat_map spelling ms

abbrev pub dataset_front : List Member → List Slot
dataset_front ms = keyword (codes "Dataset") ∷ sign 123 ∷ flat_map spelling ms

-- what was read, state by state
abbrev pub level_told : Levels → List Slot
level_told (top ms) = dataset_front ms
level_told (within outer ms) = level_told outer ++ structure_front ms

abbrev pub role_told : Levels → Role → List Slot
role_told levels variable = level_told levels
role_told levels (column cs) = level_told levels ++ sequence_front cs
role_told levels grid_array = level_told levels ++ keyword (codes "Grid") ∷ sign 123 ∷ keyword (codes "Array") ∷ sign 58 ∷ []
role_told levels (grid_map a maps) = level_told levels ++ maps_front a maps

abbrev pub stage_told : Stage → List Slot
stage_told (typed base) = keyword (type_word base) ∷ []
stage_told (named a) = typed_name a.base a.name a.dims
stage_told (bracketed a) = typed_name a.base a.name a.dims ++ sign 91 ∷ []
stage_told (worded a w) = typed_name a.base a.name a.dims ++ sign 91 ∷ name w ∷ []
stage_told (equated a w) = typed_name a.base a.name a.dims ++ sign 91 ∷ name w ∷ sign 61 ∷ []
stage_told (measured a dim) = typed_name a.base a.name a.dims ++ sign 91 ∷ size_front dim.name dim.size

abbrev pub grid_told : GridStage → List Slot
grid_told entered = keyword (codes "Grid") ∷ sign 123 ∷ []
grid_told arrayed = keyword (codes "Grid") ∷ sign 123 ∷ keyword (codes "Array") ∷ []
grid_told ready = keyword (codes "Grid") ∷ sign 123 ∷ keyword (codes "Array") ∷ sign 58 ∷ []
grid_told (filled a) = grid_front a
grid_told (mapping a) = grid_front a ++ keyword (codes "Maps") ∷ []

abbrev pub whole_told : Whole → List Slot
whole_told (whole_structure ms) = structure_front ms
whole_told (whole_sequence cs) = sequence_front cs
whole_told (whole_grid a maps) = maps_front a maps

abbrev pub told : State → List Slot
told begun = []
told headed = keyword (codes "Dataset") ∷ []
told (inside levels) = level_told levels
told (declaring levels role stage) = role_told levels role ++ stage_told stage
told (opening levels kind) = level_told levels ++ keyword (kind_word kind) ∷ []
told (in_sequence levels cs) = level_told levels ++ sequence_front cs
told (in_grid levels stage) = level_told levels ++ grid_told stage
told (in_maps levels a maps) = level_told levels ++ maps_front a maps
told (closed levels whole) = level_told levels ++ whole_told whole ++ sign 125 ∷ []
told (called levels m) = level_told levels ++ front_of m
told (dataset_closed ms) = dataset_front ms ++ sign 125 ∷ []
told (dataset_called d) = (keyword (codes "Dataset") ∷ sign 123 ∷ spelling_all d.members) ++ sign 125 ∷ name d.name ∷ []
told (ended d) = (keyword (codes "Dataset") ∷ sign 123 ∷ spelling_all d.members) ++ sign 125 ∷ name d.name ∷ sign 59 ∷ []

pub flat_last : {X : Type 0} (f : X → List Slot) (xs : List X) (x : X) → flat_map f (xs ++ x ∷ []) ≡ flat_map f xs ++ f x
flat_last f [] x = append-nil (f x)
flat_last f (y ∷ xs) x = ap (λ zs. f y ++ zs) (flat_last f xs x) ∙ sym (append_assoc (f y) (flat_map f xs) (f x))

pub spelling_list : (ms : List Member) → spelling_all (members_of ms) ≡ flat_map spelling ms
spelling_list [] = refl
spelling_list (m ∷ ms) = ap (λ zs. spelling m ++ zs) (spelling_list ms)

-- one more member of a level
pub added_told : (levels : Levels) (m : Member) → level_told (add levels m) ≡ level_told levels ++ spelling m
added_told (top ms) m = ap (λ zs. keyword (codes "Dataset") ∷ sign 123 ∷ zs) (flat_last spelling ms m)
added_told (within outer ms) m =
    ap (λ zs. level_told outer ++ keyword (codes "Structure") ∷ sign 123 ∷ zs) (flat_last spelling ms m) ∙ sym (append_assoc (level_told outer) (structure_front ms) (spelling m))

-- these are the slots of the grammar
dims_slots_told : (most k : ℕ) (wanted : Option ℕ) (dims : List Dim) → slots_in (dim_slots most wanted k dims) ≡ flat_map dim_spelling dims
dims_slots_told most k wanted [] = refl
dims_slots_told most k wanted (dim ∷ dims) =
    ap (λ zs. sign 91 ∷ zs) (map-append (λ j. j.slot) (size_slots wanted dim.name dim.size) (dim_slots most wanted (k + 1) dims)
    ∙ ap₂ (λ xs ys. xs ++ ys) (one dim.name dim.size) (dims_slots_told most (k + 1) wanted dims))
  where
    one : (own : Option (List ℕ)) (n : ℕ) → slots_in (size_slots wanted own n) ≡ size_front own n ++ sign 93 ∷ []
    one None n = refl
    one (Some w) n = refl

array_slots_told : (most : ℕ) (wanted : Option ℕ) (first : Judged) (before : List (List ℕ)) (a : ArrayDecl) → first.slot ≡ keyword (type_word a.base) → slots_in (array_slots most wanted first before a) ≡ array_spelling a
array_slots_told most wanted first before a word =
    ap₂ (λ x zs. x ∷ name a.name ∷ zs) word (map-append (λ j. j.slot) (dim_slots most wanted 1 a.dims) (semicolon ∷ []) ∙ ap (λ zs. zs ++ sign 59 ∷ []) (dims_slots_told most 1 wanted a.dims))

column_slots_told : (depth n : ℕ) (before : List (List ℕ)) (columns : List Column) → slots_in (column_slots depth n before columns) ≡ flat_map column_spelling columns
column_slots_told depth n before [] = refl
column_slots_told depth n before (c ∷ columns) = ap (λ zs. column_spelling c ++ zs) (column_slots_told depth (n + 1) (c.name ∷ before) columns)

map_slots_told : (depth n : ℕ) (before : List (List ℕ)) (wanted : List ℕ) (maps : List ArrayDecl) → slots_in (map_slots depth n before wanted maps) ≡ flat_map array_spelling maps
map_slots_told depth n before wanted [] = refl
map_slots_told depth n before [] (m ∷ maps) =
    let first : Judged = record { slot = keyword (type_word m.base); broken = true } in
    map-append (λ j. j.slot) (array_slots 1 None first before m) (map_slots depth (n + 1) (m.name ∷ before) [] maps)
    ∙ ap₂ (λ xs ys. xs ++ ys) (array_slots_told 1 None first before m refl) (map_slots_told depth (n + 1) (m.name ∷ before) [] maps)
map_slots_told depth n before (w ∷ wanted) (m ∷ maps) =
    let first : Judged = head depth n (type_word m.base) in
    map-append (λ j. j.slot) (array_slots 1 (Some w) first before m) (map_slots depth (n + 1) (m.name ∷ before) wanted maps)
    ∙ ap₂ (λ xs ys. xs ++ ys) (array_slots_told 1 (Some w) first before m refl) (map_slots_told depth (n + 1) (m.name ∷ before) wanted maps)

-- a whole's name and semicolon
ending : (xs : List Slot) (own : List ℕ) → xs ++ sign 125 ∷ name own ∷ sign 59 ∷ [] ≡ (xs ++ sign 125 ∷ name own ∷ []) ++ sign 59 ∷ []
ending xs own = sym (append_assoc xs (sign 125 ∷ name own ∷ []) (sign 59 ∷ []))

whole_slots_told : (parts : List Judged) (inner : List Slot) (first : Slot) (last own : Judged) (n : List ℕ) → slots_in parts ≡ inner → last.slot ≡ sign 125 → own.slot ≡ name n
    → first ∷ sign 123 ∷ slots_in (parts ++ last ∷ own ∷ semicolon ∷ []) ≡ ((first ∷ sign 123 ∷ inner) ++ sign 125 ∷ name n ∷ []) ++ sign 59 ∷ []
whole_slots_told parts inner first last own n same is_last is_own =
    ap (λ zs. first ∷ sign 123 ∷ zs) (map-append (λ j. j.slot) parts (last ∷ own ∷ semicolon ∷ []) ∙ ap₂ (λ x y. slots_in parts ++ x ∷ y ∷ sign 59 ∷ []) is_last is_own ∙ ap (λ zs. zs ++ sign 125 ∷ name n ∷ sign 59 ∷ []) same)
    ∙ ending (first ∷ sign 123 ∷ inner) n

mutual
  slots_told : (m : Member) (depth n : ℕ) (before : List (List ℕ)) → slots_in (slots depth n before m) ≡ spelling m
  slots_told (scalar c) depth n before = refl
  slots_told (array a) depth n before = array_slots_told 32 None (head depth n (type_word a.base)) before a refl
  slots_told (structure own parts) depth n before =
      whole_slots_told (slots_all (depth + 1) (n + 1) [] parts) (spelling_all parts) (keyword (codes "Structure")) (fine (sign 125)) (named_slot before own) own (slots_all_told parts (depth + 1) (n + 1) []) refl refl
  slots_told (grid own a maps) depth n before =
      let arr : List Judged = array_slots 32 None (head (depth + 1) (n + 1) (type_word a.base)) [] a in
      let of_maps : List Judged = map_slots (depth + 1) (n + 2) (a.name ∷ []) (sizes a) maps in
      let later : List Judged = fine (keyword (codes "Maps")) ∷ colon ∷ of_maps in
      let parts : List Judged = fine (keyword (codes "Array")) ∷ colon ∷ arr ++ later in
      let inner : List Slot = keyword (codes "Array") ∷ sign 58 ∷ array_spelling a ++ keyword (codes "Maps") ∷ sign 58 ∷ flat_map array_spelling maps in
      let same : slots_in parts ≡ inner =
      ap (λ zs. keyword (codes "Array") ∷ sign 58 ∷ zs) (map-append (λ j. j.slot) arr later
      ∙ ap₂ (λ xs ys. xs ++ keyword (codes "Maps") ∷ sign 58 ∷ ys) (array_slots_told 32 None (head (depth + 1) (n + 1) (type_word a.base)) [] a refl) (map_slots_told (depth + 1) (n + 2) (a.name ∷ []) (sizes a) maps)) in
      whole_slots_told parts inner (keyword (codes "Grid")) (record { slot = sign 125; broken = nat_lt (length maps) (length a.dims) }) (named_slot before own) own same refl refl
  slots_told (sequence own columns) depth n before =
      whole_slots_told (column_slots (depth + 1) (n + 1) [] columns) (flat_map column_spelling columns) (keyword (codes "Sequence")) (fine (sign 125)) (named_slot before own) own (column_slots_told (depth + 1) (n + 1) [] columns) refl refl

  slots_all_told : (ms : Members) (depth n : ℕ) (before : List (List ℕ)) → slots_in (slots_all depth n before ms) ≡ spelling_all ms
  slots_all_told no_members depth n before = refl
  slots_all_told (member m ms) depth n before =
      map-append (λ j. j.slot) (slots depth n before m) (slots_all depth (n + count m) (name_of m ∷ before) ms)
      ∙ ap₂ (λ xs ys. xs ++ ys) (slots_told m depth n before) (slots_all_told ms depth (n + count m) (name_of m ∷ before))

pub dataset_told : (d : Dataset) → slots_in (dataset_slots d) ≡ told (ended d)
dataset_told d =
    whole_slots_told (slots_all 1 1 [] d.members) (spelling_all d.members) (keyword (codes "Dataset")) (fine (sign 125)) (fine (name d.name)) d.name (slots_all_told d.members 1 1 []) refl refl
    ∙ sym (ending (keyword (codes "Dataset") ∷ sign 123 ∷ spelling_all d.members) d.name)
