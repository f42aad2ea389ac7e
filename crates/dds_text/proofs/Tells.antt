-- What the machine has read is what its state tells: every state that it reaches is spelled by the tokens.
use Rattle.std.proofs.Common.{◌≡◌, ℕ, List, [], ◌∷◌, ◌++◌, length, Bool, true, false, ◌&&◌, nat_lt, if◌then◌else◌, Option, Some, None, option_map, refl, sym, ap, subst, ◌∙◌, append_assoc, codes, arith}
use Rattle.std.proofs.lemmas.Bool.{and_from}
use Rattle.std.proofs.lemmas.Bool.Decides.{nat_tests}
use Rattle.std.proofs.lemmas.Slice.Eq.{bytes_eq-Decides}
use Rattle.std.specs.Bool.{⊤}
use Rattle.std.specs.List.{list_all, flat_map}
use Rattle.std.specs.Option.{option_or}
use Rattle.plain_lemmas.proofs.Truths.{both_true}
use Rattle.dap_types.specs.Model.{Member, scalar, array, members_of}
use Rattle.dap_types.specs.declared.declarations.ArrayDecl.{ArrayDecl}
use Rattle.dap_types.specs.declared.declarations.Column.{Column}
use Rattle.dap_types.specs.declared.declarations.Dim.{Dim}
use Rattle.dap_model.specs.Grammar.{Slot, keyword, name, sign, spells, has_dims, have_dims, all_have_dims}
use Rattle.dap_model.specs.Tokens.{Token}
use Rattle.dap_model.specs.Tokens as token
use Rattle.dds_text.specs.inner.Machine.{Moved, moved, keeps, wants}
use Rattle.dds_text.specs.inner.States.{Levels, top, within, Role, variable, column, grid_array, grid_map, Stage, typed, named, GridStage, filled, mapping, Whole, whole_structure, whole_sequence, whole_grid, State, begun, headed, inside, declaring, opening, in_sequence, in_grid, in_maps, closed, called, dataset_closed, dataset_called, ended, add, without_dims, behind_array, behind_scalar}
use Rattle.dds_text.proofs.Runs.{Spells, spells_together}
use Rattle.dds_text.proofs.Spelling.{typed_name, column_spelling, array_spelling, grid_front, maps_front, sequence_front, front_of, level_told, told, flat_last, added_told}

-- each array has a dimension, and a column none
abbrev pub MembersFit : List Member → Type 0
MembersFit ms = list_all have_dims ms ≡ true

abbrev pub LevelsFit : Levels → Type 0
LevelsFit (top ms) = MembersFit ms
LevelsFit (within outer ms) = LevelsFit outer × MembersFit ms

abbrev pub RoleFits : Role → Type 0
RoleFits (grid_map a maps) = list_all has_dims (a ∷ maps) ≡ true
RoleFits role = ⊤

abbrev pub DimsFit : Role → Type 0
DimsFit (column cs) = ⊥
DimsFit role = ⊤

abbrev pub NamedFits : Role → ArrayDecl → Type 0
NamedFits (column cs) a = has_dims a ≡ false
NamedFits role a = ⊤

abbrev pub StageFits : Role → Stage → Type 0
StageFits role (typed base) = ⊤
StageFits role (named a) = NamedFits role a
StageFits role stage = DimsFit role

abbrev pub GridFits : GridStage → Type 0
GridFits (filled a) = has_dims a ≡ true
GridFits (mapping a) = has_dims a ≡ true
GridFits stage = ⊤

abbrev pub WholeFits : Whole → Type 0
WholeFits (whole_structure ms) = MembersFit ms
WholeFits (whole_sequence cs) = ⊤
WholeFits (whole_grid a maps) = list_all has_dims (a ∷ maps) ≡ true

abbrev pub Fits : State → Type 0
Fits begun = ⊤
Fits headed = ⊤
Fits (inside levels) = LevelsFit levels
Fits (declaring levels role stage) = LevelsFit levels × RoleFits role × StageFits role stage
Fits (opening levels kind) = LevelsFit levels
Fits (in_sequence levels cs) = LevelsFit levels
Fits (in_grid levels stage) = LevelsFit levels × GridFits stage
Fits (in_maps levels a maps) = LevelsFit levels × (list_all has_dims (a ∷ maps) ≡ true)
Fits (closed levels whole) = LevelsFit levels × WholeFits whole
Fits (called levels m) = LevelsFit levels × (have_dims m ≡ true)
Fits (dataset_closed ms) = MembersFit ms
Fits (dataset_called d) = all_have_dims d.members ≡ true
Fits (ended d) = all_have_dims d.members ≡ true

-- these tokens lead to the state
abbrev pub Tells : State → List Token → Type 0
Tells s ts = Spells (told s) ts × Fits s

-- a property of the answer, if there is one
abbrev pub Then : (Moved → Type 0) → Option Moved → Type 0
Then P None = ⊤
Then P (Some m) = P m

pub then_if : (P : Moved → Type 0) (b : Bool) (x y : Option Moved) → (b ≡ true → Then P x) → (b ≡ false → Then P y) → Then P (if b then x else y)
then_if P true x y first second = first refl
then_if P false x y first second = second refl

pub then_wants : (P : Moved → Type 0) (slot : Slot) (next : State) (t : Token) → (spells slot t ≡ true → P (keeps next)) → Then P (wants slot next t)
then_wants P slot next t first = then_if P (spells slot t) (Some (keeps next)) None first (λ fails. tt)

pub then_map : {X : Type 0} (P : Moved → Type 0) (f : X → Moved) (o : Option X) → ((x : X) → o ≡ Some x → P (f x)) → Then P (option_map f o)
then_map P f None first = tt
then_map P f (Some x) first = first x refl

pub then_or : (P : Moved → Type 0) (x y : Option Moved) → Then P x → Then P y → Then P (option_or x y)
then_or P None y first second = second
then_or P (Some m) y first second = first

-- the next state tells one more slot, which the token spells
abbrev pub After : List Token → Token → Moved → Type 0
After ts t m = Tells m.next (ts ++ t ∷ [])

one_spelled : (slot : Slot) (t : Token) → spells slot t ≡ true → Spells (slot ∷ []) (t ∷ [])
one_spelled slot t is = and_from (spells slot t) true is refl

pub adds : (s next : State) (b : Bool) (ts : List Token) (t : Token) (slot : Slot) → Tells s ts → spells slot t ≡ true → told next ≡ told s ++ slot ∷ [] → Fits next → After ts t (moved next b)
adds s next b ts t slot tells is more fits =
    (subst (λ slots. Spells slots (ts ++ t ∷ [])) (sym more) (spells_together (told s) (slot ∷ []) ts (t ∷ []) tells.0 (one_spelled slot t is)), fits)

pub name_spelled : (w : List ℕ) → spells (name w) (token.word w) ≡ true
name_spelled w = (bytes_eq-Decides w w).1 refl

-- one more member, all of which have their dimensions
all_last : {X : Type 0} (test : X → Bool) (xs : List X) (x : X) → list_all test xs ≡ true → test x ≡ true → list_all test (xs ++ x ∷ []) ≡ true
all_last test [] x all one = and_from (test x) true one refl
all_last test (y ∷ xs) x all one = let both = both_true (test y) (list_all test xs) all in and_from (test y) (list_all test (xs ++ x ∷ [])) both.0 (all_last test xs x both.1 one)

added_fits : (levels : Levels) (m : Member) → LevelsFit levels → have_dims m ≡ true → LevelsFit (add levels m)
added_fits (top ms) m fits one = all_last have_dims ms m fits one
added_fits (within outer ms) m fits one = (fits.0, all_last have_dims ms m fits.1 one)

pub all_of_list : (ms : List Member) → all_have_dims (members_of ms) ≡ list_all have_dims ms
all_of_list [] = refl
all_of_list (m ∷ ms) = ap (λ b. have_dims m && b) (all_of_list ms)

no_dims : (dims : List Dim) → nat_lt 0 (length dims) ≡ false → dims ≡ []
no_dims [] none = refl
no_dims (dim ∷ dims) none = grind (arith, nat_tests)

-- behind a declaration
pub added : (levels : Levels) (m : Member) (ts : List Token) (t : Token) (s : State) → Tells s ts → LevelsFit levels → have_dims m ≡ true → spells (sign 59) t ≡ true → told s ≡ level_told levels ++ front_of m
    → After ts t (keeps (inside (add levels m)))
added levels m ts t s tells fits some is same =
    adds s (inside (add levels m)) false ts t (sign 59) tells is
    (added_told levels m ∙ sym (append_assoc (level_told levels) (front_of m) (sign 59 ∷ [])) ∙ ap (λ zs. zs ++ sign 59 ∷ []) (sym same))
    (added_fits levels m fits some)

pub inner_last : (a b c d : List Slot) → a ++ (b ++ (c ++ d)) ≡ ((a ++ b) ++ c) ++ d
inner_last a b c d = sym (append_assoc (a ++ b) c d ∙ append_assoc a b (c ++ d))

map_told : (levels : Levels) (g : ArrayDecl) (maps : List ArrayDecl) (a : ArrayDecl)
    → level_told levels ++ maps_front g (maps ++ a ∷ []) ≡ ((level_told levels ++ maps_front g maps) ++ typed_name a.base a.name a.dims) ++ sign 59 ∷ []
map_told levels g maps a =
    ap (λ zs. level_told levels ++ (grid_front g ++ keyword (codes "Maps") ∷ sign 58 ∷ zs)) (flat_last array_spelling maps a)
    ∙ ap (λ zs. level_told levels ++ zs) (sym (append_assoc (grid_front g) (keyword (codes "Maps") ∷ sign 58 ∷ flat_map array_spelling maps) (array_spelling a)))
    ∙ inner_last (level_told levels) (maps_front g maps) (typed_name a.base a.name a.dims) (sign 59 ∷ [])

column_told : (levels : Levels) (cs : List Column) (c : Column) → level_told levels ++ sequence_front (cs ++ c ∷ []) ≡ ((level_told levels ++ sequence_front cs) ++ typed_name c.base c.name []) ++ sign 59 ∷ []
column_told levels cs c =
    ap (λ zs. level_told levels ++ keyword (codes "Sequence") ∷ sign 123 ∷ zs) (flat_last column_spelling cs c)
    ∙ inner_last (level_told levels) (sequence_front cs) (typed_name c.base c.name []) (sign 59 ∷ [])

pub array_ended : (levels : Levels) (role : Role) (a : ArrayDecl) (ts : List Token) (t : Token) → Tells (declaring levels role (named a)) ts → has_dims a ≡ true → spells (sign 59) t ≡ true
    → Then (After ts t) (option_map keeps (behind_array levels role a))
array_ended levels variable a ts t tells some is = added levels (array a) ts t (declaring levels variable (named a)) tells tells.1.0 some is refl
array_ended levels (column cs) a ts t tells some is = tt
array_ended levels grid_array a ts t tells some is =
    adds (declaring levels grid_array (named a)) (in_grid levels (filled a)) false ts t (sign 59) tells is
    (inner_last (level_told levels) (keyword (codes "Grid") ∷ sign 123 ∷ keyword (codes "Array") ∷ sign 58 ∷ []) (typed_name a.base a.name a.dims) (sign 59 ∷ [])) (tells.1.0, some)
array_ended levels (grid_map g maps) a ts t tells some is =
    let both = both_true (has_dims g) (list_all has_dims maps) tells.1.1 in
    adds (declaring levels (grid_map g maps) (named a)) (in_maps levels g (maps ++ a ∷ [])) false ts t (sign 59) tells is (map_told levels g maps a)
    (tells.1.0, and_from (has_dims g) (list_all has_dims (maps ++ a ∷ [])) both.0 (all_last has_dims maps a both.1 some))

pub scalar_ended : (levels : Levels) (role : Role) (a : ArrayDecl) (ts : List Token) (t : Token) → Tells (declaring levels role (named a)) ts → has_dims a ≡ false → spells (sign 59) t ≡ true
    → Then (After ts t) (option_map keeps (behind_scalar levels role (without_dims a)))
scalar_ended levels variable a ts t tells none is =
    added levels (scalar (without_dims a)) ts t (declaring levels variable (named a)) tells tells.1.0 refl is
    (ap (λ dims. level_told levels ++ typed_name a.base a.name dims) (no_dims a.dims none))
scalar_ended levels (column cs) a ts t tells none is =
    adds (declaring levels (column cs) (named a)) (in_sequence levels (cs ++ without_dims a ∷ [])) false ts t (sign 59) tells is
    (column_told levels cs (without_dims a) ∙ ap (λ dims. ((level_told levels ++ sequence_front cs) ++ typed_name a.base a.name dims) ++ sign 59 ∷ []) (sym (no_dims a.dims none)))
    tells.1.0
scalar_ended levels grid_array a ts t tells none is = tt
scalar_ended levels (grid_map g maps) a ts t tells none is = tt
