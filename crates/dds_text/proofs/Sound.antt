-- Every state that the machine reaches is spelled by the tokens that led to it.
use Rattle.std.proofs.Common.{◌≡◌, ℕ, ◌+◌, List, [], ◌∷◌, ◌++◌, length, Bool, true, false, ◌==◌, nat_lt, if◌then◌else◌, Some, None, option_map, refl, sym, ap, subst, ◌∙◌, append_assoc, append-nil, codes}
use Rattle.std.proofs.lemmas.Bool.{false≢true, and_from}
use Rattle.std.proofs.lemmas.Slice.Eq.{bytes_eq-Decides}
use Rattle.std.specs.Cmp.Lexicographic.{pointwise}
use Rattle.plain_lemmas.proofs.Truths.{both_true}
use Rattle.dap_types.specs.Model.{structure, grid, sequence, members_of, Dataset}
use Rattle.dap_types.specs.declared.declarations.ArrayDecl.{ArrayDecl}
use Rattle.dap_types.specs.declared.declarations.BaseType.{BaseType}
use Rattle.dap_types.specs.declared.declarations.Dim.{Dim}
use Rattle.dap_model.specs.Dds.{type_word}
use Rattle.dap_model.specs.Grammar.{Slot, keyword, name, size, sign, spells, is_other, has_dims, StandsFor}
use Rattle.dap_model.specs.Tokens.{Token}
use Rattle.dap_model.specs.Tokens as token
use Rattle.text_lines.specs.TypeWords.{base_of_word}
use Rattle.dds_text.specs.inner.Machine.{moved, keeps, step, begin, open_whole, end_size, take_size, open_dim, declare_step, grid_step, kind_word, kind_of_word, size_of_word, Steps}
use Rattle.dds_text.specs.inner.States.{Levels, top, within, Role, variable, column, grid_array, grid_map, Stage, typed, named, bracketed, worded, equated, measured, Kind, structures, sequences, grids, GridStage, entered, arrayed, ready, filled, mapping, Whole, whole_structure, whole_sequence, whole_grid, State, begun, headed, inside, declaring, opening, in_sequence, in_grid, in_maps, closed, called, dataset_closed, dataset_called, ended, add, wanted_size, is_out, is_past, depth_of, next_number, members_in, is_name_of, repeats, may_have_dims, most_dims, with_dim, declared, without_dims, behind_array, behind_scalar, behind_declaration, behind_brace, behind_level, with_name}
use Rattle.dds_text.proofs.Runs.{Spells}
use Rattle.dds_text.proofs.Spelling.{size_front, dim_spelling, typed_name, grid_front, maps_front, sequence_front, spelling_all, structure_front, dataset_front, level_told, role_told, flat_last, spelling_list, dataset_told}
use Rattle.dds_text.proofs.Tells.{DimsFit, NamedFits, Tells, Then, After, then_if, then_wants, then_map, then_or, adds, name_spelled, all_of_list, added, inner_last, array_ended, scalar_ended}
use Rattle.dds_text.proofs.WordKinds.{type_word_is, kind_word_is, size_is}

-- declarations
declared_fits : (role : Role) (base : BaseType) (w : List ℕ) → NamedFits role (declared base w)
declared_fits variable base w = tt
declared_fits (column cs) base w = refl
declared_fits grid_array base w = tt
declared_fits (grid_map g maps) base w = tt

may_fit : (role : Role) → may_have_dims role ≡ true → DimsFit role
may_fit variable may = tt
may_fit (column cs) may = absurd (false≢true may)
may_fit grid_array may = tt
may_fit (grid_map g maps) may = tt

dim_fits : (role : Role) (a : ArrayDecl) → DimsFit role → NamedFits role a
dim_fits variable a fits = tt
dim_fits (column cs) a fits = absurd fits
dim_fits grid_array a fits = tt
dim_fits (grid_map g maps) a fits = tt

dim_last : (r t xs ys : List Slot) → r ++ (t ++ (xs ++ ys)) ≡ (r ++ (t ++ xs)) ++ ys
dim_last r t xs ys = ap (λ zs. r ++ zs) (sym (append_assoc t xs ys)) ∙ sym (append_assoc r (t ++ xs) ys)

-- a word that turns out to be a size
respell : (xs : List Slot) (x y : Slot) (ts : List Token) → ((t : Token) → spells x t ≡ true → spells y t ≡ true) → Spells (xs ++ x ∷ []) ts → Spells (xs ++ y ∷ []) ts
respell [] x y [] also is = absurd (false≢true is)
respell [] x y (t ∷ ts) also is = let both = both_true (spells x t) (pointwise spells [] ts) is in and_from (spells y t) (pointwise spells [] ts) (also t both.0) both.1
respell (z ∷ xs) x y [] also is = absurd (false≢true is)
respell (z ∷ xs) x y (t ∷ ts) also is =
    let both = both_true (spells z t) (pointwise spells (xs ++ x ∷ []) ts) is in and_from (spells z t) (pointwise spells (xs ++ y ∷ []) ts) both.0 (respell xs x y ts also both.1)

name_or_size : (w : List ℕ) (n : ℕ) → size_of_word w ≡ Some n → (t : Token) → spells (name w) t ≡ true → spells (size n) t ≡ true
name_or_size w n found (token.sign c) is = absurd (false≢true is)
name_or_size w n found (token.word v) is = subst (λ z. spells (size n) (token.word z) ≡ true) (same_word w v is) (size_is n w found)
  where
    same_word : (w v : List ℕ) → spells (name w) (token.word v) ≡ true → w ≡ v
    same_word w v is = (bytes_eq-Decides w v).0 is

sized : (levels : Levels) (role : Role) (a : ArrayDecl) (w : List ℕ) (n : ℕ) (ts : List Token) → Tells (declaring levels role (worded a w)) ts → size_of_word w ≡ Some n
    → Tells (declaring levels role (measured a (record { name = None; size = n }))) ts
sized levels role a w n ts tells found =
    let front = role_told levels role in
    let own = typed_name a.base a.name a.dims in
    let before = subst (λ zs. Spells zs ts) (dim_last front own (sign 91 ∷ []) (name w ∷ [])) tells.0 in
    (subst (λ zs. Spells zs ts) (sym (dim_last front own (sign 91 ∷ []) (size n ∷ []))) (respell (front ++ (own ++ sign 91 ∷ [])) (name w) (size n) ts (name_or_size w n found) before), tells.1)

dim_ended : (levels : Levels) (role : Role) (a : ArrayDecl) (dim : Dim) (b : Bool) (ts : List Token) (t : Token) → Tells (declaring levels role (measured a dim)) ts → spells (sign 93) t ≡ true
    → After ts t (moved (declaring levels role (named (with_dim a dim))) b)
dim_ended levels role a dim b ts t tells is =
    adds (declaring levels role (measured a dim)) (declaring levels role (named (with_dim a dim))) b ts t (sign 93) tells is
    (ap (λ zs. role_told levels role ++ keyword (type_word a.base) ∷ name a.name ∷ zs) (flat_last dim_spelling a.dims dim)
    ∙ dim_last (role_told levels role) (typed_name a.base a.name a.dims) (sign 91 ∷ size_front dim.name dim.size) (sign 93 ∷ []))
    (tells.1.0, tells.1.1, dim_fits role (with_dim a dim) tells.1.2)

behind : (levels : Levels) (role : Role) (a : ArrayDecl) (ts : List Token) (t : Token) → Tells (declaring levels role (named a)) ts → spells (sign 59) t ≡ true → (b : Bool) → has_dims a ≡ b
    → Then (After ts t) (option_map keeps (if b then behind_array levels role a else behind_scalar levels role (without_dims a)))
behind levels role a ts t tells is true some = array_ended levels role a ts t tells some is
behind levels role a ts t tells is false none = scalar_ended levels role a ts t tells none is

declare_told : (levels : Levels) (role : Role) (stage : Stage) (ts : List Token) (t : Token) → Tells (declaring levels role stage) ts → Then (After ts t) (declare_step levels role stage t)
declare_told levels role (typed base) ts (token.word w) tells =
    adds (declaring levels role (typed base)) (declaring levels role (named (declared base w))) (repeats levels role w) ts (token.word w) (name w) tells (name_spelled w)
    (sym (append_assoc (role_told levels role) (keyword (type_word base) ∷ []) (name w ∷ []))) (tells.1.0, tells.1.1, declared_fits role base w)
declare_told levels role (typed base) ts (token.sign c) tells = tt
declare_told levels role (named a) ts (token.word w) tells = tt
declare_told levels role (named a) ts (token.sign c) tells =
    then_if (After ts (token.sign c)) (59 == c) (option_map keeps (behind_declaration levels role a)) (if 91 == c then open_dim levels role a else None)
    (λ is. behind levels role a ts (token.sign c) tells is (has_dims a) refl)
    (λ other. then_if (After ts (token.sign c)) (91 == c) (open_dim levels role a) None
    (λ is. then_if (After ts (token.sign c)) (may_have_dims role) (Some (moved (declaring levels role (bracketed a)) (nat_lt (most_dims role) (length a.dims + 1)))) None
    (λ may. adds (declaring levels role (named a)) (declaring levels role (bracketed a)) (nat_lt (most_dims role) (length a.dims + 1)) ts (token.sign c) (sign 91) tells is
    (sym (append_assoc (role_told levels role) (typed_name a.base a.name a.dims) (sign 91 ∷ []))) (tells.1.0, tells.1.1, may_fit role may))
    (λ may. tt))
    (λ fails. tt))
declare_told levels role (bracketed a) ts (token.sign c) tells = tt
declare_told levels role (bracketed a) ts (token.word w) tells =
    adds (declaring levels role (bracketed a)) (declaring levels role (worded a w)) false ts (token.word w) (name w) tells (name_spelled w)
    (dim_last (role_told levels role) (typed_name a.base a.name a.dims) (sign 91 ∷ []) (name w ∷ [])) tells.1
declare_told levels role (worded a w) ts (token.word v) tells = tt
declare_told levels role (worded a w) ts (token.sign c) tells =
    then_if (After ts (token.sign c)) (93 == c) (option_map (end_size levels role a) (size_of_word w)) (if 61 == c then Some (keeps (declaring levels role (equated a w))) else None)
    (λ is. then_map (After ts (token.sign c)) (end_size levels role a) (size_of_word w)
    (λ n found. dim_ended levels role a (record { name = None; size = n }) (is_other (wanted_size role) n) ts (token.sign c) (sized levels role a w n ts tells found) is))
    (λ other. then_if (After ts (token.sign c)) (61 == c) (Some (keeps (declaring levels role (equated a w)))) None
    (λ is. adds (declaring levels role (worded a w)) (declaring levels role (equated a w)) false ts (token.sign c) (sign 61) tells is
    (dim_last (role_told levels role) (typed_name a.base a.name a.dims) (sign 91 ∷ name w ∷ []) (sign 61 ∷ [])) tells.1)
    (λ fails. tt))
declare_told levels role (equated a dim) ts (token.sign c) tells = tt
declare_told levels role (equated a dim) ts (token.word w) tells =
    then_map (After ts (token.word w)) (take_size levels role a dim) (size_of_word w)
    (λ n found. adds (declaring levels role (equated a dim)) (declaring levels role (measured a (record { name = Some dim; size = n }))) (is_other (wanted_size role) n) ts (token.word w) (size n) tells (size_is n w found)
    (dim_last (role_told levels role) (typed_name a.base a.name a.dims) (sign 91 ∷ name dim ∷ sign 61 ∷ []) (size n ∷ [])) tells.1)
declare_told levels role (measured a dim) ts t tells =
    then_wants (After ts t) (sign 93) (declaring levels role (named (with_dim a dim))) t (λ is. dim_ended levels role a dim false ts t tells is)

-- Grids
grid_told_step : (levels : Levels) (stage : GridStage) (ts : List Token) (t : Token) → Tells (in_grid levels stage) ts → Then (After ts t) (grid_step levels stage t)
grid_told_step levels entered ts t tells =
    then_wants (After ts t) (keyword (codes "Array")) (in_grid levels arrayed) t
    (λ is. adds (in_grid levels entered) (in_grid levels arrayed) false ts t (keyword (codes "Array")) tells is (sym (append_assoc (level_told levels) (keyword (codes "Grid") ∷ sign 123 ∷ []) (keyword (codes "Array") ∷ []))) tells.1)
grid_told_step levels arrayed ts t tells =
    then_wants (After ts t) (sign 58) (in_grid levels ready) t
    (λ is. adds (in_grid levels arrayed) (in_grid levels ready) false ts t (sign 58) tells is (sym (append_assoc (level_told levels) (keyword (codes "Grid") ∷ sign 123 ∷ keyword (codes "Array") ∷ []) (sign 58 ∷ []))) tells.1)
grid_told_step levels ready ts (token.sign c) tells = tt
grid_told_step levels ready ts (token.word w) tells =
    then_map (After ts (token.word w)) (begin levels grid_array) (base_of_word w)
    (λ base found. adds (in_grid levels ready) (declaring levels grid_array (typed base)) (is_out levels grid_array) ts (token.word w) (keyword (type_word base)) tells (type_word_is base w found) refl (tells.1.0, tt, tt))
grid_told_step levels (filled a) ts t tells =
    then_wants (After ts t) (keyword (codes "Maps")) (in_grid levels (mapping a)) t
    (λ is. adds (in_grid levels (filled a)) (in_grid levels (mapping a)) false ts t (keyword (codes "Maps")) tells is (sym (append_assoc (level_told levels) (grid_front a) (keyword (codes "Maps") ∷ []))) tells.1)
grid_told_step levels (mapping a) ts t tells =
    then_wants (After ts t) (sign 58) (in_maps levels a []) t
    (λ is. adds (in_grid levels (mapping a)) (in_maps levels a []) false ts t (sign 58) tells is (dim_last (level_told levels) (grid_front a) (keyword (codes "Maps") ∷ []) (sign 58 ∷ []))
    (tells.1.0, and_from (has_dims a) true tells.1.1 refl))

-- levels
level_ended : (levels : Levels) (ts : List Token) (t : Token) → Tells (inside levels) ts → spells (sign 125) t ≡ true → After ts t (keeps (behind_level levels))
level_ended (top ms) ts t tells is = adds (inside (top ms)) (dataset_closed ms) false ts t (sign 125) tells is refl tells.1
level_ended (within outer ms) ts t tells is = adds (inside (within outer ms)) (closed outer (whole_structure ms)) false ts t (sign 125) tells is refl tells.1

brace_told : (levels : Levels) (kind : Kind) (ts : List Token) (t : Token) → Tells (opening levels kind) ts → spells (sign 123) t ≡ true → After ts t (keeps (behind_brace levels kind))
brace_told levels structures ts t tells is =
    adds (opening levels structures) (inside (within levels [])) false ts t (sign 123) tells is (sym (append_assoc (level_told levels) (keyword (codes "Structure") ∷ []) (sign 123 ∷ []))) (tells.1, refl)
brace_told levels sequences ts t tells is =
    adds (opening levels sequences) (in_sequence levels []) false ts t (sign 123) tells is (sym (append_assoc (level_told levels) (keyword (codes "Sequence") ∷ []) (sign 123 ∷ []))) tells.1
brace_told levels grids ts t tells is =
    adds (opening levels grids) (in_grid levels entered) false ts t (sign 123) tells is (sym (append_assoc (level_told levels) (keyword (codes "Grid") ∷ []) (sign 123 ∷ []))) (tells.1, tt)

name_told : (levels : Levels) (whole : Whole) (w : List ℕ) (ts : List Token) → Tells (closed levels whole) ts → After ts (token.word w) (moved (called levels (with_name whole w)) (is_name_of (members_in levels) w))
name_told levels (whole_structure ms) w ts tells =
    adds (closed levels (whole_structure ms)) (called levels (structure w (members_of ms))) (is_name_of (members_in levels) w) ts (token.word w) (name w) tells (name_spelled w)
    (ap (λ zs. level_told levels ++ ((keyword (codes "Structure") ∷ sign 123 ∷ zs) ++ sign 125 ∷ name w ∷ [])) (spelling_list ms) ∙ inner_last (level_told levels) (structure_front ms) (sign 125 ∷ []) (name w ∷ []))
    (tells.1.0, all_of_list ms ∙ tells.1.1)
name_told levels (whole_sequence cs) w ts tells =
    adds (closed levels (whole_sequence cs)) (called levels (sequence w cs)) (is_name_of (members_in levels) w) ts (token.word w) (name w) tells (name_spelled w)
    (inner_last (level_told levels) (sequence_front cs) (sign 125 ∷ []) (name w ∷ [])) (tells.1.0, refl)
name_told levels (whole_grid a maps) w ts tells =
    adds (closed levels (whole_grid a maps)) (called levels (grid w a maps)) (is_name_of (members_in levels) w) ts (token.word w) (name w) tells (name_spelled w)
    (inner_last (level_told levels) (maps_front a maps) (sign 125 ∷ []) (name w ∷ [])) tells.1

step_told : (s : State) (ts : List Token) (t : Token) → Tells s ts → Then (After ts t) (step s t)
step_told begun ts t tells = then_wants (After ts t) (keyword (codes "Dataset")) headed t (λ is. adds begun headed false ts t (keyword (codes "Dataset")) tells is refl tt)
step_told headed ts t tells = then_wants (After ts t) (sign 123) (inside (top [])) t (λ is. adds headed (inside (top [])) false ts t (sign 123) tells is refl refl)
step_told (inside levels) ts (token.word w) tells =
    then_or (After ts (token.word w)) (option_map (begin levels variable) (base_of_word w)) (option_map (open_whole levels) (kind_of_word w))
    (then_map (After ts (token.word w)) (begin levels variable) (base_of_word w)
    (λ base found. adds (inside levels) (declaring levels variable (typed base)) (is_out levels variable) ts (token.word w) (keyword (type_word base)) tells (type_word_is base w found) refl (tells.1, tt, tt)))
    (then_map (After ts (token.word w)) (open_whole levels) (kind_of_word w)
    (λ kind found. adds (inside levels) (opening levels kind) (is_past (depth_of levels) (next_number levels)) ts (token.word w) (keyword (kind_word kind)) tells (kind_word_is kind w found) refl tells.1))
step_told (inside levels) ts (token.sign c) tells = then_wants (After ts (token.sign c)) (sign 125) (behind_level levels) (token.sign c) (level_ended levels ts (token.sign c) tells)
step_told (declaring levels role stage) ts t tells = declare_told levels role stage ts t tells
step_told (opening levels kind) ts t tells = then_wants (After ts t) (sign 123) (behind_brace levels kind) t (brace_told levels kind ts t tells)
step_told (in_sequence levels cs) ts (token.word w) tells =
    then_map (After ts (token.word w)) (begin levels (column cs)) (base_of_word w)
    (λ base found. adds (in_sequence levels cs) (declaring levels (column cs) (typed base)) (is_out levels (column cs)) ts (token.word w) (keyword (type_word base)) tells (type_word_is base w found) refl (tells.1, tt, tt))
step_told (in_sequence levels cs) ts (token.sign c) tells =
    then_wants (After ts (token.sign c)) (sign 125) (closed levels (whole_sequence cs)) (token.sign c)
    (λ is. adds (in_sequence levels cs) (closed levels (whole_sequence cs)) false ts (token.sign c) (sign 125) tells is refl (tells.1, tt))
step_told (in_grid levels stage) ts t tells = grid_told_step levels stage ts t tells
step_told (in_maps levels a maps) ts (token.word w) tells =
    then_map (After ts (token.word w)) (begin levels (grid_map a maps)) (base_of_word w)
    (λ base found. adds (in_maps levels a maps) (declaring levels (grid_map a maps) (typed base)) (is_out levels (grid_map a maps)) ts (token.word w) (keyword (type_word base)) tells (type_word_is base w found) refl (tells.1.0, tells.1.1, tt))
step_told (in_maps levels a maps) ts (token.sign c) tells =
    then_if (After ts (token.sign c)) (125 == c) (Some (moved (closed levels (whole_grid a maps)) (nat_lt (length maps) (length a.dims)))) None
    (λ is. adds (in_maps levels a maps) (closed levels (whole_grid a maps)) (nat_lt (length maps) (length a.dims)) ts (token.sign c) (sign 125) tells is refl tells.1)
    (λ fails. tt)
step_told (closed levels whole) ts (token.word w) tells = name_told levels whole w ts tells
step_told (closed levels whole) ts (token.sign c) tells = tt
step_told (called levels m) ts t tells = then_wants (After ts t) (sign 59) (inside (add levels m)) t (λ is. added levels m ts t (called levels m) tells tells.1.0 tells.1.1 is refl)
step_told (dataset_closed ms) ts (token.word w) tells =
    adds (dataset_closed ms) (dataset_called (record { name = w; members = members_of ms })) false ts (token.word w) (name w) tells (name_spelled w)
    (ap (λ zs. (keyword (codes "Dataset") ∷ sign 123 ∷ zs) ++ sign 125 ∷ name w ∷ []) (spelling_list ms) ∙ sym (append_assoc (dataset_front ms) (sign 125 ∷ []) (name w ∷ [])))
    (all_of_list ms ∙ tells.1)
step_told (dataset_closed ms) ts (token.sign c) tells = tt
step_told (dataset_called d) ts t tells =
    then_wants (After ts t) (sign 59) (ended d) t
    (λ is. adds (dataset_called d) (ended d) false ts t (sign 59) tells is (sym (append_assoc (keyword (codes "Dataset") ∷ sign 123 ∷ spelling_all d.members) (sign 125 ∷ name d.name ∷ []) (sign 59 ∷ []))) tells.1)
step_told (ended d) ts t tells = tt

steps_told : (s to : State) (before ts : List Token) (bs : List Bool) → Steps s ts bs to → Tells s before → Tells to (before ++ ts)
steps_told s to before [] [] is tells = subst (λ zs. Tells to zs) (sym (append-nil before)) (subst (λ z. Tells z before) is tells)
steps_told s to before [] (b ∷ bs) is tells = absurd is
steps_told s to before (t ∷ ts) [] is tells = absurd is
steps_told s to before (t ∷ ts) (b ∷ bs) (next, is, rest) tells =
    subst (λ zs. Tells to zs) (append_assoc before (t ∷ []) ts) (steps_told next to (before ++ t ∷ []) ts bs rest (subst (Then (After before t)) is (step_told s before t tells)))

-- what a state tells is spelled by the tokens that led to it
pub reached : (s : State) (ts : List Token) (bs : List Bool) → Steps begun ts bs s → Tells s ts
reached s ts bs is = steps_told begun s [] ts bs is (refl, tt)

-- and a dataset that is read to its end is the one that the tokens stand for
pub sound : (ts : List Token) (bs : List Bool) (d : Dataset) → Steps begun ts bs (ended d) → StandsFor ts d
sound ts bs d is = let tells = reached (ended d) ts bs is in (tells.1, subst (λ zs. Spells zs ts) (sym (dataset_told d)) tells.0)
