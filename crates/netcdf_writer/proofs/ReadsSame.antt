-- A file that can be stored is read back as its own dataset.
use Rattle.std.proofs.Common.{◌≡◌, ℕ, zero, suc, ◌<◌, ◌≤◌, Bool, true, false, not, ◌&&◌, ◌||◌, ◌==◌, cond, List, [], ◌∷◌, ◌++◌, length, map, filter, find, take, Option, Some, None, is_some, refl, ap, sym, subst, ◌∙◌, arith, length-take, nat_le, nat_lt, if◌then◌else◌}
use Rattle.std.specs.Prelude.{slice_get}
use Rattle.std.proofs.lemmas.Bool.{eqb-true, true≢false, or_parts, not-false}
use Rattle.std.proofs.lemmas.Bool.Decides.{nat_tests}
use Rattle.std.specs.List.{AllByRecursion, AllZip, cons_option, list_all, list_any}
use Rattle.std.specs.Option.{option_map_or}
use Rattle.std.specs.Str.{bytes_eq}
use Rattle.plain_lemmas.proofs.Lists.{bytes_itself}
use Rattle.dap_types.specs.Limits.{most_elements, most_header, most_piece}
use Rattle.dap_types.specs.Model.{Member, scalar, array, structure, grid, sequence, Dataset, Tree, many, items, members_of, name_of, trees_of}
use Rattle.dap_types.specs.Names.{file_id}
use Rattle.dap_types.specs.declared.declarations.BaseType.{BaseType}
use Rattle.dap_types.specs.declared.declarations.Dim.{Dim}
use Rattle.dap_model.specs.Laws.{is_number}
use Rattle.file_names.specs.Names.{dataset_name}
use Rattle.netcdf_source.specs.Mapping.{are_small, array_of, base_of, column_of, dataset_of, dim_of, element_dimensions, element_size, has_texts, is_char_type, is_empty, is_grid, is_long, is_offered, maps_of as maps_there, member_of, name_at, size_at}
use Rattle.netcdf_source.specs.Types.{size_of}
use Rattle.netcdf_source.specs.Values.{file_trees, member_tree, tree_of}
use Rattle.netcdf_source.specs.declared.external_type.ExternalType.{ExternalType}
use Rattle.netcdf_source.specs.declared.external_type.ExternalType.TheVariants.{Byte, Char, Short, Int, Float, Double, UByte, UShort, UInt, Int64, UInt64}
use Rattle.netcdf_source.specs.declared.header.Contents.{Contents}
use Rattle.netcdf_source.specs.declared.header.Dimension.{Dimension}
use Rattle.netcdf_source.specs.declared.header.Variable as source
use Rattle.netcdf_source.specs.inner.Sound.{InTurn, IsId, IsVariable}
use Rattle.netcdf_writer.proofs.Apart.{NoCauses, all_kept, has_none, no_causes, no_map_clash}
use Rattle.netcdf_writer.proofs.DimsBack.{IsGoodDim, find_any, found_other}
use Rattle.netcdf_writer.proofs.FileNames.{name_again}
use Rattle.netcdf_writer.proofs.ReadsBack.{all_dimensions, reads_back}
use Rattle.netcdf_writer.proofs.Seen.{AreClear, IsClear, IsDimOf, array_from, base_plain, column_from, found_all, header_sound, is_grid_among, is_map_at, is_own, map_at, maps_among, member_from, members_same, names_apart, offered_in, seen, seen_as, sound_apart, tree_from, trees_same}
use Rattle.netcdf_writer.proofs.Storable.{IsGoodVariable, storable}
use Rattle.netcdf_writer.specs.Causes.{has_bad_name, is_misnamed, is_other_kind, is_other_than, map_clashes, unsavable}
use Rattle.netcdf_writer.specs.File.{cdf}
use Rattle.netcdf_writer.specs.Laws.{IsReadAs, ReadsSame}
use Rattle.netcdf_writer.specs.Names.{is_file_name}
use Rattle.netcdf_writer.specs.Variables.{Top, Variable, all_maps, array_variables, dim_name, has_name, is_array, is_new, maps_of, own, stored, stored_from, top_named, tops_of, variables}

none_left : {X : Type 0} (xs : List X) → (length xs == 0) ≡ true → xs ≡ []
none_left [] e = refl
none_left (x ∷ xs) e = let none : length (x ∷ xs) ≡ 0 = eqb-true (length (x ∷ xs)) 0 e in absurd (omega (arith, none))

-- ---- what can be stored of a header can be undone

abbrev HasIds : Contents → source.Variable → Type 0
HasIds c v = AllByRecursion (λ i. i < length c.dimensions) v.dimensions

ids_within : (c : Contents) (before ids : List ℕ) → InTurn (IsId c.dimensions) before ids → AllByRecursion (λ i. i < length c.dimensions) ids
unfolding InTurn
ids_within c before [] turn = tt
ids_within c before (i ∷ ids) turn = (turn.0.within, ids_within c (before ++ i ∷ []) ids turn.1)

have_ids : (c : Contents) (before vs : List source.Variable) → InTurn (IsVariable c.dimensions) before vs → AllByRecursion (HasIds c) vs
unfolding InTurn
have_ids c before [] turn = tt
have_ids c before (v ∷ vs) turn = (ids_within c [] v.dimensions turn.0.ids, have_ids c (before ++ v ∷ []) vs turn.1)

get_within : {X : Type 0} (xs : List X) (i : ℕ) → i < length xs → (x : X) × (slice_get xs i ≡ Some x)
get_within [] i few = absurd (omega (arith, few))
get_within (x ∷ xs) zero few = (x, refl)
get_within (x ∷ xs) (suc i) few = get_within xs i (omega (arith, few))

name_got : (c : Contents) (i : ℕ) (d : Dimension) → slice_get c.dimensions i ≡ Some d → name_at c i ≡ d.name
unfolding name_at
name_got c i d get = ap (λ (o : Option Dimension). option_map_or (λ e. e.name) o []) get

abbrev has_bad_dim : Dim → Bool
has_bad_dim d = not (is_file_name (dim_name d))

dims_clear : (c : Contents) (ids : List ℕ) → AllByRecursion (λ i. i < length c.dimensions) ids → list_any has_bad_dim (map (dim_of c) ids) ≡ false → AllByRecursion (IsDimOf c) ids
dims_clear c [] within valid = tt
dims_clear c (i ∷ ids) within valid =
    let (d, get) = get_within c.dimensions i within.0 in
    let both = or_parts (not (is_file_name (file_id (name_at c i)))) (list_any has_bad_dim (map (dim_of c) ids)) valid in
    let file : is_file_name (file_id d.name) ≡ true = ap (λ n. is_file_name (file_id n)) (sym (name_got c i d get)) ∙ not-false (is_file_name (file_id (name_at c i))) both.0 in
    (record { found = d; get = get; back = name_again d.name file }, dims_clear c ids within.1 both.1)

-- what a member that can be stored says of its variable
record IsFit (c : Contents) (v : source.Variable) : Type 0 where
  number : is_number (base_of v.external_type) ≡ true
  file : is_file_name (file_id v.name) ≡ true
  dims : list_any has_bad_dim (map (dim_of c) (element_dimensions c v)) ≡ false

fit_by : (c : Contents) (v : source.Variable) (e g : Bool) → is_empty (element_dimensions c v) ≡ e
    → is_other_kind (if e then scalar (column_of v) else if g then grid (file_id v.name) (array_of c v) (maps_there c v.dimensions) else array (array_of c v)) ≡ false
    → has_bad_name (if e then scalar (column_of v) else if g then grid (file_id v.name) (array_of c v) (maps_there c v.dimensions) else array (array_of c v)) ≡ false → IsFit c v
unfolding is_other_kind has_bad_name is_misnamed
fit_by c v true g is kind names = record {
  number = not-false (is_number (base_of v.external_type)) kind;
  file = not-false (is_file_name (file_id v.name)) names;
  dims = ap (λ ids. list_any has_bad_dim (map (dim_of c) ids)) (none_left (element_dimensions c v) is);
}
fit_by c v false true is kind names =
    let k = or_parts (not (is_number (base_of v.external_type))) _ kind in
    let n = or_parts (is_misnamed (array_of c v)) _ names in
    let m = or_parts (not (is_file_name (file_id v.name))) (list_any has_bad_dim (map (dim_of c) (element_dimensions c v))) n.0 in
    record { number = not-false (is_number (base_of v.external_type)) k.0; file = not-false (is_file_name (file_id v.name)) m.0; dims = m.1 }
fit_by c v false false is kind names =
    let n = or_parts (is_misnamed (array_of c v)) false names in
    let m = or_parts (not (is_file_name (file_id v.name))) (list_any has_bad_dim (map (dim_of c) (element_dimensions c v))) n.0 in
    record { number = not-false (is_number (base_of v.external_type)) kind; file = not-false (is_file_name (file_id v.name)) m.0; dims = m.1 }

fit_of : (c : Contents) (v : source.Variable) → is_other_kind (member_of c v) ≡ false → has_bad_name (member_of c v) ≡ false → IsFit c v
unfolding member_of
fit_of c v kind names = fit_by c v (is_empty (element_dimensions c v)) (is_grid c v) refl kind names

clear_one : (c : Contents) (v : source.Variable) → is_offered c v ≡ true → HasIds c v → IsFit c v → IsClear c v
clear_one c v offered within fit =
    let whole = all_dimensions c v (base_plain v.external_type fit.number) in
    record { offered = offered; number = fit.number; back = name_again v.name fit.file; dims = dims_clear c v.dimensions within (ap (λ ids. list_any has_bad_dim (map (dim_of c) ids)) (sym whole) ∙ fit.dims) }

abbrev top_of : Contents → List ℕ → source.Variable → Top
top_of c file v = (member_of c v, member_tree c file v)

clear_all : (c : Contents) (file : List ℕ) (all earlier : List Top) (vs : List source.Variable) → NoCauses all earlier (map (top_of c file) vs) → AllByRecursion (λ v. is_offered c v ≡ true) vs → AllByRecursion (HasIds c) vs
    → AllByRecursion (IsClear c) vs
clear_all c file all earlier [] none offered within = tt
clear_all c file all earlier (v ∷ vs) none offered within =
    let facts = has_none all earlier (top_of c file v) none.0 in
    (clear_one c v offered.0 within.0 (fit_of c v facts.kind facts.bad_name), clear_all c file all (earlier ++ top_of c file v ∷ []) vs none.1 offered.1 within.1)

all_passed : {X : Type 0} (p : X → Bool) (xs : List X) → AllByRecursion (λ x. p x ≡ true) (filter p xs)
all_passed p [] = tt
all_passed {X} p (x ∷ xs) = chosen (p x) refl (all_passed p xs)
  where
    chosen : (b : Bool) → p x ≡ b → AllByRecursion (λ y. p y ≡ true) (filter p xs) → AllByRecursion (λ y. p y ≡ true) (cond b (x ∷ filter p xs) (filter p xs))
    chosen true e rest = (e, rest)
    chosen false e rest = rest

tops_both : {X : Type 0} (f : X → Member) (g : X → Tree) (xs : List X) → tops_of (members_of (map f xs)) (map g xs) ≡ map (λ x. (f x, g x)) xs
tops_both f g [] = refl
tops_both f g (x ∷ xs) = ap (λ l. (f x, g x) ∷ l) (tops_both f g xs)

-- ---- its variables are those that it offers

abbrev top_from : List Variable → Variable → Top
top_from vs v = (member_from vs v, tree_from vs v)

no_empty_grid : (a b c d : Bool) → (not a && not b && c && d) ≡ true → b ≡ false
no_empty_grid a true c d e = absurd (no_end (not a) c d e)
  where
    no_end : (x y z : Bool) → (x && false && y && z) ≡ true → ⊥
    no_end true y z f = cc f
    no_end false y z f = cc f
no_empty_grid a false c d e = refl

abbrev with_dims : Variable → List Dim → Variable
with_dims v dims = record { name = v.name; base = v.base; dims = dims; tree = v.tree }

own_by : (vs : List Variable) (v : Variable) (e g : Bool) → (length v.dims == 0) ≡ e → is_grid_among vs v ≡ g
    → own (if e then scalar (column_from v) else if g then grid v.name (array_from v) (map array_from (maps_among vs v.dims)) else array (array_from v), if g then many (trees_of (v.tree ∷ map (λ w. w.tree) (maps_among vs v.dims))) else v.tree) ≡ v ∷ []
unfolding own
own_by vs v true true is whole = absurd (true≢false (sym is ∙ no_empty_grid (is_own v) (length v.dims == 0) (names_apart v.dims) (list_all (λ d. is_some (map_at vs d)) v.dims) whole))
own_by vs v true false is whole = ap (λ dims. with_dims v dims ∷ []) (sym (none_left v.dims is))
own_by vs v false true is whole = refl
own_by vs v false false is whole = refl

own_from : (vs : List Variable) (v : Variable) → own (top_from vs v) ≡ v ∷ []
own_from vs v = own_by vs v (length v.dims == 0) (is_grid_among vs v) refl refl

name_by : (vs : List Variable) (v : Variable) (e g : Bool) → name_of (if e then scalar (column_from v) else if g then grid v.name (array_from v) (map array_from (maps_among vs v.dims)) else array (array_from v)) ≡ v.name
name_by vs v true g = refl
name_by vs v false true = refl
name_by vs v false false = refl

name_from : (vs : List Variable) (v : Variable) → name_of (member_from vs v) ≡ v.name
name_from vs v = name_by vs v (length v.dims == 0) (is_grid_among vs v)

names_from : (q : List ℕ) (vs ws : List Variable) → list_any (λ (t : Top). bytes_eq q (name_of t.0)) (map (top_from vs) ws) ≡ list_any (has_name q) ws
names_from q vs [] = refl
names_from q vs (w ∷ ws) =
    ap (λ n. bytes_eq q n || list_any (λ (t : Top). bytes_eq q (name_of t.0)) (map (top_from vs) ws)) (name_from vs w) ∙ ap (λ b. bytes_eq q w.name || b) (names_from q vs ws)

-- a map is an array of its own

array_there : (m : Variable) (t : Top) → is_other_kind t.0 ≡ false → is_other_than m t ≡ false → is_array t ≡ true
unfolding is_other_kind is_other_than
array_there m (scalar c, t) kind other = cc other
array_there m (array a, t) kind other = refl
array_there m (structure name parts, t) kind other = cc kind
array_there m (grid name a maps, t) kind other = cc other
array_there m (sequence name columns, t) kind other = cc kind

unclashed : (all earlier : List Top) (m : Variable) → map_clashes all earlier m ≡ false → option_map_or (is_other_than m) (top_named m.name all) false ≡ false
unfolding map_clashes
unclashed all earlier m none = (or_parts (option_map_or (is_other_than m) (top_named m.name all) false) _ none).0

abbrev HaveKinds : List Top → Type 0
HaveKinds tops = AllByRecursion (λ (t : Top). is_other_kind t.0 ≡ false) tops

is_top_array : (all : List Top) (m : Variable) → HaveKinds all → is_some (top_named m.name all) ≡ true → option_map_or (is_other_than m) (top_named m.name all) false ≡ false
    → option_map_or is_array (top_named m.name all) false ≡ true
is_top_array all m kinds there other = by (top_named m.name all) refl there other
  where
    by : (o : Option Top) → top_named m.name all ≡ o → is_some o ≡ true → option_map_or (is_other_than m) o false ≡ false → option_map_or is_array o false ≡ true
    by None is some none = cc some
    by (Some t) is some none = array_there m t (found_all (λ top. bytes_eq m.name (name_of top.0)) (λ top. is_other_kind top.0 ≡ false) all t is kinds) none

not_new : (all earlier : List Top) (m : Variable) → option_map_or is_array (top_named m.name all) false ≡ true → is_new all earlier m ≡ false
unfolding is_new
not_new all earlier m is = ap (λ b. not b && not (is_some (find (has_name m.name) (all_maps earlier)))) is

there_named : (vs : List Variable) (d : Dim) (m : Variable) → map_at vs d ≡ Some m → is_some (top_named m.name (map (top_from vs) vs)) ≡ true
there_named vs d m e =
    find_any (λ (t : Top). bytes_eq m.name (name_of t.0)) (map (top_from vs) vs) ∙ names_from m.name vs vs ∙ found_other (is_map_at (dim_name d)) (has_name m.name) vs m e (bytes_itself m.name)

none_kept : (vs : List Variable) (all earlier : List Top) (dims : List Dim) → all ≡ map (top_from vs) vs → HaveKinds all → list_any (map_clashes all earlier) (maps_among vs dims) ≡ false → filter (is_new all earlier) (maps_among vs dims) ≡ []
none_kept vs all earlier [] is kinds none = refl
none_kept vs all earlier (d ∷ dims) is kinds none = by (map_at vs d) refl none (none_kept vs all earlier dims is kinds)
  where
    by : (o : Option Variable) → map_at vs d ≡ o → list_any (map_clashes all earlier) (cons_option o (maps_among vs dims)) ≡ false
        → (list_any (map_clashes all earlier) (maps_among vs dims) ≡ false → filter (is_new all earlier) (maps_among vs dims) ≡ []) → filter (is_new all earlier) (cons_option o (maps_among vs dims)) ≡ []
    by None e free rest = rest free
    by (Some m) e free rest =
        let both = or_parts (map_clashes all earlier m) (list_any (map_clashes all earlier) (maps_among vs dims)) free in
        let there : is_some (top_named m.name all) ≡ true = ap (λ l. is_some (top_named m.name l)) is ∙ there_named vs d m e in
        let old = not_new all earlier m (is_top_array all m kinds there (unclashed all earlier m both.0)) in
        ap (λ b. cond b (m ∷ filter (is_new all earlier) (maps_among vs dims)) (filter (is_new all earlier) (maps_among vs dims))) old ∙ rest both.1

maps_back : (ms : List Variable) → array_variables (map array_from ms) (items (trees_of (map (λ (w : Variable). w.tree) ms))) ≡ ms
maps_back [] = refl
maps_back (m ∷ ms) = ap (λ l. m ∷ l) (maps_back ms)

maps_by : (vs : List Variable) (v : Variable) (e g : Bool) → e ≡ true → maps_of (if e then scalar (column_from v) else if g then grid v.name (array_from v) (map array_from (maps_among vs v.dims)) else array (array_from v), if g then many (trees_of (v.tree ∷ map (λ w. w.tree) (maps_among vs v.dims))) else v.tree) ≡ []
unfolding maps_of
maps_by vs v true g is = refl
maps_by vs v false g is = cc is

maps_whole : (vs : List Variable) (v : Variable) (g : Bool) → maps_of (if g then grid v.name (array_from v) (map array_from (maps_among vs v.dims)) else array (array_from v), if g then many (trees_of (v.tree ∷ map (λ w. w.tree) (maps_among vs v.dims))) else v.tree)
    ≡ (if g then maps_among vs v.dims else [])
unfolding maps_of
maps_whole vs v true = maps_back (maps_among vs v.dims)
maps_whole vs v false = refl

abbrev maps_or : List Variable → Variable → Bool → Bool → List Variable
maps_or vs v e g = if e then [] else if g then maps_among vs v.dims else []

maps_either : (vs : List Variable) (v : Variable) (e g : Bool) → maps_of (if e then scalar (column_from v) else if g then grid v.name (array_from v) (map array_from (maps_among vs v.dims)) else array (array_from v), if g then many (trees_of (v.tree ∷ map (λ w. w.tree) (maps_among vs v.dims))) else v.tree)
    ≡ maps_or vs v e g
maps_either vs v true g = maps_by vs v true g refl
maps_either vs v false g = maps_whole vs v g

maps_from : (vs : List Variable) (v : Variable) → maps_of (top_from vs v) ≡ maps_or vs v (length v.dims == 0) (is_grid_among vs v)
maps_from vs v = maps_either vs v (length v.dims == 0) (is_grid_among vs v)

no_maps : (vs : List Variable) (all earlier : List Top) (v : Variable) (e g : Bool) → all ≡ map (top_from vs) vs → HaveKinds all → list_any (map_clashes all earlier) (maps_or vs v e g) ≡ false → filter (is_new all earlier) (maps_or vs v e g) ≡ []
no_maps vs all earlier v true g is kinds none = refl
no_maps vs all earlier v false true is kinds none = none_kept vs all earlier v.dims is kinds none
no_maps vs all earlier v false false is kinds none = refl

none_stored : (vs : List Variable) (all earlier : List Top) (v : Variable) → all ≡ map (top_from vs) vs → HaveKinds all → list_any (map_clashes all earlier) (maps_of (top_from vs v)) ≡ false → filter (is_new all earlier) (maps_of (top_from vs v)) ≡ []
none_stored vs all earlier v is kinds none =
    ap (filter (is_new all earlier)) (maps_from vs v)
    ∙ no_maps vs all earlier v (length v.dims == 0) (is_grid_among vs v) is kinds (ap (list_any (map_clashes all earlier)) (sym (maps_from vs v)) ∙ none)

stored_seen : (vs : List Variable) (all earlier : List Top) (ws : List Variable) → all ≡ map (top_from vs) vs → HaveKinds all → NoCauses all earlier (map (top_from vs) ws) → stored_from all earlier (map (top_from vs) ws) ≡ ws
unfolding stored_from stored
stored_seen vs all earlier [] is kinds none = refl
stored_seen vs all earlier (w ∷ ws) is kinds none =
    let top = top_from vs w in
    let facts = has_none all earlier top none.0 in
    let rest = stored_from all (earlier ++ top ∷ []) (map (top_from vs) ws) in
    ap (λ l. (l ++ own top) ++ rest) (none_stored vs all earlier w is kinds (no_map_clash all earlier top facts)) ∙ ap (λ l. l ++ rest) (own_from vs w)
    ∙ ap (λ l. w ∷ l) (stored_seen vs all (earlier ++ top ∷ []) ws is kinds none.1)

have_kinds : (all earlier tops : List Top) → NoCauses all earlier tops → HaveKinds tops
have_kinds all earlier [] none = tt
have_kinds all earlier (top ∷ tops) none = ((has_none all earlier top none.0).kind, have_kinds all (earlier ++ top ∷ []) tops none.1)

variables_seen : (vs : List Variable) (d : Dataset) (ts : List Tree) → tops_of d.members ts ≡ map (top_from vs) vs → unsavable d ts ≡ None → variables d ts ≡ vs
variables_seen vs d ts is savable =
    let all = map (top_from vs) vs in
    let none : NoCauses all [] all = subst (λ l. NoCauses l [] l) is (no_causes (tops_of d.members ts) [] 1 (tops_of d.members ts) savable) in
    ap (λ l. stored_from l [] l) is ∙ stored_seen vs all [] vs refl (have_kinds all [] all none) none

-- ---- and what is read of the file is them again

base_short : (t : ExternalType) → is_number (base_of t) ≡ true → is_long t ≡ false
base_short Byte e = refl
base_short Char e = refl
base_short Short e = refl
base_short Int e = refl
base_short Float e = refl
base_short Double e = refl
base_short UByte e = refl
base_short UShort e = refl
base_short UInt e = refl
base_short Int64 e = cc e
base_short UInt64 e = cc e

few_bytes : (t : ExternalType) → nat_lt most_piece (size_of t) ≡ false
few_bytes Byte = refl
few_bytes Char = refl
few_bytes Short = refl
few_bytes Int = refl
few_bytes Float = refl
few_bytes Double = refl
few_bytes UByte = refl
few_bytes UShort = refl
few_bytes UInt = refl
few_bytes Int64 = refl
few_bytes UInt64 = refl

size_few : (n : ℕ) → n ≤ 2147483647 → nat_le n most_elements ≡ true
size_few n few = grind (arith, nat_tests, few)

small_ids : (c : Contents) (ids : List ℕ) → AllByRecursion IsGoodDim (map (dim_of c) ids) → list_all (λ i. nat_le (size_at c i) most_elements) ids ≡ true
small_ids c [] all = refl
small_ids c (i ∷ ids) all = ap (λ b. b && list_all (λ j. nat_le (size_at c j) most_elements) ids) (size_few (size_at c i) all.0.few) ∙ small_ids c ids all.1

size_plain : (c : Contents) (r : source.Variable) → is_char_type r.external_type ≡ false → element_size c r ≡ size_of r.external_type
unfolding element_size has_texts
size_plain c r e = rw e refl

is_offered_back : (c : Contents) (r : source.Variable) → is_number (base_of r.external_type) ≡ true → AllByRecursion IsGoodDim (map (dim_of c) r.dimensions) → is_offered c r ≡ true
unfolding is_offered are_small
is_offered_back c r number good =
    ap (λ b. not b && list_all (λ i. nat_le (size_at c i) most_elements) r.dimensions && not (nat_lt most_piece (element_size c r))) (base_short r.external_type number)
    ∙ ap (λ b. b && not (nat_lt most_piece (element_size c r))) (small_ids c r.dimensions good)
    ∙ ap (λ n. not (nat_lt most_piece n)) (size_plain c r (base_plain r.external_type number)) ∙ ap not (few_bytes r.external_type)

valid_dims : (dims : List Dim) → AllByRecursion IsGoodDim dims → list_any has_bad_dim dims ≡ false
valid_dims [] all = refl
valid_dims (d ∷ dims) all = ap (λ b. not b || list_any has_bad_dim dims) all.0.file ∙ valid_dims dims all.1

read_clear : (c : Contents) (file : List ℕ) (rs : List source.Variable) (vs : List Variable) → AllZip (IsReadAs c file) rs vs → AllByRecursion IsGoodVariable vs → AllByRecursion (HasIds c) rs → AllByRecursion (IsClear c) rs
read_clear c file [] [] zip good within = tt
read_clear c file [] (v ∷ vs) zip good within = absurd zip
read_clear c file (r ∷ rs) [] zip good within = absurd zip
read_clear c file (r ∷ rs) (v ∷ vs) zip good within =
    let number : is_number (base_of r.external_type) ≡ true = ap is_number zip.0.base ∙ good.0.number in
    let dims : AllByRecursion IsGoodDim (map (dim_of c) r.dimensions) = subst (λ l. AllByRecursion IsGoodDim l) (sym zip.0.dims) good.0.dims in (
      record {
        offered = is_offered_back c r number dims;
        number = number;
        back = name_again r.name (ap is_file_name zip.0.name ∙ good.0.file);
        dims = dims_clear c r.dimensions within.0 (valid_dims (map (dim_of c) r.dimensions) dims);
      },
      read_clear c file rs vs zip.1 good.1 within.1,
    )

variable_same : (v : Variable) (n : List ℕ) (b : BaseType) (ds : List Dim) (t : Tree) → n ≡ v.name → b ≡ v.base → ds ≡ v.dims → t ≡ v.tree → Path Variable (record { name = n; base = b; dims = ds; tree = t }) v
variable_same v n b ds t e f g h = λ i. record { name = e i; base = f i; dims = g i; tree = h i }

seen_back : (c : Contents) (file : List ℕ) (rs : List source.Variable) (vs : List Variable) → AllZip (IsReadAs c file) rs vs → map (seen_as c file) rs ≡ vs
seen_back c file [] [] zip = refl
seen_back c file [] (v ∷ vs) zip = absurd zip
seen_back c file (r ∷ rs) [] zip = absurd zip
seen_back c file (r ∷ rs) (v ∷ vs) zip =
    ap (λ w. w ∷ map (seen_as c file) rs) (variable_same v (file_id r.name) (base_of r.external_type) (map (dim_of c) r.dimensions) (tree_of c file r) zip.0.name zip.0.base zip.0.dims zip.0.tree)
    ∙ ap (λ l. v ∷ l) (seen_back c file rs vs zip.1)

all_offered : (c : Contents) (rs : List source.Variable) → AllByRecursion (IsClear c) rs → filter (is_offered c) rs ≡ rs
all_offered c [] clear = refl
all_offered c (r ∷ rs) clear = ap (λ b. cond b (r ∷ filter (is_offered c) rs) (filter (is_offered c) rs)) clear.0.offered ∙ ap (λ l. r ∷ l) (all_offered c rs clear.1)

-- ---- all of it

few_taken : (file : List ℕ) → length (take most_header file) ≤ 1048576
few_taken file = let long = length-take most_header file in omega (arith, long)

abbrev dataset_with : List ℕ → List Member → Dataset
dataset_with name ms = record { name = name; members = members_of ms }

pub reads_same : ReadsSame
reads_same c file name is small savable =
    let d = dataset_of c name in
    let ts = file_trees c file in
    let os = offered_in c in
    let sound = header_sound c (take most_header file) (length file) (few_taken file) is in
    let apart = sound_apart c sound in
    let tops = tops_both (member_of c) (member_tree c file) os in
    let none : NoCauses (tops_of d.members ts) [] (map (top_of c file) os) = subst (NoCauses (tops_of d.members ts) []) tops (no_causes (tops_of d.members ts) [] 1 (tops_of d.members ts) savable.0) in
    let clear : AreClear c = clear_all c file (tops_of d.members ts) [] os none (all_passed (is_offered c) c.variables) (all_kept (HasIds c) (is_offered c) c.variables (have_ids c [] c.variables sound.variables)) in
    let vs = seen c file in
    let members : map (member_of c) os ≡ map (member_from vs) vs = members_same c file apart clear os clear in
    let trees : map (member_tree c file) os ≡ map (tree_from vs) vs = trees_same c file apart clear os clear in
    let stored_as : tops_of d.members ts ≡ map (top_from vs) vs = ap (λ l. tops_of (members_of l) ts) members ∙ ap (tops_of (members_of (map (member_from vs) vs))) trees ∙ tops_both (member_from vs) (tree_from vs) vs in
    let same : variables d ts ≡ vs = variables_seen vs d ts stored_as savable.0 in
    let saved = cdf (variables d ts) in
    let (e, header, zip) = reads_back d ts small savable in
    let good = (storable d ts small savable).good in
    let sound' = header_sound e (take most_header saved) (length saved) (few_taken saved) header in
    let apart' = sound_apart e sound' in
    let each : AllByRecursion (IsClear e) e.variables = read_clear e saved e.variables (variables d ts) zip good (have_ids e [] e.variables sound'.variables) in
    let offered = all_offered e e.variables each in
    let clear' : AreClear e = subst (λ l. AllByRecursion (IsClear e) l) (sym offered) each in
    let again : seen e saved ≡ vs = ap (map (seen_as e saved)) offered ∙ seen_back e saved e.variables (variables d ts) zip ∙ same in
    let members' : map (member_of e) (offered_in e) ≡ map (member_of c) os = members_same e saved apart' clear' (offered_in e) clear' ∙ ap (λ l. map (member_from l) l) again ∙ sym members in
    let trees' : map (member_tree e saved) (offered_in e) ≡ ts = trees_same e saved apart' clear' (offered_in e) clear' ∙ ap (λ l. map (tree_from l) l) again ∙ sym trees in
    (e, header, ap (dataset_with (dataset_name name)) members', trees')
