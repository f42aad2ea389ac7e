-- What a header makes of the variables that it offers, said by their names, types, dimensions and values alone.
use Rattle.std.proofs.Common.{◌≡◌, ℕ, zero, suc, ◌+◌, ◌≤◌, Bool, true, false, not, ◌&&◌, ◌||◌, ◌==◌, cond, List, [], ◌∷◌, ◌++◌, length, map, filter, find, Option, Some, None, option_map, is_some, refl, ap, sym, subst, ◌∙◌, arith, if◌then◌else◌}
use Rattle.std.specs.Prelude.{filter_map, is_none, option_and_then, slice_get}
use Rattle.std.proofs.lemmas.Bool.{eqb-true, true≢false, or_parts, or_from}
use Rattle.std.proofs.lemmas.Bool.Decides.{nat_tests}
use Rattle.std.proofs.lemmas.List.{length-map, map-append}
use Rattle.std.proofs.lemmas.Option.{same_Some}
use Rattle.std.proofs.lemmas.Slice.Eq.{bytes_eq-Decides}
use Rattle.std.specs.List.{AllByRecursion, cons_option, list_all, list_any, position_from}
use Rattle.std.specs.Option.{option_map_or}
use Rattle.std.specs.Str.{bytes_eq}
use Rattle.plain_lemmas.proofs.Numbers.{from_zero}
use Rattle.dap_types.specs.Model.{Member, scalar, array, grid, Tree, many, trees_of}
use Rattle.dap_types.specs.Names.{file_id}
use Rattle.dap_types.specs.declared.declarations.ArrayDecl.{ArrayDecl}
use Rattle.dap_types.specs.declared.declarations.BaseType.{BaseType}
use Rattle.dap_types.specs.declared.declarations.Column.{Column}
use Rattle.dap_types.specs.declared.declarations.Dim.{Dim}
use Rattle.dap_model.specs.Laws.{is_number}
use Rattle.netcdf_source.proofs.Good.{stands_sound}
use Rattle.netcdf_source.proofs.GridMaps.{maps_are, own_offered}
use Rattle.netcdf_source.specs.Header.{IsHeader}
use Rattle.netcdf_source.specs.Mapping.{array_of, base_of, column_of, coordinate_at, coordinate_variable, differ, dim_of, has_dimension_name, is_char, is_char_type, is_coordinate_of, is_grid, is_offered, maps_of, member_of, name_at, own_dimension, own_dimension_in}
use Rattle.netcdf_source.specs.Values.{map_variables, member_tree, tree_of}
use Rattle.netcdf_source.specs.declared.external_type.ExternalType.{ExternalType}
use Rattle.netcdf_source.specs.declared.external_type.ExternalType.TheVariants.{Byte, Char, Short, Int, Float, Double, UByte, UShort, UInt, Int64, UInt64}
use Rattle.netcdf_source.specs.declared.header.Contents.{Contents}
use Rattle.netcdf_source.specs.declared.header.Dimension.{Dimension}
use Rattle.netcdf_source.specs.declared.header.Variable as source
use Rattle.netcdf_source.specs.inner.Sound.{InTurn, IsDimension, IsSound}
use Rattle.netcdf_writer.proofs.DimsBack.{place_of}
use Rattle.netcdf_writer.proofs.ReadsBack.{all_dimensions}
use Rattle.netcdf_writer.specs.Names.{undone}
use Rattle.netcdf_writer.specs.Variables.{Variable, dim_name}

abbrev pub seen_as : Contents → List ℕ → source.Variable → Variable
seen_as c file v = record { name = file_id v.name; base = base_of v.external_type; dims = map (dim_of c) v.dimensions; tree = tree_of c file v }

-- the variables that a header offers
abbrev pub offered_in : Contents → List source.Variable
offered_in c = filter (is_offered c) c.variables

abbrev pub seen : Contents → List ℕ → List Variable
seen c file = map (seen_as c file) (offered_in c)

-- ---- what becomes of variables

-- a variable has one dimension, which has its name
abbrev pub own_in : List ℕ → List Dim → Bool
own_in name [] = false
own_in name (d ∷ []) = bytes_eq name (dim_name d)
own_in name (d ∷ e ∷ ds) = false

abbrev pub is_own : Variable → Bool
is_own v = own_in v.name v.dims

-- it is the coordinate variable of the dimension of that name
abbrev pub is_map_at : List ℕ → Variable → Bool
is_map_at q v = is_own v && bytes_eq v.name q

abbrev pub map_at : List Variable → Dim → Option Variable
map_at vs d = find (is_map_at (dim_name d)) vs

abbrev pub names_apart : List Dim → Bool
names_apart [] = true
names_apart (d ∷ ds) = not (list_any (λ e. bytes_eq (dim_name e) (dim_name d)) ds) && names_apart ds

abbrev pub is_grid_among : List Variable → Variable → Bool
is_grid_among vs v = not (is_own v) && not (length v.dims == 0) && names_apart v.dims && list_all (λ d. is_some (map_at vs d)) v.dims

abbrev pub array_from : Variable → ArrayDecl
array_from v = record { name = v.name; base = v.base; dims = v.dims }

abbrev pub column_from : Variable → Column
column_from v = record { name = v.name; base = v.base }

abbrev pub maps_among : List Variable → List Dim → List Variable
maps_among vs dims = filter_map (map_at vs) dims

abbrev pub member_from : List Variable → Variable → Member
member_from vs v =
    if length v.dims == 0 then scalar (column_from v)
    else if is_grid_among vs v then grid v.name (array_from v) (map array_from (maps_among vs v.dims))
    else array (array_from v)

abbrev pub tree_from : List Variable → Variable → Tree
tree_from vs v = if is_grid_among vs v then many (trees_of (v.tree ∷ map (λ w. w.tree) (maps_among vs v.dims))) else v.tree

-- ---- a header whose names can be undone

pub record IsDimOf (c : Contents) (i : ℕ) : Type 0 where
  pub found : Dimension
  pub get : slice_get c.dimensions i ≡ Some found
  pub back : undone (file_id found.name) ≡ Some found.name

pub record IsClear (c : Contents) (v : source.Variable) : Type 0 where
  pub offered : is_offered c v ≡ true
  pub number : is_number (base_of v.external_type) ≡ true
  pub back : undone (file_id v.name) ≡ Some v.name
  pub dims : AllByRecursion (IsDimOf c) v.dimensions

abbrev pub AreClear : Contents → Type 0
AreClear c = AllByRecursion (IsClear c) (offered_in c)

-- dimensions of one name are one
abbrev pub AreApart : Contents → Type 0
AreApart c = (i j : ℕ) (d e : Dimension) → slice_get c.dimensions i ≡ Some d → slice_get c.dimensions j ≡ Some e → d.name ≡ e.name → i ≡ j

-- ---- dimensions of a header have different names

some_dim : (d e : Dimension) → Path (Option Dimension) (Some d) (Some e) → d ≡ e
some_dim d e is = cc

any_push : {X : Type 0} (p : X → Bool) (xs : List X) (y : X) → list_any p (xs ++ y ∷ []) ≡ false → (list_any p xs ≡ false) × (p y ≡ false)
any_push p [] y e = (refl, (or_parts (p y) false e).0)
any_push p (x ∷ xs) y e =
    let both = or_parts (p x) (list_any p (xs ++ y ∷ [])) e in
    let rest = any_push p xs y both.1 in
    (or_from (p x) (list_any p xs) both.0 rest.0, rest.1)

abbrev named : List Dimension → List (List ℕ)
named ds = map (λ (d : Dimension). d.name) ds

pushed_apart : (before : List Dimension) (x d : Dimension) → list_any (bytes_eq d.name) (named (before ++ x ∷ [])) ≡ false → (list_any (bytes_eq d.name) (named before) ≡ false) × (bytes_eq d.name x.name ≡ false)
pushed_apart before x d e = any_push (bytes_eq d.name) (named before) x.name (ap (list_any (bytes_eq d.name)) (sym (map-append (λ (y : Dimension). y.name) before (x ∷ []))) ∙ e)

later_apart : (before ds : List Dimension) (k : ℕ) (d : Dimension) → InTurn IsDimension before ds → slice_get ds k ≡ Some d → list_any (bytes_eq d.name) (named before) ≡ false
unfolding InTurn
later_apart before [] k d turn at = cc at
later_apart before (x ∷ ds) zero d turn at = subst (λ (y : Dimension). list_any (bytes_eq y.name) (named before) ≡ false) (some_dim x d at) turn.0.is_new
later_apart before (x ∷ ds) (suc k) d turn at = (pushed_apart before x d (later_apart (before ++ x ∷ []) ds k d turn.1 at)).0

no_twin : (a b : List ℕ) → bytes_eq a b ≡ false → a ≡ b → ⊥
no_twin a b e is = true≢false (sym ((bytes_eq-Decides a b).1 is) ∙ e)

one_dim : (before ds : List Dimension) (k l : ℕ) (d e : Dimension) → InTurn IsDimension before ds → slice_get ds k ≡ Some d → slice_get ds l ≡ Some e → d.name ≡ e.name → k ≡ l
unfolding InTurn
one_dim before [] k l d e turn at to same = cc at
one_dim before (x ∷ ds) zero zero d e turn at to same = refl
one_dim before (x ∷ ds) zero (suc l) d e turn at to same =
    let other = (pushed_apart before x e (later_apart (before ++ x ∷ []) ds l e turn.1 to)).1 in
    absurd (no_twin e.name x.name other (sym same ∙ sym (ap (λ (y : Dimension). y.name) (some_dim x d at))))
one_dim before (x ∷ ds) (suc k) zero d e turn at to same =
    let other = (pushed_apart before x d (later_apart (before ++ x ∷ []) ds k d turn.1 at)).1 in
    absurd (no_twin d.name x.name other (same ∙ sym (ap (λ (y : Dimension). y.name) (some_dim x e to))))
one_dim before (x ∷ ds) (suc k) (suc l) d e turn at to same = ap (λ n. suc n) (one_dim (before ++ x ∷ []) ds k l d e turn.1 at to same)

pub sound_apart : (c : Contents) → IsSound c → AreApart c
sound_apart c sound i j d e at to same = one_dim [] c.dimensions i j d e sound.dimensions at to same

pub header_sound : (c : Contents) (front : List ℕ) (len : ℕ) → length front ≤ 1048576 → IsHeader c front len → IsSound c
header_sound c front len few (h, rest, stands, is, past) = subst IsSound is (stands_sound h front rest few stands)

-- ---- names and their escapes

both_ways : (p q : Bool) → (p ≡ true → q ≡ true) → (q ≡ true → p ≡ true) → p ≡ q
both_ways true true f g = refl
both_ways true false f g = sym (f refl)
both_ways false true f g = g refl
both_ways false false f g = refl

ids_same : (a b : List ℕ) → undone (file_id a) ≡ Some a → undone (file_id b) ≡ Some b → bytes_eq (file_id a) (file_id b) ≡ bytes_eq a b
ids_same a b ua ub =
    both_ways (bytes_eq (file_id a) (file_id b)) (bytes_eq a b)
    (λ e. (bytes_eq-Decides a b).1 (same_Some a b (sym ua ∙ ap undone ((bytes_eq-Decides (file_id a) (file_id b)).0 e) ∙ ub)))
    (λ e. (bytes_eq-Decides (file_id a) (file_id b)).1 (ap file_id ((bytes_eq-Decides a b).0 e)))

number_same : (i j : ℕ) → i ≡ j → (i == j) ≡ true
number_same i j e = grind (arith, nat_tests, e)

pub base_plain : (t : ExternalType) → is_number (base_of t) ≡ true → is_char_type t ≡ false
base_plain Byte e = refl
base_plain Char e = cc e
base_plain Short e = refl
base_plain Int e = refl
base_plain Float e = refl
base_plain Double e = refl
base_plain UByte e = refl
base_plain UShort e = refl
base_plain UInt e = refl
base_plain Int64 e = refl
base_plain UInt64 e = refl

pub plain : (c : Contents) (v : source.Variable) → IsClear c v → is_char v ≡ false
plain c v so = base_plain v.external_type so.number

-- the escapes of two dimensions are equal where they are one
index_same : (c : Contents) (i j : ℕ) → AreApart c → (a : IsDimOf c i) → (b : IsDimOf c j) → bytes_eq (file_id (name_at c j)) (file_id (name_at c i)) ≡ (j == i)
unfolding name_at
index_same c i j apart a b =
    let d = a.found in
    let e = b.found in
    ap (λ (o : Option Dimension). bytes_eq (file_id (option_map_or (λ x. x.name) o [])) (file_id (option_map_or (λ x. x.name) (slice_get c.dimensions i) []))) b.get
    ∙ ap (λ (o : Option Dimension). bytes_eq (file_id e.name) (file_id (option_map_or (λ x. x.name) o []))) a.get
    ∙ ids_same e.name d.name b.back a.back
    ∙ both_ways (bytes_eq e.name d.name) (j == i)
    (λ s. number_same j i (apart j i e d b.get a.get ((bytes_eq-Decides e.name d.name).0 s)))
    (λ s. (bytes_eq-Decides e.name d.name).1 (ap (λ (x : Dimension). x.name) (some_dim e d (sym b.get ∙ ap (slice_get c.dimensions) (eqb-true j i s) ∙ a.get))))

-- ---- coordinate variables

-- the test of a variable and a dimension
own_test : (c : Contents) (v : source.Variable) (i : ℕ) → IsClear c v → (a : IsDimOf c i) → bytes_eq (file_id v.name) (file_id (name_at c i)) ≡ has_dimension_name c i v
unfolding name_at
own_test c v i so a =
    let d = a.found in
    ap (λ (o : Option Dimension). bytes_eq (file_id v.name) (file_id (option_map_or (λ x. x.name) o []))) a.get
    ∙ ids_same v.name d.name so.back a.back
    ∙ sym (ap (λ b. b && not (is_char v) && bytes_eq v.name d.name) so.offered ∙ ap (λ b. not b && bytes_eq v.name d.name) (plain c v so))
    ∙ sym (ap (λ (o : Option Dimension). option_map_or (λ x. is_offered c v && not (is_char v) && bytes_eq v.name x.name) o false) a.get)

some_if : (b : Bool) (i : ℕ) → b ≡ is_some (if b then Some i else None)
some_if true i = refl
some_if false i = refl

own_same_in : (c : Contents) (v : source.Variable) → IsClear c v → (ids : List ℕ) → AllByRecursion (IsDimOf c) ids → own_in (file_id v.name) (map (dim_of c) ids) ≡ is_some (own_dimension_in c v ids)
own_same_in c v so [] all = refl
own_same_in c v so (i ∷ []) all = own_test c v i so all.0 ∙ some_if (has_dimension_name c i v) i
own_same_in c v so (i ∷ j ∷ ids) all = refl

own_same : (c : Contents) (file : List ℕ) (v : source.Variable) → IsClear c v → is_own (seen_as c file v) ≡ is_some (own_dimension c v)
unfolding own_dimension
own_same c file v so = own_same_in c v so v.dimensions so.dims

at_one : (c : Contents) (w : source.Variable) (i j : ℕ) → AreApart c → IsClear c w → IsDimOf c i → IsDimOf c j → (b : Bool) → has_dimension_name c j w ≡ b
    → (bytes_eq (file_id w.name) (file_id (name_at c j)) && bytes_eq (file_id w.name) (file_id (name_at c i))) ≡ option_map_or (λ k. k == i) (if b then Some j else None) false
at_one c w i j apart so there own true e =
    let is : bytes_eq (file_id w.name) (file_id (name_at c j)) ≡ true = own_test c w j so own ∙ e in
    ap (λ b. b && bytes_eq (file_id w.name) (file_id (name_at c i))) is
    ∙ ap (λ l. bytes_eq l (file_id (name_at c i))) ((bytes_eq-Decides (file_id w.name) (file_id (name_at c j))).0 is) ∙ index_same c i j apart there own
at_one c w i j apart so there own false e =
    ap (λ b. b && bytes_eq (file_id w.name) (file_id (name_at c i))) (own_test c w j so own ∙ e)

at_in : (c : Contents) (w : source.Variable) (i : ℕ) → AreApart c → IsClear c w → IsDimOf c i → (ids : List ℕ) → AllByRecursion (IsDimOf c) ids
    → (own_in (file_id w.name) (map (dim_of c) ids) && bytes_eq (file_id w.name) (file_id (name_at c i))) ≡ option_map_or (λ k. k == i) (own_dimension_in c w ids) false
at_in c w i apart so there [] all = refl
at_in c w i apart so there (j ∷ []) all = at_one c w i j apart so there all.0 (has_dimension_name c j w) refl
at_in c w i apart so there (j ∷ k ∷ ids) all = refl

at_same : (c : Contents) (file : List ℕ) (w : source.Variable) (i : ℕ) → AreApart c → IsClear c w → IsDimOf c i → is_map_at (file_id (name_at c i)) (seen_as c file w) ≡ is_coordinate_of c i w
unfolding own_dimension
at_same c file w i apart so there = at_in c w i apart so there w.dimensions so.dims

coordinate_offered : (c : Contents) (i : ℕ) (w : source.Variable) → is_coordinate_of c i w ≡ true → is_offered c w ≡ true
coordinate_offered c i w e = by (own_dimension c w) refl e
  where
    by : (o : Option ℕ) → own_dimension c w ≡ o → option_map_or (λ j. j == i) o false ≡ true → is_offered c w ≡ true
    by None is f = cc f
    by (Some j) is f = own_offered c w j is

-- ---- what is found

find_kept : {X : Type 0} (p q : X → Bool) (xs : List X) → ((x : X) → p x ≡ true → q x ≡ true) → find p (filter q xs) ≡ find p xs
find_kept p q [] only = refl
find_kept {X} p q (x ∷ xs) only = chosen (q x) refl (p x) refl (find_kept p q xs only)
  where
    chosen : (b : Bool) → q x ≡ b → (t : Bool) → p x ≡ t → find p (filter q xs) ≡ find p xs → find p (cond b (x ∷ filter q xs) (filter q xs)) ≡ cond t (Some x) (find p xs)
    chosen true k t e rest = ap (λ b. cond b (Some x) (find p (filter q xs))) e ∙ ap (λ o. cond t (Some x) o) rest
    chosen false k true e rest = absurd (true≢false (sym (only x e) ∙ k))
    chosen false k false e rest = rest

find_mapped : {X Y : Type 0} (f : X → Y) (p : Y → Bool) (q : X → Bool) (xs : List X) → AllByRecursion (λ x. p (f x) ≡ q x) xs → find p (map f xs) ≡ option_map f (find q xs)
find_mapped f p q [] all = refl
find_mapped {X} {Y} f p q (x ∷ xs) all = ap (λ b. cond b (Some (f x)) (find p (map f xs))) all.0 ∙ chosen (q x) (find_mapped f p q xs all.1)
  where
    chosen : (b : Bool) → find p (map f xs) ≡ option_map f (find q xs) → cond b (Some (f x)) (find p (map f xs)) ≡ option_map f (cond b (Some x) (find q xs))
    chosen true rest = refl
    chosen false rest = rest

none_there : {X : Type 0} (p : X → Bool) (n : ℕ) (xs : List X) → find p xs ≡ None → position_from p n xs ≡ None
none_there p n [] e = refl
none_there {X} p n (x ∷ xs) e = chosen (p x) e (none_there p (n + 1) xs)
  where
    chosen : (b : Bool) → cond b (Some x) (find p xs) ≡ None → (find p xs ≡ None → position_from p (n + 1) xs ≡ None) → cond b (Some n) (position_from p (n + 1) xs) ≡ None
    chosen true f rest = cc f
    chosen false f rest = rest f

position_find : {X : Type 0} (p : X → Bool) (xs : List X) → option_and_then (slice_get xs) (position_from p 0 xs) ≡ find p xs
position_find {X} p xs = by (find p xs) refl
  where
    by : (o : Option X) → find p xs ≡ o → option_and_then (slice_get xs) (position_from p 0 xs) ≡ o
    by (Some x) e = let (k, at, get, few) = place_of p xs 0 x e in ap (option_and_then (slice_get xs)) (at ∙ ap (λ n. Some n) (from_zero k)) ∙ get
    by None e = ap (option_and_then (slice_get xs)) (none_there p 0 xs e)

position_some : {X : Type 0} (p : X → Bool) (n : ℕ) (xs : List X) → is_some (position_from p n xs) ≡ is_some (find p xs)
position_some p n [] = refl
position_some {X} p n (x ∷ xs) = chosen (p x) (position_some p (n + 1) xs)
  where
    chosen : (b : Bool) → is_some (position_from p (n + 1) xs) ≡ is_some (find p xs) → is_some (cond b (Some n) (position_from p (n + 1) xs)) ≡ is_some (cond b (Some x) (find p xs))
    chosen true rest = refl
    chosen false rest = rest

pub found_all : {X : Type 0} (p : X → Bool) (P : X → Type 0) (xs : List X) (x : X) → find p xs ≡ Some x → AllByRecursion P xs → P x
found_all p P [] x e all = cc e
found_all {X} p P (y ∷ xs) x e all = chosen (p y) e (λ f. found_all p P xs x f all.1)
  where
    some_is : (a b : X) → Path (Option X) (Some a) (Some b) → a ≡ b
    some_is a b is = cc

    chosen : (b : Bool) → cond b (Some y) (find p xs) ≡ Some x → (find p xs ≡ Some x → P x) → P x
    chosen true f rest = subst P (some_is y x f) all.0
    chosen false f rest = rest f

some_mapped : {X Y : Type 0} (f : X → Y) (o : Option X) → is_some (option_map f o) ≡ is_some o
some_mapped f None = refl
some_mapped f (Some x) = refl

coordinate_is : (c : Contents) (i : ℕ) → coordinate_variable c i ≡ find (is_coordinate_of c i) (offered_in c)
unfolding coordinate_at
coordinate_is c i = position_find (is_coordinate_of c i) c.variables ∙ sym (find_kept (is_coordinate_of c i) (is_offered c) c.variables (coordinate_offered c i))

coordinate_some : (c : Contents) (i : ℕ) → is_some (coordinate_at c i) ≡ is_some (find (is_coordinate_of c i) (offered_in c))
unfolding coordinate_at
coordinate_some c i = position_some (is_coordinate_of c i) 0 c.variables ∙ ap is_some (sym (find_kept (is_coordinate_of c i) (is_offered c) c.variables (coordinate_offered c i)))

all_at : (c : Contents) (file : List ℕ) (i : ℕ) → AreApart c → IsDimOf c i → (vs : List source.Variable) → AllByRecursion (IsClear c) vs
    → AllByRecursion (λ w. is_map_at (file_id (name_at c i)) (seen_as c file w) ≡ is_coordinate_of c i w) vs
all_at c file i apart there [] clear = tt
all_at c file i apart there (v ∷ vs) clear = (at_same c file v i apart clear.0 there, all_at c file i apart there vs clear.1)

map_found : (c : Contents) (file : List ℕ) (i : ℕ) → AreApart c → AreClear c → IsDimOf c i → map_at (seen c file) (dim_of c i) ≡ option_map (seen_as c file) (find (is_coordinate_of c i) (offered_in c))
map_found c file i apart clear there = find_mapped (seen_as c file) (is_map_at (file_id (name_at c i))) (is_coordinate_of c i) (offered_in c) (all_at c file i apart there (offered_in c) clear)

-- ---- Grids

all_coordinates : (c : Contents) (file : List ℕ) → AreApart c → AreClear c → (ids : List ℕ) → AllByRecursion (IsDimOf c) ids
    → list_all (λ i. is_some (coordinate_at c i)) ids ≡ list_all (λ d. is_some (map_at (seen c file) d)) (map (dim_of c) ids)
all_coordinates c file apart clear [] all = refl
all_coordinates c file apart clear (i ∷ ids) all =
    let here : is_some (coordinate_at c i) ≡ is_some (map_at (seen c file) (dim_of c i)) =
    coordinate_some c i ∙ sym (ap is_some (map_found c file i apart clear all.0) ∙ some_mapped (seen_as c file) (find (is_coordinate_of c i) (offered_in c))) in
    ap (λ b. b && list_all (λ j. is_some (coordinate_at c j)) ids) here ∙ ap (λ b. is_some (map_at (seen c file) (dim_of c i)) && b) (all_coordinates c file apart clear ids all.1)

repeats : (c : Contents) (i : ℕ) → AreApart c → IsDimOf c i → (ids : List ℕ) → AllByRecursion (IsDimOf c) ids → list_any (λ j. j == i) ids ≡ list_any (λ e. bytes_eq (dim_name e) (file_id (name_at c i))) (map (dim_of c) ids)
repeats c i apart there [] all = refl
repeats c i apart there (j ∷ ids) all =
    ap (λ b. b || list_any (λ k. k == i) ids) (sym (index_same c i j apart there all.0)) ∙ ap (λ b. bytes_eq (file_id (name_at c j)) (file_id (name_at c i)) || b) (repeats c i apart there ids all.1)

differ_same : (c : Contents) → AreApart c → (ids : List ℕ) → AllByRecursion (IsDimOf c) ids → differ ids ≡ names_apart (map (dim_of c) ids)
unfolding differ
differ_same c apart [] all = refl
differ_same c apart (i ∷ ids) all =
    ap (λ b. not b && differ ids) (repeats c i apart all.0 ids all.1) ∙ ap (λ b. not (list_any (λ e. bytes_eq (dim_name e) (file_id (name_at c i))) (map (dim_of c) ids)) && b) (differ_same c apart ids all.1)

none_not : (o : Option ℕ) → is_none o ≡ not (is_some o)
none_not None = refl
none_not (Some i) = refl

grid_same : (c : Contents) (file : List ℕ) (v : source.Variable) → AreApart c → AreClear c → IsClear c v → is_grid c v ≡ is_grid_among (seen c file) (seen_as c file v)
unfolding is_grid
grid_same c file v apart clear so =
    let own = is_own (seen_as c file v) in
    ap (λ b. not b && is_none (own_dimension c v) && not (length v.dimensions == 0) && differ v.dimensions && list_all (λ i. is_some (coordinate_at c i)) v.dimensions) (plain c v so)
    ∙ ap (λ b. b && not (length v.dimensions == 0) && differ v.dimensions && list_all (λ i. is_some (coordinate_at c i)) v.dimensions) (none_not (own_dimension c v) ∙ ap not (sym (own_same c file v so)))
    ∙ ap (λ n. not own && not (n == 0) && differ v.dimensions && list_all (λ i. is_some (coordinate_at c i)) v.dimensions) (sym (length-map v.dimensions (dim_of c)))
    ∙ ap (λ b. not own && not (length (map (dim_of c) v.dimensions) == 0) && b && list_all (λ i. is_some (coordinate_at c i)) v.dimensions) (differ_same c apart v.dimensions so.dims)
    ∙ ap (λ b. not own && not (length (map (dim_of c) v.dimensions) == 0) && names_apart (map (dim_of c) v.dimensions) && b) (all_coordinates c file apart clear v.dimensions so.dims)

-- ---- maps

cons_mapped : {X Y : Type 0} (f : X → Y) (o : Option X) (xs : List X) → map f (cons_option o xs) ≡ cons_option (option_map f o) (map f xs)
cons_mapped f None xs = refl
cons_mapped f (Some x) xs = refl

maps_seen : (c : Contents) (file : List ℕ) → AreApart c → AreClear c → (ids : List ℕ) → AllByRecursion (IsDimOf c) ids → map (seen_as c file) (map_variables c ids) ≡ maps_among (seen c file) (map (dim_of c) ids)
maps_seen c file apart clear [] all = refl
maps_seen c file apart clear (i ∷ ids) all =
    cons_mapped (seen_as c file) (coordinate_variable c i) (map_variables c ids)
    ∙ ap (λ o. cons_option o (map (seen_as c file) (map_variables c ids))) (ap (option_map (seen_as c file)) (coordinate_is c i) ∙ sym (map_found c file i apart clear all.0))
    ∙ ap (cons_option (map_at (seen c file) (dim_of c i))) (maps_seen c file apart clear ids all.1)

abbrev array_with : List ℕ → BaseType → List Dim → ArrayDecl
array_with name base dims = record { name = name; base = base; dims = dims }

array_same : (c : Contents) (file : List ℕ) (w : source.Variable) → IsClear c w → array_of c w ≡ array_from (seen_as c file w)
array_same c file w so = ap (λ ids. array_with (file_id w.name) (base_of w.external_type) (map (dim_of c) ids)) (all_dimensions c w (plain c w so))

arrays_seen : (c : Contents) (file : List ℕ) → AreClear c → (ids : List ℕ) → map (array_of c) (map_variables c ids) ≡ map array_from (map (seen_as c file) (map_variables c ids))
arrays_seen c file clear [] = refl
arrays_seen c file clear (i ∷ ids) = by (coordinate_variable c i) (sym (coordinate_is c i)) (arrays_seen c file clear ids)
  where
    by : (o : Option source.Variable) → find (is_coordinate_of c i) (offered_in c) ≡ o → map (array_of c) (map_variables c ids) ≡ map array_from (map (seen_as c file) (map_variables c ids))
        → map (array_of c) (cons_option o (map_variables c ids)) ≡ map array_from (map (seen_as c file) (cons_option o (map_variables c ids)))
    by None e rest = rest
    by (Some w) e rest =
        ap (λ a. a ∷ map (array_of c) (map_variables c ids)) (array_same c file w (found_all (is_coordinate_of c i) (IsClear c) (offered_in c) w e clear)) ∙ ap (λ l. array_from (seen_as c file w) ∷ l) rest

-- ---- members and their values

member_same : (c : Contents) (file : List ℕ) (v : source.Variable) → AreApart c → AreClear c → IsClear c v → member_of c v ≡ member_from (seen c file) (seen_as c file v)
unfolding member_of
member_same c file v apart clear so =
    let w = seen_as c file v in
    let none = length w.dims == 0 in
    let whole = is_grid_among (seen c file) w in
    ap (λ b. if b then scalar (column_of v) else if is_grid c v then grid (file_id v.name) (array_of c v) (maps_of c v.dimensions) else array (array_of c v))
    (ap (λ ids. length ids == 0) (all_dimensions c v (plain c v so)) ∙ ap (λ n. n == 0) (sym (length-map v.dimensions (dim_of c))))
    ∙ ap (λ b. if none then scalar (column_of v) else if b then grid (file_id v.name) (array_of c v) (maps_of c v.dimensions) else array (array_of c v)) (grid_same c file v apart clear so)
    ∙ ap (λ a. if none then scalar (column_of v) else if whole then grid (file_id v.name) a (maps_of c v.dimensions) else array a) (array_same c file v so)
    ∙ ap (λ ms. if none then scalar (column_of v) else if whole then grid (file_id v.name) (array_from w) ms else array (array_from w))
    (maps_are c v.dimensions ∙ arrays_seen c file clear v.dimensions ∙ ap (map array_from) (maps_seen c file apart clear v.dimensions so.dims))

trees_map : (c : Contents) (file : List ℕ) (ws : List source.Variable) → map (tree_of c file) ws ≡ map (λ (w : Variable). w.tree) (map (seen_as c file) ws)
trees_map c file [] = refl
trees_map c file (w ∷ ws) = ap (λ l. tree_of c file w ∷ l) (trees_map c file ws)

tree_same : (c : Contents) (file : List ℕ) (v : source.Variable) → AreApart c → AreClear c → IsClear c v → member_tree c file v ≡ tree_from (seen c file) (seen_as c file v)
tree_same c file v apart clear so =
    let whole = is_grid_among (seen c file) (seen_as c file v) in
    ap (λ b. if b then many (trees_of (tree_of c file v ∷ map (tree_of c file) (map_variables c v.dimensions))) else tree_of c file v) (grid_same c file v apart clear so)
    ∙ ap (λ ts. if whole then many (trees_of (tree_of c file v ∷ ts)) else tree_of c file v)
    (trees_map c file (map_variables c v.dimensions) ∙ ap (map (λ (w : Variable). w.tree)) (maps_seen c file apart clear v.dimensions so.dims))

pub members_same : (c : Contents) (file : List ℕ) → AreApart c → AreClear c → (vs : List source.Variable) → AllByRecursion (IsClear c) vs → map (member_of c) vs ≡ map (member_from (seen c file)) (map (seen_as c file) vs)
members_same c file apart clear [] all = refl
members_same c file apart clear (v ∷ vs) all =
    ap (λ m. m ∷ map (member_of c) vs) (member_same c file v apart clear all.0) ∙ ap (λ l. member_from (seen c file) (seen_as c file v) ∷ l) (members_same c file apart clear vs all.1)

pub trees_same : (c : Contents) (file : List ℕ) → AreApart c → AreClear c → (vs : List source.Variable) → AllByRecursion (IsClear c) vs → map (member_tree c file) vs ≡ map (tree_from (seen c file)) (map (seen_as c file) vs)
trees_same c file apart clear [] all = refl
trees_same c file apart clear (v ∷ vs) all =
    ap (λ t. t ∷ map (member_tree c file) vs) (tree_same c file v apart clear all.0) ∙ ap (λ l. tree_from (seen c file) (seen_as c file v) ∷ l) (trees_same c file apart clear vs all.1)
