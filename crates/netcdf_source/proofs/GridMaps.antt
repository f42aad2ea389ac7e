-- The coordinate variables of a Grid's dimensions: each is a variable of its own, over that dimension
-- alone.
use Rattle.std.proofs.Common.{◌≡◌, ℕ, zero, suc, ◌+◌, ◌-◌, Bool, true, false, not, ◌&&◌, ◌||◌, cond, eqb, List, [], ◌∷◌, ◌++◌, length, map, take, Option, Some, None, refl, sym, ap, subst, ◌∙◌, arith}
use Rattle.std.specs.Prelude.{is_some, is_none, option_map, option_and_then, slice_get}
use Rattle.std.specs.List.{list_all, list_any, position_from, cons_option, AllZip}
use Rattle.std.specs.Option.{option_map_or}
use Rattle.std.specs.Str.{bytes_eq}
use Rattle.std.proofs.lemmas.Bool.Decides.{nat_tests}
use Rattle.std.proofs.lemmas.Slice.Eq.{bytes_eq-Decides}
use Rattle.std.proofs.lemmas.Bool.{or_parts, not-true}
use Rattle.plain_lemmas.proofs.Lists.{any-map}
use Rattle.plain_lemmas.proofs.Truths.{both_true}
use Rattle.netcdf_source.specs.Mapping.{is_char, has_single_bytes, has_texts, element_dimensions, is_offered, has_dimension_name, own_dimension_in, own_dimension, is_coordinate_of, coordinate_at, differ, is_empty, is_grid, coordinate_variable, array_of, maps_of}
use Rattle.netcdf_source.specs.Parts.{lengths}
use Rattle.netcdf_source.specs.inner.Sound.{InTurn, IsVariable}
use Rattle.netcdf_source.specs.Values.{map_variables}
use Rattle.netcdf_source.specs.declared.header.Contents.{Contents}
use Rattle.netcdf_source.specs.declared.header.Dimension.{Dimension}
use Rattle.netcdf_source.specs.declared.header.Variable.{Variable}
use Rattle.netcdf_source.proofs.Lists.{list_any-push}

abbrev names : List Variable → List (List ℕ)
names vs = map (λ v. v.name) vs

-- ---- names

-- a name that comes later was not met before
abbrev pub IsNew : List Variable → Variable → Type 0
IsNew before v = list_any (bytes_eq v.name) (names before) ≡ false

pub new_before : (before : List Variable) (v w : Variable) → IsNew (before ++ v ∷ []) w → IsNew before w × (bytes_eq w.name v.name ≡ false)
new_before before v w h =
    or_parts (list_any (bytes_eq w.name) (names before)) (bytes_eq w.name v.name)
    (ap (λ b. b || bytes_eq w.name v.name) (any-map (bytes_eq w.name) (λ x. x.name) before) ∙ sym (list_any-push (λ x. bytes_eq w.name x.name) before v) ∙ sym (any-map (bytes_eq w.name) (λ x. x.name) (before ++ v ∷ [])) ∙ h)

pub later_new : (dims : List Dimension) (before vs : List Variable) (k : ℕ) (v : Variable) → InTurn (IsVariable dims) before vs → slice_get vs k ≡ Some v → IsNew before v
unfolding InTurn
later_new dims before [] k v h at = absurd cc
later_new dims before (w ∷ vs) zero v h at = subst (IsNew before) (some_is w v at) h.0.is_new
  where
    some_is : (x y : Variable) → Path (Option Variable) (Some x) (Some y) → x ≡ y
    some_is x y q = cc
later_new dims before (w ∷ vs) (suc k) v h at = (new_before before w v (later_new dims (before ++ w ∷ []) vs k v h.1 at)).0

-- two variables of one name are the same
pub one_name : (dims : List Dimension) (before vs : List Variable) (k l : ℕ) (v w : Variable) → InTurn (IsVariable dims) before vs
    → slice_get vs k ≡ Some v → slice_get vs l ≡ Some w → v.name ≡ w.name → v ≡ w
unfolding InTurn
one_name dims before [] k l v w h at at' same = absurd cc
one_name dims before (x ∷ vs) zero zero v w h at at' same = cc
one_name dims before (x ∷ vs) zero (suc l) v w h at at' same =
    let head : x ≡ v = cc in
    let differ = (new_before before x w (later_new dims (before ++ x ∷ []) vs l w h.1 at')).1 in
    absurd (never (bytes_eq w.name x.name) differ ((bytes_eq-Decides w.name x.name).1 (sym same ∙ ap (λ (y : Variable). y.name) (sym head))))
  where
    never : (b : Bool) → b ≡ false → b ≡ true → ⊥
    never b p q = cc
one_name dims before (x ∷ vs) (suc k) zero v w h at at' same =
    let head : x ≡ w = cc in
    let differ = (new_before before x v (later_new dims (before ++ x ∷ []) vs k v h.1 at)).1 in
    absurd (never (bytes_eq v.name x.name) differ ((bytes_eq-Decides v.name x.name).1 (same ∙ ap (λ (y : Variable). y.name) (sym head))))
  where
    never : (b : Bool) → b ≡ false → b ≡ true → ⊥
    never b p q = cc
one_name dims before (x ∷ vs) (suc k) (suc l) v w h at at' same = one_name dims (before ++ x ∷ []) vs k l v w h.1 at at' same

pub at_front : {X : Type 0} (before vs : List X) (v : X) → slice_get (before ++ v ∷ vs) (length before) ≡ Some v
at_front [] vs v = refl
at_front (x ∷ before) vs v = at_front before vs v

-- ---- coordinate variables

-- a variable of the file that is the coordinate variable of a dimension
abbrev pub IsOwn : Contents → Variable → ℕ → Type 0
IsOwn c w i = ((k : ℕ) × (slice_get c.variables k ≡ Some w)) × (own_dimension c w ≡ Some i)

-- the variable found is one of the list, and passes the test
found_passes : {X : Type 0} (p : X → Bool) (j : ℕ) (xs : List X) (k : ℕ) → position_from p j xs ≡ Some k → (i : ℕ) × (x : X) × (k ≡ j + i) × (slice_get xs i ≡ Some x) × (p x ≡ true)
found_passes p j [] k e = absurd cc
found_passes {X} p j (x ∷ xs) k e = go (p x) refl e (λ h. found_passes p (j + 1) xs k h)
  where
    here : (a b : ℕ) → Path (Option ℕ) (Some a) (Some b) → b ≡ a + 0
    here a b q = let same : a ≡ b = cc in omega (arith, same)

    go : (b : Bool) → p x ≡ b → cond b (Some j) (position_from p (j + 1) xs) ≡ Some k
        → (position_from p (j + 1) xs ≡ Some k → (i : ℕ) × (y : X) × (k ≡ (j + 1) + i) × (slice_get xs i ≡ Some y) × (p y ≡ true))
        → (i : ℕ) × (y : X) × (k ≡ j + i) × (slice_get (x ∷ xs) i ≡ Some y) × (p y ≡ true)
    go true is h more = (0, x, here j k h, refl, is)
    go false is h more = let m = more h in (suc m.0, m.1, omega (arith, m.2), m.3, m.4)

owns : (c : Contents) (i : ℕ) (w : Variable) → is_coordinate_of c i w ≡ true → own_dimension c w ≡ Some i
owns c i w e = go (own_dimension c w) e
  where
    go : (o : Option ℕ) → option_map_or (λ j. eqb j i) o false ≡ true → o ≡ Some i
    go None h = absurd cc
    go (Some j) h = ap Some (same j i h)
      where
        same : (a b : ℕ) → eqb a b ≡ true → a ≡ b
        same a b q = grind (arith, nat_tests)

-- a dimension's coordinate variable, where it has one
pub coordinate_found : (c : Contents) (i : ℕ) → is_some (coordinate_at c i) ≡ true → (w : Variable) × (coordinate_variable c i ≡ Some w) × IsOwn c w i
unfolding coordinate_at
coordinate_found c i some = go (coordinate_at c i) refl some
  where
    go : (o : Option ℕ) → coordinate_at c i ≡ o → is_some o ≡ true → (w : Variable) × (option_and_then (slice_get c.variables) o ≡ Some w) × IsOwn c w i
    go None e h = absurd cc
    go (Some k) e h =
        let f = found_passes (is_coordinate_of c i) 0 c.variables k e in
        let same : f.0 ≡ k = omega (arith, f.2) in
        let at : slice_get c.variables k ≡ Some f.1 = subst (λ (n : ℕ). slice_get c.variables n ≡ Some f.1) same f.3 in
        (f.1, at, ((k, at), owns c i f.1 f.4))

pub own_variables : (c : Contents) (ids : List ℕ) → list_all (λ i. is_some (coordinate_at c i)) ids ≡ true → AllZip (IsOwn c) (map_variables c ids) ids
own_variables c [] e = tt
own_variables c (i ∷ ids) e =
    let parts = both_true (is_some (coordinate_at c i)) (list_all (λ j. is_some (coordinate_at c j)) ids) e in
    let f = coordinate_found c i parts.0 in
    subst (λ o. AllZip (IsOwn c) (cons_option o (map_variables c ids)) (i ∷ ids)) (sym f.1) (f.2, own_variables c ids parts.1)

-- the maps are their arrays
pub maps_are : (c : Contents) (ids : List ℕ) → maps_of c ids ≡ map (array_of c) (map_variables c ids)
maps_are c [] = refl
maps_are c (i ∷ ids) = go (coordinate_variable c i) (maps_are c ids)
  where
    go : (o : Option Variable) → maps_of c ids ≡ map (array_of c) (map_variables c ids) → cons_option (option_map (array_of c) o) (maps_of c ids) ≡ map (array_of c) (cons_option o (map_variables c ids))
    go None more = more
    go (Some w) more = ap (λ xs. array_of c w ∷ xs) more

-- ---- the arrays of Grids, and their maps

-- what is known of the array of a Grid
pub record GridArray (c : Contents) (v : Variable) : Type 0 where
  pub whole : element_dimensions c v ≡ v.dimensions
  pub own : own_dimension c v ≡ None
  pub some : is_empty v.dimensions ≡ false
  pub differ : differ v.dimensions ≡ true
  pub coordinates : list_all (λ i. is_some (coordinate_at c i)) v.dimensions ≡ true

without_texts : (c : Contents) (v : Variable) → is_char v ≡ false → element_dimensions c v ≡ v.dimensions
unfolding element_dimensions has_texts
without_texts c v e = go (is_char v) (has_single_bytes (lengths c.dimensions v.dimensions)) e
  where
    go : (b s : Bool) → b ≡ false → cond (b && not s) (take (length v.dimensions - 1) v.dimensions) v.dimensions ≡ v.dimensions
    go true s q = absurd cc
    go false s q = refl

pub grid_array : (c : Contents) (v : Variable) → is_grid c v ≡ true → GridArray c v
unfolding is_grid
grid_array c v e =
    let four = both_true (not (is_char v) && is_none (own_dimension c v) && not (is_empty v.dimensions) && differ v.dimensions) (list_all (λ i. is_some (coordinate_at c i)) v.dimensions) e in
    let three = both_true (not (is_char v) && is_none (own_dimension c v) && not (is_empty v.dimensions)) (differ v.dimensions) four.0 in
    let two = both_true (not (is_char v) && is_none (own_dimension c v)) (not (is_empty v.dimensions)) three.0 in
    let one = both_true (not (is_char v)) (is_none (own_dimension c v)) two.0 in
    record { whole = without_texts c v (not-true (is_char v) one.0); own = none (own_dimension c v) one.1; some = not-true (is_empty v.dimensions) two.1; differ = three.1; coordinates = four.1 }
  where
    none : (o : Option ℕ) → is_none o ≡ true → o ≡ None
    none None q = refl
    none (Some i) q = absurd cc

-- a coordinate variable has its dimension alone, is not-true text, and is offered
pub record OwnFacts (c : Contents) (w : Variable) (i : ℕ) : Type 0 where
  pub alone : w.dimensions ≡ i ∷ []
  pub plain : is_char w ≡ false
  pub offered : is_offered c w ≡ true

pub own_facts : (c : Contents) (w : Variable) (i : ℕ) → own_dimension c w ≡ Some i → OwnFacts c w i
unfolding own_dimension
own_facts c w i e = go w.dimensions refl e
  where
    told : (j : ℕ) (o : Option Dimension) → option_map_or (λ d. is_offered c w && not (is_char w) && bytes_eq w.name d.name) o false ≡ true → (is_char w ≡ false) × (is_offered c w ≡ true)
    told j None q = absurd cc
    told j (Some d) q =
        let two = both_true (is_offered c w && not (is_char w)) (bytes_eq w.name d.name) q in
        let one = both_true (is_offered c w) (not (is_char w)) two.0 in
        (not-true (is_char w) one.1, one.0)

    named : (j : ℕ) (b : Bool) → w.dimensions ≡ j ∷ [] → has_dimension_name c j w ≡ b → cond b (Some j) None ≡ Some i → OwnFacts c w i
    named j true alone is q =
        let same : j ≡ i = cc in
        let t = told j (slice_get c.dimensions j) is in
        record { alone = alone ∙ ap (λ (k : ℕ). k ∷ []) same; plain = t.0; offered = t.1 }
    named j false alone is q = absurd cc

    go : (ids : List ℕ) → w.dimensions ≡ ids → own_dimension_in c w ids ≡ Some i → OwnFacts c w i
    go [] alone q = absurd cc
    go (j ∷ []) alone q = named j (has_dimension_name c j w) alone refl q
    go (j ∷ k ∷ ids) alone q = absurd cc

pub own_alone : (c : Contents) (w : Variable) (i : ℕ) → own_dimension c w ≡ Some i → element_dimensions c w ≡ i ∷ []
own_alone c w i e = let g = own_facts c w i e in without_texts c w g.plain ∙ g.alone

pub own_offered : (c : Contents) (w : Variable) (i : ℕ) → own_dimension c w ≡ Some i → is_offered c w ≡ true
own_offered c w i e = (own_facts c w i e).offered
