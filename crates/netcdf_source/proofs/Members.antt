-- The members of the dataset and the table of its leaves are in the same order, and have the same
-- numbers.
use Rattle.std.proofs.Common.{◌≡◌, ℕ, zero, suc, ◌<◌, ◌-◌, eqb, ◌+◌, true, false, Bool, cond, List, [], ◌∷◌, ◌++◌, length, map, filter, Option, Some, None, refl, sym, ap, subst, ◌∙◌, append_assoc, arith, length-append}
use Rattle.std.specs.Prelude.{is_some, option_map, option_and_then, slice_get}
use Rattle.std.specs.List.{list_all, cons_option, enumerate_from, find}
use Rattle.std.proofs.lemmas.Bool.Decides.{nat_tests}
use Rattle.std.proofs.lemmas.List.{map-append}
use Rattle.std.proofs.lemmas.Option.{slice_get-map}
use Rattle.plain_lemmas.proofs.Truths.{both_true}
use Rattle.dap_types.specs.Model.{Dataset, Member, scalar, array, grid, members_of, name_of}
use Rattle.dap_types.specs.Names.{file_id}
use Rattle.dap_types.specs.WellFormed.{Place, places, part_places, leaf_places, places_of}
use Rattle.dap_types.specs.declared.declarations.ArrayDecl.{ArrayDecl}
use Rattle.netcdf_source.specs.Laws.{leaf_of, own_leaf, LeavesAgree}
use Rattle.netcdf_source.specs.Mapping.{element_dimensions, is_offered, coordinate_at, is_empty, is_grid, column_of, array_of, maps_of, member_of, dataset_of, leaves_of, leaves_from, leaf_in, leaf_variable}
use Rattle.netcdf_source.specs.declared.header.Contents.{Contents}
use Rattle.netcdf_source.specs.declared.header.Variable.{Variable}
use Rattle.netcdf_source.proofs.GridMaps.{coordinate_found, grid_array, own_alone, at_front}

-- the leaf of the variable with that number, none where there is no number
abbrev numbered_leaf : Contents → Option ℕ → Option Member
numbered_leaf c number = option_map (leaf_of c) (option_and_then (slice_get c.variables) number)

abbrev leaves : List Place → List (Option Member)
leaves ps = map (λ p. own_leaf p.variable) ps

array_leaves : (depth : ℕ) (earlier : List (List ℕ)) (xs : List ArrayDecl) → leaves (leaf_places depth earlier (map array xs)) ≡ map (λ x. Some (array x)) xs
array_leaves depth earlier [] = refl
array_leaves depth earlier (x ∷ xs) = ap (λ ls. Some (array x) ∷ ls) (array_leaves depth (x.name ∷ earlier) xs)

map_leaves : (c : Contents) (ids : List ℕ) → list_all (λ i. is_some (coordinate_at c i)) ids ≡ true → map (numbered_leaf c) (map (coordinate_at c) ids) ≡ map (λ x. Some (array x)) (maps_of c ids)
map_leaves c [] e = refl
map_leaves c (i ∷ ids) e =
    let parts = both_true (is_some (coordinate_at c i)) (list_all (λ j. is_some (coordinate_at c j)) ids) e in
    let f = coordinate_found c i parts.0 in
    here (option_and_then (slice_get c.variables) (coordinate_at c i)) f.0 f.1 (own_alone c f.0 i f.2.1) (map_leaves c ids parts.1)
  where
    here : (o : Option Variable) (w : Variable) → o ≡ Some w → element_dimensions c w ≡ i ∷ [] → map (numbered_leaf c) (map (coordinate_at c) ids) ≡ map (λ x. Some (array x)) (maps_of c ids)
        → option_map (leaf_of c) o ∷ map (numbered_leaf c) (map (coordinate_at c) ids) ≡ map (λ x. Some (array x)) (cons_option (option_map (array_of c) o) (maps_of c ids))
    here o w is alone more =
        let leaf : leaf_of c w ≡ array (array_of c w) = ap (λ ids. cond (is_empty ids) (scalar (column_of w)) (array (array_of c w))) alone in
        rw is (ap (λ l. Some l ∷ map (numbered_leaf c) (map (coordinate_at c) ids)) leaf ∙ ap (λ ls. Some (array (array_of c w)) ∷ ls) more)

-- a variable is a leaf, or the array of a Grid
one_member : (c : Contents) (k : ℕ) (v : Variable) → slice_get c.variables k ≡ Some v → map (numbered_leaf c) (leaves_of c k v) ≡ own_leaf (member_of c v) ∷ leaves (part_places 2 (member_of c v))
unfolding member_of
one_member c k v at = go (is_grid c v) refl
  where
    self : numbered_leaf c (Some k) ≡ Some (leaf_of c v)
    self = ap (option_map (leaf_of c)) at

    plain : (b : Bool) → Some (cond b (scalar (column_of v)) (array (array_of c v))) ∷ []
        ≡ own_leaf (cond b (scalar (column_of v)) (array (array_of c v))) ∷ leaves (part_places 2 (cond b (scalar (column_of v)) (array (array_of c v))))
    plain true = refl
    plain false = refl

    go : (b : Bool) → is_grid c v ≡ b → map (numbered_leaf c) (cond b (None ∷ Some k ∷ map (coordinate_at c) v.dimensions) (Some k ∷ []))
        ≡ own_leaf (cond (is_empty (element_dimensions c v)) (scalar (column_of v)) (cond b (grid (file_id v.name) (array_of c v) (maps_of c v.dimensions)) (array (array_of c v))))
        ∷ leaves (part_places 2 (cond (is_empty (element_dimensions c v)) (scalar (column_of v)) (cond b (grid (file_id v.name) (array_of c v) (maps_of c v.dimensions)) (array (array_of c v)))))
    go true e =
        let g = grid_array c v e in
        let some : is_empty (element_dimensions c v) ≡ false = ap is_empty g.whole ∙ g.some in
        let leaf : leaf_of c v ≡ array (array_of c v) = ap (λ b. cond b (scalar (column_of v)) (array (array_of c v))) some in
        rw some (ap (λ l. None ∷ l ∷ map (numbered_leaf c) (map (coordinate_at c) v.dimensions)) (self ∙ ap Some leaf)
        ∙ ap (λ ls. None ∷ Some (array (array_of c v)) ∷ ls) (map_leaves c v.dimensions g.coordinates)
        ∙ ap (λ ls. None ∷ ls) (sym (array_leaves 2 [] (array_of c v ∷ maps_of c v.dimensions))))
    go false e = ap (λ l. l ∷ []) self ∙ plain (is_empty (element_dimensions c v))

members_agree : (c : Contents) (before vs : List Variable) (k : ℕ) (earlier : List (List ℕ)) → c.variables ≡ before ++ vs → length before ≡ k
    → map (numbered_leaf c) (leaves_from c k vs) ≡ leaves (places 1 earlier (members_of (map (member_of c) (filter (is_offered c) vs))))
unfolding leaves_from
members_agree c before [] k earlier whole len = refl
members_agree c before (v ∷ vs) k earlier whole len =
    let later : c.variables ≡ (before ++ v ∷ []) ++ vs = whole ∙ sym (append_assoc before (v ∷ []) vs) in
    let next : length (before ++ v ∷ []) ≡ k + 1 = omega (arith, len, length-append before (v ∷ [])) in
    let at : slice_get c.variables k ≡ Some v = ap (λ xs. slice_get xs k) whole ∙ ap (slice_get (before ++ v ∷ vs)) (sym len) ∙ at_front before vs v in
    go (is_offered c v) (one_member c k v at) (members_agree c (before ++ v ∷ []) vs (k + 1) (name_of (member_of c v) ∷ earlier) later next) (members_agree c (before ++ v ∷ []) vs (k + 1) earlier later next)
  where
    go : (b : Bool) → map (numbered_leaf c) (leaves_of c k v) ≡ own_leaf (member_of c v) ∷ leaves (part_places 2 (member_of c v))
        → map (numbered_leaf c) (leaves_from c (k + 1) vs) ≡ leaves (places 1 (name_of (member_of c v) ∷ earlier) (members_of (map (member_of c) (filter (is_offered c) vs))))
        → map (numbered_leaf c) (leaves_from c (k + 1) vs) ≡ leaves (places 1 earlier (members_of (map (member_of c) (filter (is_offered c) vs))))
        → map (numbered_leaf c) (cond b (leaves_of c k v) [] ++ leaves_from c (k + 1) vs) ≡ leaves (places 1 earlier (members_of (map (member_of c) (cond b (v ∷ filter (is_offered c) vs) (filter (is_offered c) vs)))))
    go true one behind same =
        map-append (numbered_leaf c) (leaves_of c k v) (leaves_from c (k + 1) vs)
        ∙ ap (λ ls. ls ++ map (numbered_leaf c) (leaves_from c (k + 1) vs)) one
        ∙ ap (λ ls. own_leaf (member_of c v) ∷ leaves (part_places 2 (member_of c v)) ++ ls) behind
        ∙ ap (λ ls. own_leaf (member_of c v) ∷ ls) (sym (map-append (λ p. own_leaf p.variable) (part_places 2 (member_of c v)) (places 1 (name_of (member_of c v) ∷ earlier) (members_of (map (member_of c) (filter (is_offered c) vs))))))
    go false one behind same = same

-- ---- numbers

found : {X : Type 0} (a i : ℕ) (xs : List X) → option_map (λ p. p.1) (find (λ p. eqb p.0 (a + i)) (enumerate_from a xs)) ≡ slice_get xs i
found a i [] = refl
found a zero (x ∷ xs) = let e : eqb a (a + 0) ≡ true = grind (arith, nat_tests) in rw e refl
found a (suc i) (x ∷ xs) =
    let e : eqb a (a + suc i) ≡ false = grind (arith, nat_tests) in
    let same : a + suc i ≡ (a + 1) + i = omega arith in
    rw e (ap (λ (n : ℕ). option_map (λ p. p.1) (find (λ p. eqb p.0 n) (enumerate_from (a + 1) xs))) same ∙ found (a + 1) i xs)

before_first : {X : Type 0} (a n : ℕ) (xs : List X) → n < a → find (λ p. eqb p.0 n) (enumerate_from a xs) ≡ None
before_first a n [] lt = refl
before_first a n (x ∷ xs) lt = let e : eqb a n ≡ false = grind (arith, nat_tests) in rw e (before_first (a + 1) n xs (omega arith))

joined : {X Y : Type 0} (f : X → Option Y) (o : Option X) → option_and_then (λ y. y) (option_map f o) ≡ option_and_then f o
joined f None = refl
joined f (Some x) = refl

variable_of : (d : Dataset) (o : Option (ℕ × Place)) (p : Option Place) → option_map (λ x. x.1) o ≡ p → option_and_then own_leaf (option_map (λ x. x.1.variable) o) ≡ option_and_then (λ x. own_leaf x.variable) p
variable_of d None p e = rw (← e) refl
variable_of d (Some x) p e = rw (← e) refl

leaf_after : (ls : List (Option ℕ)) (m : ℕ) → leaf_in ls (suc m) ≡ option_and_then (λ leaf. leaf) (slice_get ls m)
leaf_after ls m =
    let some : eqb (suc m) 0 ≡ false = grind (arith, nat_tests) in
    let last : suc m - 1 ≡ m = omega arith in
    rw (some, last) refl

leaf_at : (c : Contents) (m : ℕ) → option_and_then (numbered_leaf c) (slice_get (leaves_from c 0 c.variables) m) ≡ option_map (leaf_of c) (leaf_variable c (suc m))
unfolding leaf_variable
leaf_at c m =
    go (slice_get (leaves_from c 0 c.variables) m) ∙ ap (λ o. option_map (leaf_of c) (option_and_then (slice_get c.variables) o)) (sym (leaf_after (leaves_from c 0 c.variables) m))
  where
    go : (o : Option (Option ℕ)) → option_and_then (numbered_leaf c) o ≡ option_map (leaf_of c) (option_and_then (slice_get c.variables) (option_and_then (λ leaf. leaf) o))
    go None = refl
    go (Some number) = refl

pub leaves_agree : LeavesAgree
unfolding leaf_variable
leaves_agree c file_name zero =
    ap (λ o. option_and_then own_leaf (option_map (λ p. p.1.variable) o)) (before_first 1 0 (places_of (dataset_of c file_name)) (omega arith)) ∙ none
  where
    none : Path (Option Member) None (option_map (leaf_of c) (leaf_variable c 0))
    none = refl
leaves_agree c file_name (suc m) =
    let d = dataset_of c file_name in
    let number : 1 + m ≡ suc m = omega arith in
    let at = subst (λ (n : ℕ). option_map (λ p. p.1) (find (λ p. eqb p.0 n) (enumerate_from 1 (places_of d))) ≡ slice_get (places_of d) m) number (found 1 m (places_of d)) in
    variable_of d (find (λ p. eqb p.0 (suc m)) (enumerate_from 1 (places_of d))) (slice_get (places_of d) m) at
    ∙ sym (joined (λ p. own_leaf p.variable) (slice_get (places_of d) m))
    ∙ ap (option_and_then (λ leaf. leaf)) (sym (slice_get-map (λ p. own_leaf p.variable) (places_of d) m))
    ∙ ap (λ ls. option_and_then (λ leaf. leaf) (slice_get ls m)) (sym (members_agree c [] c.variables 0 [] refl refl))
    ∙ ap (option_and_then (λ leaf. leaf)) (slice_get-map (numbered_leaf c) (leaves_from c 0 c.variables) m)
    ∙ joined (numbered_leaf c) (slice_get (leaves_from c 0 c.variables) m)
    ∙ leaf_at c m
