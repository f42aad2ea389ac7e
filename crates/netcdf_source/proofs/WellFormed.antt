-- The dataset of a sound header is well formed.
use Rattle.std.proofs.Common.{◌≡◌, ℕ, zero, suc, ◌-◌, ◌≤◌, Bool, true, false, not, cond, eqb, List, [], ◌∷◌, ◌++◌, length, map, take, filter, All, Contains, sum_by, Option, Some, None, refl, sym, ap, subst, ◌∙◌, append_assoc, arith}
use Rattle.std.specs.Prelude.{slice_get}
use Rattle.std.specs.List.{list_any, cons_option, AllZip}
use Rattle.std.specs.Str.{bytes_eq}
use Rattle.std.proofs.lemmas.Bool.Decides.{not_from_Decides}
use Rattle.std.proofs.lemmas.List.{length-map, length-take}
use Rattle.std.proofs.lemmas.List.Elements.{All-nil, All-cons, All-append, All-map}
use Rattle.std.proofs.lemmas.List.Sums.{sum_by-cons}
use Rattle.std.proofs.lemmas.Slice.Eq.{bytes_eq-Decides}
use Rattle.std.proofs.lemmas.Bool.{or_from, or_right, not-true}
use Rattle.plain_lemmas.proofs.Numbers.{equal_itself}
use Rattle.plain_lemmas.proofs.Truths.{both_true}
use Rattle.dap_types.specs.Model.{Member, scalar, array, grid, members_of, name_of, count, count_all, sizes}
use Rattle.dap_types.specs.Names.{file_id}
use Rattle.dap_types.specs.WellFormed.{place, places, part_places, leaf_places, IsSized, HasMaps, IsWellFormed}
use Rattle.dap_types.specs.declared.declarations.Dim.{Dim}
use Rattle.dap_types.proofs.Faults.{length-places}
use Rattle.dap_types.proofs.Rules.{Obeys, earlier-Decides, well_formed_where_all_obey, false_from_not}
use Rattle.netcdf_source.specs.Mapping.{size_at, has_texts, element_dimensions, is_offered, own_dimension, coordinate_variable, differ, is_empty, is_grid, dim_of, column_of, array_of, maps_of, member_of, dataset_of}
use Rattle.netcdf_source.specs.inner.Sound.{InTurn, IsVariable, IsSound, grid_members}
use Rattle.netcdf_source.specs.declared.header.Contents.{Contents}
use Rattle.netcdf_source.specs.declared.header.Variable.{Variable}
use Rattle.netcdf_source.specs.inner.Told.{AreSmall}
use Rattle.netcdf_source.proofs.Offered.{elements_small}
use Rattle.netcdf_source.proofs.EscapedNames.{same_names}
use Rattle.netcdf_source.specs.Values.{map_variables}
use Rattle.netcdf_source.proofs.GridMaps.{GridArray, grid_array, own_alone, own_offered, at_front, IsNew, new_before, one_name, IsOwn, own_variables, maps_are}

-- ---- names of a level

-- a name is none of those before it
abbrev IsFree : List (List ℕ) → List ℕ → Type 0
IsFree earlier name = list_any (bytes_eq name) earlier ≡ false

free_name : (earlier : List (List ℕ)) (name : List ℕ) → IsFree earlier name → ¬ Contains earlier name
free_name earlier name free = not_from_Decides (list_any (bytes_eq name) earlier) (earlier-Decides name earlier) free

-- names of a file that were not met are free
abbrev AreFree : List Variable → List (List ℕ) → Type 0
AreFree before earlier = (w : Variable) → IsNew before w → IsFree earlier (file_id w.name)

free_next : (before : List Variable) (earlier : List (List ℕ)) (v : Variable) → AreFree before earlier → AreFree (before ++ v ∷ []) (file_id v.name ∷ earlier)
free_next before earlier v free w new =
    let n = new_before before v w new in
    or_from (bytes_eq (file_id w.name) (file_id v.name)) (list_any (bytes_eq (file_id w.name)) earlier) (same_names w.name v.name ∙ n.1) (free w n.0)

free_same : (before : List Variable) (earlier : List (List ℕ)) (v : Variable) → AreFree before earlier → AreFree (before ++ v ∷ []) earlier
free_same before earlier v free w new = free w (new_before before v w new).0

-- ---- sizes

pub dims_sizes : (c : Contents) (ids : List ℕ) → map (λ (d : Dim). d.size) (map (dim_of c) ids) ≡ map (size_at c) ids
dims_sizes c [] = refl
dims_sizes c (i ∷ ids) = ap (λ ns. size_at c i ∷ ns) (dims_sizes c ids)

sizes_small : (c : Contents) (ids : List ℕ) → AreSmall c ids → All (λ n. n ≤ 2147483647) (map (size_at c) ids)
unfolding AreSmall
sizes_small c ids h = All-map (λ n. n ≤ 2147483647) (size_at c) ids h

element_rank : (c : Contents) (v : Variable) → length (element_dimensions c v) ≤ length v.dimensions
unfolding element_dimensions
element_rank c v = go (has_texts c v)
  where
    go : (b : Bool) → length (cond b (take (length v.dimensions - 1) v.dimensions) v.dimensions) ≤ length v.dimensions
    go true = omega (arith, length-take (length v.dimensions - 1) v.dimensions)
    go false = omega arith

array_sized : (c : Contents) (v : Variable) → is_offered c v ≡ true → length v.dimensions ≤ 32 → is_empty (element_dimensions c v) ≡ false → IsSized (array (array_of c v))
array_sized c v h rank some = (
  omega (arith, length-map (element_dimensions c v) (dim_of c), one (length (element_dimensions c v)) some),
  omega (arith, length-map (element_dimensions c v) (dim_of c), element_rank c v),
  subst (All (λ n. n ≤ 2147483647)) (sym (dims_sizes c (element_dimensions c v))) (sizes_small c (element_dimensions c v) (elements_small c v h)),
)
  where
    one : (n : ℕ) → eqb n 0 ≡ false → 1 ≤ n
    one zero e = absurd cc
    one (suc n) e = omega arith

-- ---- Grids

own_sizes : (c : Contents) (w : Variable) (i : ℕ) → IsOwn c w i → sizes (array_of c w) ≡ size_at c i ∷ []
own_sizes c w i is = dims_sizes c (element_dimensions c w) ∙ ap (map (size_at c)) (own_alone c w i is.1)

own_sized : (c : Contents) (w : Variable) (i : ℕ) → IsOwn c w i → IsSized (array (array_of c w))
own_sized c w i is =
    let one : length (element_dimensions c w) ≡ 1 = ap length (own_alone c w i is.1) in (
      omega (arith, length-map (element_dimensions c w) (dim_of c), one),
      omega (arith, length-map (element_dimensions c w) (dim_of c), one),
      subst (All (λ n. n ≤ 2147483647)) (sym (dims_sizes c (element_dimensions c w))) (sizes_small c (element_dimensions c w) (elements_small c w (own_offered c w i is.1))),
    )

-- two variables that are not the coordinate variable of one dimension have different names
names_apart : (c : Contents) (k l : ℕ) (v w : Variable) → IsSound c → slice_get c.variables k ≡ Some v → slice_get c.variables l ≡ Some w → (own_dimension c v ≡ own_dimension c w → ⊥)
    → bytes_eq (file_id v.name) (file_id w.name) ≡ false
names_apart c k l v w h at at' apart =
    same_names v.name w.name ∙ false_from_not (bytes_eq v.name w.name) (bytes_eq-Decides v.name w.name) (λ same. apart (ap (own_dimension c) (one_name c.dimensions [] c.variables k l v w h.variables at at' same)))

-- the coordinate variables of these dimensions have names that were not met
abbrev AreUnmet : Contents → List ℕ → List (List ℕ) → Type 0
AreUnmet c ids earlier = (w : Variable) (i : ℕ) → IsOwn c w i → list_any (λ j. eqb j i) ids ≡ true → IsFree earlier (file_id w.name)

unmet_next : (c : Contents) (i : ℕ) (ids : List ℕ) (earlier : List (List ℕ)) (w : Variable) → IsSound c → IsOwn c w i → list_any (λ j. eqb j i) ids ≡ false → AreUnmet c (i ∷ ids) earlier → AreUnmet c ids (file_id w.name ∷ earlier)
unmet_next c i ids earlier w h is fresh unmet u k own among =
    or_from (bytes_eq (file_id u.name) (file_id w.name)) (list_any (bytes_eq (file_id u.name)) earlier)
    (names_apart c own.0.0 is.0.0 u w h own.0.1 is.0.1 (λ same. apart (some_is k i (sym own.1 ∙ same ∙ is.1))))
    (unmet u k own (or_right (eqb i k) (list_any (λ j. eqb j k) ids) among))
  where
    some_is : (a b : ℕ) → Path (Option ℕ) (Some a) (Some b) → a ≡ b
    some_is a b q = cc

    clash : (b : Bool) → b ≡ false → b ≡ true → ⊥
    clash b p q = cc

    apart : k ≡ i → ⊥
    apart e = clash (list_any (λ j. eqb j i) ids) fresh (subst (λ (n : ℕ). list_any (λ j. eqb j n) ids ≡ true) e among)

maps_obey : (c : Contents) (ws : List Variable) (ids : List ℕ) (earlier : List (List ℕ)) → IsSound c → AllZip (IsOwn c) ws ids → differ ids ≡ true → AreUnmet c ids earlier
    → All Obeys (leaf_places 2 earlier (map array (map (array_of c) ws)))
unfolding differ
maps_obey c [] ids earlier h zip apart unmet = All-nil Obeys
maps_obey c (w ∷ ws) [] earlier h zip apart unmet = absurd zip
maps_obey c (w ∷ ws) (i ∷ ids) earlier h zip apart unmet =
    let parts = both_true (not (list_any (λ j. eqb j i) ids)) (differ ids) apart in
    let here : list_any (λ j. eqb j i) (i ∷ ids) ≡ true = rw (equal_itself i) refl in
    All-cons Obeys (place 2 earlier (array (array_of c w))) (leaf_places 2 (file_id w.name ∷ earlier) (map array (map (array_of c) ws)))
    (record { shallow = omega arith; name_differs = free_name earlier (file_id w.name) (unmet w i zip.0 here); sized = own_sized c w i zip.0; mapped = tt })
    (maps_obey c ws ids (file_id w.name ∷ earlier) h zip.1 parts.1 (unmet_next c i ids earlier w h zip.0 (not-true (list_any (λ j. eqb j i) ids) parts.0) unmet))

maps_fit : (c : Contents) (ws : List Variable) (ids : List ℕ) → AllZip (IsOwn c) ws ids → AllZip (λ m n. sizes m ≡ n ∷ []) (map (array_of c) ws) (map (size_at c) ids)
maps_fit c [] [] zip = tt
maps_fit c [] (i ∷ ids) zip = absurd zip
maps_fit c (w ∷ ws) [] zip = absurd zip
maps_fit c (w ∷ ws) (i ∷ ids) zip = (own_sizes c w i zip.0, maps_fit c ws ids zip.1)

-- ---- members

-- a variable of the file
abbrev IsOne : Contents → Variable → Type 0
IsOne c v = (k : ℕ) × (slice_get c.variables k ≡ Some v)

grid_obeys : (c : Contents) (v : Variable) → IsSound c → IsOne c v → is_offered c v ≡ true → length v.dimensions ≤ 32 → GridArray c v
    → HasMaps (grid (file_id v.name) (array_of c v) (maps_of c v.dimensions)) × All Obeys (part_places 2 (grid (file_id v.name) (array_of c v) (maps_of c v.dimensions)))
grid_obeys c v h one told rank g =
    let zip = own_variables c v.dimensions g.coordinates in
    let ns : sizes (array_of c v) ≡ map (size_at c) v.dimensions = dims_sizes c (element_dimensions c v) ∙ ap (map (size_at c)) g.whole in
    let ws = map_variables c v.dimensions in
    let unmet : AreUnmet c v.dimensions (file_id v.name ∷ []) = λ w i own among. or_from (bytes_eq (file_id w.name) (file_id v.name)) false (names_apart c own.0.0 one.0 w v h own.0.1 one.1 (λ same. none_some i (sym own.1 ∙ same ∙ g.own))) refl in (
      rw (maps_are c v.dimensions, ns) (maps_fit c ws v.dimensions zip),
      subst (λ maps. All Obeys (leaf_places 2 [] (map array (array_of c v ∷ maps)))) (sym (maps_are c v.dimensions))
          (All-cons Obeys (place 2 [] (array (array_of c v))) (leaf_places 2 (file_id v.name ∷ []) (map array (map (array_of c) ws)))
          (record { shallow = omega arith; name_differs = free_name [] (file_id v.name) refl; sized = array_sized c v told rank (ap is_empty g.whole ∙ g.some); mapped = tt })
          (maps_obey c ws v.dimensions (file_id v.name ∷ []) h zip g.differ unmet)),
    )
  where
    none_some : (i : ℕ) → Path (Option ℕ) (Some i) None → ⊥
    none_some i q = cc

-- a member and its parts
abbrev ObeysBelow : List (List ℕ) → Member → Type 0
ObeysBelow earlier m = Obeys (place 1 earlier m) × All Obeys (part_places 2 m)

member_obeys : (c : Contents) (earlier : List (List ℕ)) (v : Variable) → IsSound c → IsOne c v → is_offered c v ≡ true → length v.dimensions ≤ 32 → IsFree earlier (file_id v.name) → ObeysBelow earlier (member_of c v)
unfolding member_of
member_obeys c earlier v h one told rank free = go (is_empty (element_dimensions c v)) refl (is_grid c v) refl
  where
    go : (e : Bool) → is_empty (element_dimensions c v) ≡ e → (b : Bool) → is_grid c v ≡ b
        → ObeysBelow earlier (cond e (scalar (column_of v)) (cond b (grid (file_id v.name) (array_of c v) (maps_of c v.dimensions)) (array (array_of c v))))
    go true p b q = (record { shallow = omega arith; name_differs = free_name earlier (file_id v.name) free; sized = tt; mapped = tt }, All-nil Obeys)
    go false p true q =
        let g = grid_obeys c v h one told rank (grid_array c v q) in
        (record { shallow = omega arith; name_differs = free_name earlier (file_id v.name) free; sized = tt; mapped = g.0 }, g.1)
    go false p false q = (record { shallow = omega arith; name_differs = free_name earlier (file_id v.name) free; sized = array_sized c v told rank p; mapped = tt }, All-nil Obeys)

member_name : (c : Contents) (v : Variable) → name_of (member_of c v) ≡ file_id v.name
unfolding member_of
member_name c v = go (is_empty (element_dimensions c v)) (is_grid c v)
  where
    go : (e b : Bool) → name_of (cond e (scalar (column_of v)) (cond b (grid (file_id v.name) (array_of c v) (maps_of c v.dimensions)) (array (array_of c v)))) ≡ file_id v.name
    go true b = refl
    go false true = refl
    go false false = refl

members_obey : (c : Contents) (before vs : List Variable) (earlier : List (List ℕ)) → IsSound c → c.variables ≡ before ++ vs → InTurn (IsVariable c.dimensions) before vs → AreFree before earlier
    → All Obeys (places 1 earlier (members_of (map (member_of c) (filter (is_offered c) vs))))
unfolding InTurn
members_obey c before [] earlier h whole turn free = All-nil Obeys
members_obey c before (v ∷ vs) earlier h whole turn free =
    let later : c.variables ≡ (before ++ v ∷ []) ++ vs = whole ∙ sym (append_assoc before (v ∷ []) vs) in
    let one : IsOne c v = (length before, ap (λ xs. slice_get xs (length before)) whole ∙ at_front before vs v) in
    go (is_offered c v) refl (λ told. member_obeys c earlier v h one told turn.0.rank (free v turn.0.is_new))
    (members_obey c (before ++ v ∷ []) vs (file_id v.name ∷ earlier) h later turn.1 (free_next before earlier v free))
    (members_obey c (before ++ v ∷ []) vs earlier h later turn.1 (free_same before earlier v free))
  where
    go : (b : Bool) → is_offered c v ≡ b → (is_offered c v ≡ true → ObeysBelow earlier (member_of c v)) → All Obeys (places 1 (file_id v.name ∷ earlier) (members_of (map (member_of c) (filter (is_offered c) vs))))
        → All Obeys (places 1 earlier (members_of (map (member_of c) (filter (is_offered c) vs))))
        → All Obeys (places 1 earlier (members_of (map (member_of c) (cond b (v ∷ filter (is_offered c) vs) (filter (is_offered c) vs)))))
    go true told below with' without =
        let here = below told in
        All-cons Obeys (place 1 earlier (member_of c v)) (part_places 2 (member_of c v) ++ places 1 (name_of (member_of c v) ∷ earlier) (members_of (map (member_of c) (filter (is_offered c) vs)))) here.0
        (All-append Obeys (part_places 2 (member_of c v)) (places 1 (name_of (member_of c v) ∷ earlier) (members_of (map (member_of c) (filter (is_offered c) vs)))) here.1
        (subst (λ (name : List ℕ). All Obeys (places 1 (name ∷ earlier) (members_of (map (member_of c) (filter (is_offered c) vs))))) (sym (member_name c v)) with'))
    go false told below with' without = without

-- ---- how many

few_maps : (c : Contents) (ids : List ℕ) → length (map_variables c ids) ≤ length ids
few_maps c [] = omega arith
few_maps c (i ∷ ids) = go (coordinate_variable c i) (few_maps c ids)
  where
    go : (o : Option Variable) → length (map_variables c ids) ≤ length ids → length (cons_option o (map_variables c ids)) ≤ length (i ∷ ids)
    go None few = omega arith
    go (Some w) few = omega arith

member_few : (c : Contents) (v : Variable) → count (member_of c v) ≤ grid_members v
unfolding member_of
member_few c v = go (is_empty (element_dimensions c v)) (is_grid c v)
  where
    go : (e b : Bool) → count (cond e (scalar (column_of v)) (cond b (grid (file_id v.name) (array_of c v) (maps_of c v.dimensions)) (array (array_of c v)))) ≤ grid_members v
    go true b = omega arith
    go false true = omega (arith, ap length (maps_are c v.dimensions), length-map (map_variables c v.dimensions) (array_of c), few_maps c v.dimensions)
    go false false = omega arith

members_few : (c : Contents) (vs : List Variable) → count_all (members_of (map (member_of c) (filter (is_offered c) vs))) ≤ sum_by grid_members vs
members_few c [] = omega arith
members_few c (v ∷ vs) = go (is_offered c v) (members_few c vs)
  where
    go : (b : Bool) → count_all (members_of (map (member_of c) (filter (is_offered c) vs))) ≤ sum_by grid_members vs
        → count_all (members_of (map (member_of c) (cond b (v ∷ filter (is_offered c) vs) (filter (is_offered c) vs)))) ≤ sum_by grid_members (v ∷ vs)
    go true few = omega (arith, sum_by-cons grid_members v vs, member_few c v, few)
    go false few = omega (arith, sum_by-cons grid_members v vs, few)

pub dataset_well_formed : (c : Contents) (file_name : List ℕ) → IsSound c → IsWellFormed (dataset_of c file_name)
dataset_well_formed c file_name h =
    let d = dataset_of c file_name in
    well_formed_where_all_obey d
    (omega (arith, length-places d.members 1 [], members_few c c.variables, h.members))
    (members_obey c [] c.variables [] h refl h.variables (λ w new. refl))
