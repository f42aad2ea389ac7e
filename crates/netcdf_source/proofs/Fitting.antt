-- The values of a file are values of its dataset, and stand at the places of its layouts.
use Rattle.std.proofs.Common.{◌≡◌, ℕ, zero, suc, ◌+◌, ◌^◌, ◌<◌, ◌≤◌, inl, inr, Bool, true, false, ◌&&◌, cond, eqb, List, [], ◌∷◌, ◌++◌, length, map, filter, take, drop, All, Option, Some, None, refl, sym, ap, subst, ◌∙◌, append_assoc, arith}
use Rattle.std.specs.Prelude.{slice_get, option_and_then}
use Rattle.std.specs.List.{AllZip, range_with_len}
use Rattle.std.proofs.lemmas.Bool.{cases_lt}
use Rattle.std.proofs.lemmas.Bool.Decides.{nat_tests}
use Rattle.std.proofs.lemmas.Int.{ints}
use Rattle.std.proofs.lemmas.List.{length-map, length-take, take-append-drop, get_or_past}
use Rattle.std.proofs.lemmas.List.Elements.{All-nil, All-cons}
use Rattle.std.proofs.lemmas.List.FromFn.{length-map-range_with_len}
use Rattle.dap_types.proofs.Views.{items-trees_of}
use Rattle.dap_types.specs.Model.{Tree, many, trees_of, items, scalar, array, grid, members_of, sizes}
use Rattle.dap_types.specs.Names.{file_id}
use Rattle.dap_types.specs.declared.declarations.ArrayDecl.{ArrayDecl}
use Rattle.dap_types.specs.declared.declarations.BaseType.{BaseType}
use Rattle.dap_types.specs.declared.values.Value.{Value}
use Rattle.dap_model.specs.Cutting.{Nested, array_tree}
use Rattle.dap_model.specs.Fits.{IsOf, FitsArray, Fits, FitsAll}
use Rattle.dap_model.specs.Indexing.{AreIndexes, by_index, indexed_tree}
use Rattle.netcdf_source.specs.Header.{IsHeader}
use Rattle.netcdf_source.specs.Laws.{ValuesFit, ValuesArePlaced}
use Rattle.netcdf_source.specs.Layouts.{slice, element_sizes, element_at, layout_of, place, IsPlaced}
use Rattle.netcdf_source.specs.Mapping.{base_of, size_at, is_char_type, is_long, element_dimensions, element_size, is_offered, is_empty, is_grid, column_of, array_of, maps_of, member_of, leaf_in, leaves_from, leaf_variable}
use Rattle.netcdf_source.specs.Parts.{past_end}
use Rattle.netcdf_source.specs.inner.Sound.{IsSound}
use Rattle.netcdf_source.specs.Values.{without_zeros, value_of, tree_of, map_variables, member_tree}
use Rattle.netcdf_source.specs.declared.external_type.ExternalType.{ExternalType}
use Rattle.netcdf_source.specs.declared.external_type.ExternalType.TheVariants.{Byte, Char, Short, Int, Float, Double, UByte, UShort, UInt, Int64, UInt64}
use Rattle.netcdf_source.specs.declared.header.Contents.{Contents}
use Rattle.netcdf_source.specs.declared.header.Variable.{Variable}
use Rattle.netcdf_source.proofs.Ends.{IsBytes, later_bytes}
use Rattle.netcdf_source.proofs.Good.{stands_sound}
use Rattle.netcdf_source.proofs.Offered.{offered}
use Rattle.netcdf_source.proofs.GridMaps.{IsOwn, own_offered, own_variables, maps_are, grid_array, at_front}
use Rattle.netcdf_source.proofs.Placed.{length-slice, sound_placed}
use Rattle.netcdf_source.proofs.Singles.{bytes-take}
use Rattle.netcdf_source.proofs.WellFormed.{dims_sizes}

-- ---- values

shorter : (bytes : List ℕ) → length (without_zeros bytes) ≤ length bytes
shorter [] = omega arith
shorter (b ∷ bytes) = go (eqb b 0 && eqb (length (without_zeros bytes)) 0) (shorter bytes)
  where
    go : (z : Bool) → length (without_zeros bytes) ≤ length bytes → length (cond z [] (b ∷ without_zeros bytes)) ≤ length (b ∷ bytes)
    go true short = omega arith
    go false short = omega arith

value_is : (t : ExternalType) (bytes : List ℕ) → IsBytes bytes → is_long t ≡ false → (is_char_type t ≡ true → length bytes < 2 ^ 31) → IsOf (base_of t) (value_of t bytes)
value_is Byte bytes h told short = (omega (arith, ints), omega (arith, ints, h 0))
value_is Char bytes h told short = omega (arith, shorter bytes, short refl)
value_is Short bytes h told short = (omega (arith, ints, h 0, h 1), omega (arith, ints, h 0, h 1))
value_is Int bytes h told short = (omega (arith, ints, h 0, h 1, h 2, h 3), omega (arith, ints, h 0, h 1, h 2, h 3))
value_is Float bytes h told short = omega (arith, h 0, h 1, h 2, h 3)
value_is Double bytes h told short = omega (arith, h 0, h 1, h 2, h 3, h 4, h 5, h 6, h 7)
value_is UByte bytes h told short = (omega (arith, ints), omega (arith, ints, h 0))
value_is UShort bytes h told short = (omega (arith, ints), omega (arith, ints, h 0, h 1))
value_is UInt bytes h told short = (omega (arith, ints), omega (arith, ints, h 0, h 1, h 2, h 3))
value_is Int64 bytes h told short = absurd cc
value_is UInt64 bytes h told short = absurd cc

-- ---- what stands at each index

all_mapped : {X Y : Type 0} (P : Y → Type 0) (g : X → Y) (f : ℕ → X) (a n : ℕ) → ((i : ℕ) → i < a + n → P (g (f i))) → All P (map g (map f (range_with_len a n)))
all_mapped P g f a zero h = All-nil P
all_mapped P g f a (suc n) h = All-cons P (g (f a)) (map g (map f (range_with_len (a + 1) n))) (h a (omega arith)) (all_mapped P g f (a + 1) n (λ i lt. h i (omega arith)))

indexed_fits : (base : BaseType) (ns : List ℕ) (at : List ℕ → Value) → ((is : List ℕ) → AreIndexes ns is → IsOf base (at is)) → FitsArray base ns (indexed_tree ns at)
unfolding by_index AreIndexes
indexed_fits base [] at h = h [] tt
indexed_fits base (n ∷ ns) at h =
    let inner : ℕ → Nested Value (length ns) = λ i. by_index Value ns (λ is. at (i ∷ is)) in
    let ts : List Tree = map (array_tree (length ns)) (map inner (range_with_len 0 n)) in
    let long : length ts ≡ n = length-map (map inner (range_with_len 0 n)) (array_tree (length ns)) ∙ length-map-range_with_len inner 0 n in (
      ap length (items-trees_of ts) ∙ long,
      subst (All (FitsArray base ns)) (sym (items-trees_of ts))
          (all_mapped (FitsArray base ns) (array_tree (length ns)) inner 0 n (λ i lt. indexed_fits base ns (λ is. at (i ∷ is)) (λ is w. h (i ∷ is) (omega (arith, lt), w)))),
    )

map_same : {X : Type 0} (f g : ℕ → X) (a n : ℕ) → ((i : ℕ) → i < a + n → f i ≡ g i) → map f (range_with_len a n) ≡ map g (range_with_len a n)
map_same f g a zero h = refl
map_same f g a (suc n) h =
    ap (λ x. x ∷ map f (range_with_len (a + 1) n)) (h a (omega arith)) ∙ ap (λ xs. g a ∷ xs) (map_same f g (a + 1) n (λ i lt. h i (omega arith)))

same_indexed : {X : Type 0} (ns : List ℕ) (at at' : List ℕ → X) → ((is : List ℕ) → AreIndexes ns is → at is ≡ at' is) → by_index X ns at ≡ by_index X ns at'
unfolding by_index AreIndexes
same_indexed [] at at' h = h [] tt
same_indexed {X} (n ∷ ns) at at' h =
    map_same (λ i. by_index X ns (λ is. at (i ∷ is))) (λ i. by_index X ns (λ is. at' (i ∷ is))) 0 n
    (λ i lt. same_indexed ns (λ is. at (i ∷ is)) (λ is. at' (i ∷ is)) (λ is w. h (i ∷ is) (omega (arith, lt), w)))

-- ---- variables

pub file_bytes : (file : List ℕ) → All (λ b. b < 256) file → IsBytes file
file_bytes file h i = elim (cases_lt i (length file)) [
  | inl lt ↦ h i 0 lt
  | inr le ↦ rw (get_or_past file i 0 le) (omega arith)
]

slice_bytes : (file : List ℕ) (a w : ℕ) → IsBytes file → IsBytes (slice file a w)
slice_bytes file a w h = bytes-take w (drop a file) (later_bytes (take a file) (drop a file) (subst IsBytes (sym (take-append-drop a file)) h))

element_is : (c : Contents) (file : List ℕ) (v : Variable) → IsBytes file → IsPlaced c (length file) v (layout_of c v) → is_offered c v ≡ true
    → (indexes : List ℕ) → AreIndexes (element_sizes c v) indexes → IsOf (base_of v.external_type) (value_of v.external_type (element_at c file v indexes))
unfolding IsPlaced
element_is c file v bytes placed told indexes within =
    let at = place (layout_of c v) indexes in
    let p = placed file indexes refl within in
    let fits : IsBytes (element_at c file v indexes) = subst IsBytes p.1 (slice_bytes file at (element_size c v) bytes) in
    let long : length (element_at c file v indexes) ≡ element_size c v = ap length (sym p.1) ∙ length-slice file at (element_size c v) p.0 in
    let o = offered c v told in
    value_is v.external_type (element_at c file v indexes) fits o.short (λ is. omega (arith, long, o.few))

tree_fits : (c : Contents) (file : List ℕ) (v : Variable) → IsBytes file → IsPlaced c (length file) v (layout_of c v) → is_offered c v ≡ true
    → FitsArray (base_of v.external_type) (element_sizes c v) (tree_of c file v)
unfolding tree_of
tree_fits c file v bytes placed told = indexed_fits (base_of v.external_type) (element_sizes c v) (λ indexes. value_of v.external_type (element_at c file v indexes)) (element_is c file v bytes placed told)

array_fits : (c : Contents) (file : List ℕ) (v : Variable) → IsBytes file → IsPlaced c (length file) v (layout_of c v) → is_offered c v ≡ true
    → FitsArray (array_of c v).base (sizes (array_of c v)) (tree_of c file v)
array_fits c file v bytes placed told = rw (dims_sizes c (element_dimensions c v)) (tree_fits c file v bytes placed told)

-- ---- members

abbrev pub FitsIts : ArrayDecl → Tree → Type 0
FitsIts a t = FitsArray a.base (sizes a) t

maps_fit : (c : Contents) (file : List ℕ) (ws : List Variable) (ids : List ℕ) → IsBytes file → IsSound c → past_end c (length file) ≡ None → AllZip (IsOwn c) ws ids
    → AllZip FitsIts (map (array_of c) ws) (map (tree_of c file) ws)
maps_fit c file [] ids bytes h past zip = tt
maps_fit c file (w ∷ ws) [] bytes h past zip = absurd zip
maps_fit c file (w ∷ ws) (i ∷ ids) bytes h past zip =
    let own = zip.0 in (
      array_fits c file w bytes (sound_placed c (length file) own.0.0 w h past own.0.1) (own_offered c w i own.1),
      maps_fit c file ws ids bytes h past zip.1,
    )

member_fits : (c : Contents) (file : List ℕ) (v : Variable) → IsBytes file → IsSound c → past_end c (length file) ≡ None → IsPlaced c (length file) v (layout_of c v) → is_offered c v ≡ true
    → Fits (member_of c v) (member_tree c file v)
unfolding member_of
member_fits c file v bytes h past placed told = go (is_empty (element_dimensions c v)) refl (is_grid c v) refl
  where
    some : (n : ℕ) → eqb (suc n) 0 ≡ true → ⊥
    some n e = grind (arith, nat_tests)

    nothing : (ids : List ℕ) → is_empty ids ≡ true → ids ≡ []
    nothing [] e = refl
    nothing (i ∷ ids) e = absurd (some (length ids) e)

    clash : (b : Bool) → b ≡ false → b ≡ true → ⊥
    clash b p q = cc

    go : (e : Bool) → is_empty (element_dimensions c v) ≡ e → (b : Bool) → is_grid c v ≡ b
        → Fits (cond e (scalar (column_of v)) (cond b (grid (file_id v.name) (array_of c v) (maps_of c v.dimensions)) (array (array_of c v))))
        (cond b (many (trees_of (map (tree_of c file) (v ∷ map_variables c v.dimensions)))) (tree_of c file v))
    go true p true q = let g = grid_array c v q in absurd (clash (is_empty (element_dimensions c v)) (ap is_empty g.whole ∙ g.some) p)
    go true p false q = subst (λ ns. FitsArray (base_of v.external_type) ns (tree_of c file v)) (ap (map (size_at c)) (nothing (element_dimensions c v) p)) (tree_fits c file v bytes placed told)
    go false p true q =
        let g = grid_array c v q in
        let zip = own_variables c v.dimensions g.coordinates in
        let ws = map_variables c v.dimensions in
        let trees : List Tree = map (tree_of c file) (v ∷ ws) in
        let whole : AllZip FitsIts (array_of c v ∷ map (array_of c) ws) trees = (array_fits c file v bytes placed told, maps_fit c file ws v.dimensions bytes h past zip) in
        let told : AllZip FitsIts (array_of c v ∷ map (array_of c) ws) (items (trees_of trees)) = subst (AllZip FitsIts (array_of c v ∷ map (array_of c) ws)) (sym (items-trees_of trees)) whole in
        (tt, subst (λ maps. AllZip FitsIts (array_of c v ∷ maps) (items (trees_of trees))) (sym (maps_are c v.dimensions)) told)
    go false p false q = array_fits c file v bytes placed told

members_fit : (c : Contents) (file : List ℕ) (before vs : List Variable) → IsBytes file → IsSound c → past_end c (length file) ≡ None → c.variables ≡ before ++ vs
    → FitsAll (members_of (map (member_of c) (filter (is_offered c) vs))) (map (member_tree c file) (filter (is_offered c) vs))
members_fit c file before [] bytes h past whole = tt
members_fit c file before (v ∷ vs) bytes h past whole =
    let later : c.variables ≡ (before ++ v ∷ []) ++ vs = whole ∙ sym (append_assoc before (v ∷ []) vs) in
    let at : slice_get c.variables (length before) ≡ Some v = ap (λ xs. slice_get xs (length before)) whole ∙ at_front before vs v in
    let placed = sound_placed c (length file) (length before) v h past at in
    go (is_offered c v) refl placed (members_fit c file (before ++ v ∷ []) vs bytes h past later)
  where
    go : (b : Bool) → is_offered c v ≡ b → IsPlaced c (length file) v (layout_of c v)
        → FitsAll (members_of (map (member_of c) (filter (is_offered c) vs))) (map (member_tree c file) (filter (is_offered c) vs))
        → FitsAll (members_of (map (member_of c) (cond b (v ∷ filter (is_offered c) vs) (filter (is_offered c) vs)))) (map (member_tree c file) (cond b (v ∷ filter (is_offered c) vs) (filter (is_offered c) vs)))
    go true e placed more = (member_fits c file v bytes h past placed e, more)
    go false e placed more = more

-- ---- a file with a header

header_sound : (c : Contents) (file : List ℕ) → IsHeader c (take 1048576 file) (length file) → IsSound c
header_sound c file h =
    let (tree, rest, stands, says, past) = h in
    subst IsSound says (stands_sound tree (take 1048576 file) rest (omega (arith, length-take 1048576 file)) stands)

pub values_fit : ValuesFit
values_fit c file_name file h = members_fit c file [] c.variables (file_bytes file h.0) (header_sound c file h.1) h.1.4 refl

is_variable : (c : Contents) (leaf : ℕ) (v : Variable) → leaf_variable c leaf ≡ Some v → (k : ℕ) × (slice_get c.variables k ≡ Some v)
unfolding leaf_variable
is_variable c leaf v e = go (leaf_in (leaves_from c 0 c.variables) leaf) e
  where
    go : (o : Option ℕ) → option_and_then (slice_get c.variables) o ≡ Some v → (k : ℕ) × (slice_get c.variables k ≡ Some v)
    go None q = absurd cc
    go (Some k) q = (k, q)

pub values_are_placed : ValuesArePlaced
unfolding tree_of IsPlaced
values_are_placed c file leaf v h is =
    let found = is_variable c leaf v is in
    let placed = sound_placed c (length file) found.0 v (header_sound c file h) h.4 found.1 in
    ap (array_tree (length (element_sizes c v)))
    (same_indexed (element_sizes c v) (λ indexes. value_of v.external_type (element_at c file v indexes)) (λ indexes. value_of v.external_type (slice file (place (layout_of c v) indexes) (layout_of c v).size))
    (λ indexes within. ap (value_of v.external_type) (sym (placed file indexes refl within).1)))
