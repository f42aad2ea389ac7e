-- A file that was cut in two along its records is given back.
use Rattle.std.proofs.Common.{◌≡◌, ◌≢◌, ℕ, zero, suc, ◌+◌, ◌≤◌, ◌<◌, Bool, true, false, cond, List, [], ◌∷◌, ◌++◌, length, map, filter, Option, Some, None, refl, sym, ap, ◌∙◌, arith, append-nil, append_assoc, length-append}
use Rattle.std.proofs.lemmas.List.{map-append}
use Rattle.std.proofs.lemmas.List.Elements.{All-cons, All-nil}
use Rattle.std.proofs.lemmas.List.Sums.{sum_by-cons}
use Rattle.std.specs.List.{cons_option, filter_map, list_any, range_with_len}
use Rattle.std.specs.Option.{option_map_or}
use Rattle.std.specs.Prelude.{is_some, option_and_then, option_map, slice_get}
use Rattle.netcdf_source.proofs.Joined.{has_sizes}
use Rattle.dap_types.proofs.Views.{items-trees_of}
use Rattle.dap_types.specs.Model.{Tree, array, grid, kids, many, members_of, scalar, trees_of}
use Rattle.dap_types.specs.Names.{file_id}
use Rattle.dap_types.specs.declared.declarations.ArrayDecl.{ArrayDecl}
use Rattle.dap_types.specs.declared.values.Value.{Value}
use Rattle.dap_model.specs.Cutting.{Nested, array_tree}
use Rattle.dap_model.specs.Indexing.{by_index, indexed_tree}
use Rattle.file_names.specs.Names.{dataset_name}
use Rattle.netcdf_source.proofs.GridMaps.{at_front, coordinate_found}
use Rattle.netcdf_source.specs.Laws.{HasHeader}
use Rattle.netcdf_source.specs.Layouts.{chopped, element_at, element_sizes, in_record, record_slice, whole_slice}
use Rattle.netcdf_source.specs.Mapping.{HaveSameShape, array_of, column_of, coordinate_at, coordinate_variable, dataset_of, element_dimensions, has_record_dimension, has_texts, is_empty, is_grid, is_offered, is_over_records, maps_of, member_of, name_at, records_of, with_records}
use Rattle.netcdf_source.specs.Grammar.{is_record_dimension}
use Rattle.netcdf_source.specs.Parts.{inner, lengths}
use Rattle.netcdf_source.specs.Values.{member_tree, tree_of, value_of}
use Rattle.netcdf_source.specs.declared.header.Contents.{Contents}
use Rattle.netcdf_source.specs.declared.header.Variable.{Variable}
use Rattle.xdr_encode.proofs.Forms.{range-append}
use Rattle.join_source.proofs.FitsTogether.{header-sound}
use Rattle.join_source.proofs.Leaves.{same-lengths, same-over}
use Rattle.join_source.proofs.Own.{own-sizes}
use Rattle.join_source.proofs.Shapes.{bare, coordinate-same, grid-same, offered-same, plain, same-at, same-bare, same-map, same-plain}
use Rattle.join_source.proofs.Twins.{same-empty, tree-at}
use Rattle.join_source.specs.Cutting.{joined_along}
use Rattle.join_source.specs.Halves.{AreHalves, HalvesAreTheWhole}
use Rattle.join_source.specs.Members.{CanJoin, all_records, joined_contents}
use Rattle.join_source.specs.Trees.{first_tree, is_over_records_at, joined_tree, member_tree_by, tree_at, trees_at, trees_from}

-- ---- Headers of one shape, with as many records.

head-is : (v w : Variable) (vs ws : List Variable) → map bare (v ∷ vs) ≡ map bare (w ∷ ws) → bare v ≡ bare w
head-is v w vs ws e = cc e

tail-is : (v w : Variable) (vs ws : List Variable) → map bare (v ∷ vs) ≡ map bare (w ∷ ws) → map bare vs ≡ map bare ws
tail-is v w vs ws e = cc e

module _ (j c : Contents) (shape : HaveSameShape j c) (records : j.records ≡ c.records) (few : c.records ≤ 2147483647) where
  few-there : j.records ≤ 2147483647
  few-there = omega (arith, records, few)

  offered-is : (v w : Variable) → bare v ≡ bare w → is_offered j v ≡ is_offered c w
  offered-is v w alike = offered-same j few-there v ∙ ap (is_offered (plain j)) alike ∙ ap (λ p. is_offered p (bare w)) (same-plain j c shape) ∙ sym (offered-same c few w)

  grid-is : (v w : Variable) → bare v ≡ bare w → is_grid j v ≡ is_grid c w
  grid-is v w alike = grid-same j few-there v ∙ ap (is_grid (plain j)) alike ∙ ap (λ p. is_grid p (bare w)) (same-plain j c shape) ∙ sym (grid-same c few w)

  coordinate-is : (i : ℕ) → coordinate_at j i ≡ coordinate_at c i
  coordinate-is i = coordinate-same j few-there i ∙ ap (λ p. coordinate_at p i) (same-plain j c shape) ∙ sym (coordinate-same c few i)

  array-is : (v w : Variable) → bare v ≡ bare w → array_of j v ≡ array_of c w
  unfolding element_dimensions has_texts name_at
  array-is v w alike =
      ap (array_of j) alike
      ∙ ap (λ n. array_of (record { records = n; dimensions = j.dimensions; attributes = []; variables = [] }) (bare w)) records
      ∙ ap (λ ds. array_of (record { records = c.records; dimensions = ds; attributes = []; variables = [] }) (bare w)) shape.dimensions

  maps-are : (ids : List ℕ) → maps_of j ids ≡ maps_of c ids
  maps-are [] = refl
  maps-are (i ∷ ids) =
      ap (λ o. cons_option (option_map (array_of j) (option_and_then (slice_get j.variables) o)) (maps_of j ids)) (coordinate-is i)
      ∙ ap (cons_option (option_map (array_of j) (option_and_then (slice_get j.variables) (coordinate_at c i)))) (maps-are ids)
      ∙ go (coordinate_at c i) refl
    where
      go : (o : Option ℕ) → coordinate_at c i ≡ o → cons_option (option_map (array_of j) (option_and_then (slice_get j.variables) o)) (maps_of c ids) ≡ cons_option (option_map (array_of c) (option_and_then (slice_get c.variables) o)) (maps_of c ids)
      go None e = refl
      go (Some p) e =
          let found = coordinate_found c i (ap is_some e) in
          let there : slice_get c.variables p ≡ Some found.0 = sym (ap (option_and_then (slice_get c.variables)) e) ∙ found.1 in
          let (v, at, alike) = same-at c.variables j.variables p found.0 (sym (same-bare j c shape)) there in
          ap (λ o. cons_option (option_map (array_of j) o) (maps_of c ids)) at
          ∙ ap (λ a. a ∷ maps_of c ids) (array-is v found.0 (sym alike))
          ∙ sym (ap (λ o. cons_option (option_map (array_of c) o) (maps_of c ids)) there)

  member-is : (v w : Variable) → bare v ≡ bare w → member_of j v ≡ member_of c w
  unfolding member_of
  member-is v w alike =
      ap (λ e. cond e (scalar (column_of v)) (cond (is_grid j v) (grid (file_id v.name) (array_of j v) (maps_of j v.dimensions)) (array (array_of j v)))) (same-empty j c v w shape alike)
      ∙ ap (λ g. cond (is_empty (element_dimensions c w)) (scalar (column_of v)) (cond g (grid (file_id v.name) (array_of j v) (maps_of j v.dimensions)) (array (array_of j v)))) (grid-is v w alike)
      ∙ ap (λ (a : ArrayDecl). cond (is_empty (element_dimensions c w)) (scalar (column_of v)) (cond (is_grid c w) (grid (file_id v.name) a (maps_of j v.dimensions)) (array a))) (array-is v w alike)
      ∙ ap (λ ms. cond (is_empty (element_dimensions c w)) (scalar (column_of v)) (cond (is_grid c w) (grid (file_id v.name) (array_of c w) ms) (array (array_of c w)))) (maps-are v.dimensions)
      ∙ ap (λ (x : Variable). cond (is_empty (element_dimensions c w)) (scalar (column_of x)) (cond (is_grid c w) (grid (file_id x.name) (array_of c w) (maps_of c x.dimensions)) (array (array_of c w)))) alike

  members-are : (vs ws : List Variable) → map bare vs ≡ map bare ws → map (member_of j) (filter (is_offered j) vs) ≡ map (member_of c) (filter (is_offered c) ws)
  members-are [] [] alike = refl
  members-are [] (w ∷ ws) alike = absurd cc
  members-are (v ∷ vs) [] alike = absurd cc
  members-are (v ∷ vs) (w ∷ ws) alike =
      ap (λ b. map (member_of j) (cond b (v ∷ filter (is_offered j) vs) (filter (is_offered j) vs))) (offered-is v w (head-is v w vs ws alike))
      ∙ go (is_offered c w) (member-is v w (head-is v w vs ws alike)) (members-are vs ws (tail-is v w vs ws alike))
    where
      go : (b : Bool) → member_of j v ≡ member_of c w → map (member_of j) (filter (is_offered j) vs) ≡ map (member_of c) (filter (is_offered c) ws)
          → map (member_of j) (cond b (v ∷ filter (is_offered j) vs) (filter (is_offered j) vs)) ≡ map (member_of c) (cond b (w ∷ filter (is_offered c) ws) (filter (is_offered c) ws))
      go true own rest = ap (λ m. m ∷ map (member_of j) (filter (is_offered j) vs)) own ∙ ap (λ ms. member_of c w ∷ ms) rest
      go false own rest = rest

  dataset-is : (file_name : List ℕ) → dataset_of j file_name ≡ dataset_of c file_name
  dataset-is file_name = ap (λ ms. record { name = dataset_name file_name; members = members_of ms }) (members-are j.variables c.variables (same-bare j c shape))

-- where each variable has the values that it has in a file
module _ (j c : Contents) (shape : HaveSameShape j c) (records : j.records ≡ c.records) (few : c.records ≤ 2147483647) (file : List ℕ) (tree : ℕ → Tree) (each : (k : ℕ) (w : Variable) → slice_get c.variables k ≡ Some w → tree k ≡ tree_of c file w) where
  map-trees : (ids : List ℕ) → map tree (filter_map (coordinate_at j) ids) ≡ map (tree_of c file) (filter_map (coordinate_variable c) ids)
  map-trees [] = refl
  map-trees (i ∷ ids) = ap (λ o. map tree (cons_option o (filter_map (coordinate_at j) ids))) (coordinate-is j c shape records few i) ∙ go (coordinate_at c i) refl (map-trees ids)
    where
      go : (o : Option ℕ) → coordinate_at c i ≡ o → map tree (filter_map (coordinate_at j) ids) ≡ map (tree_of c file) (filter_map (coordinate_variable c) ids)
          → map tree (cons_option o (filter_map (coordinate_at j) ids)) ≡ map (tree_of c file) (cons_option (option_and_then (slice_get c.variables) o) (filter_map (coordinate_variable c) ids))
      go None e rest = rest
      go (Some p) e rest =
          let found = coordinate_found c i (ap is_some e) in
          let there : slice_get c.variables p ≡ Some found.0 = sym (ap (option_and_then (slice_get c.variables)) e) ∙ found.1 in
          ap (λ t. t ∷ map tree (filter_map (coordinate_at j) ids)) (each p found.0 there)
          ∙ ap (λ ts. tree_of c file found.0 ∷ ts) rest
          ∙ sym (ap (λ o. map (tree_of c file) (cons_option o (filter_map (coordinate_variable c) ids))) there)

  tree-is : (k : ℕ) (v w : Variable) → slice_get c.variables k ≡ Some w → bare v ≡ bare w → member_tree_by j tree k v ≡ member_tree c file w
  tree-is k v w at alike =
      ap (λ b. cond b (many (trees_of (tree k ∷ map tree (filter_map (coordinate_at j) v.dimensions)))) (tree k)) (grid-is j c shape records few v w alike)
      ∙ ap (λ t. cond (is_grid c w) (many (trees_of (t ∷ map tree (filter_map (coordinate_at j) v.dimensions)))) t) (each k w at)
      ∙ ap (λ ts. cond (is_grid c w) (many (trees_of (tree_of c file w ∷ ts))) (tree_of c file w)) (ap (λ (x : Variable). map tree (filter_map (coordinate_at j) x.dimensions)) alike ∙ map-trees w.dimensions)

  trees-are : (vs ws before : List Variable) (k : ℕ) → map bare vs ≡ map bare ws → c.variables ≡ before ++ ws → length before ≡ k → trees_from j tree k vs ≡ map (member_tree c file) (filter (is_offered c) ws)
  unfolding trees_from
  trees-are [] [] before k alike whole len = refl
  trees-are [] (w ∷ ws) before k alike whole len = absurd cc
  trees-are (v ∷ vs) [] before k alike whole len = absurd cc
  trees-are (v ∷ vs) (w ∷ ws) before k alike whole len =
      let later : c.variables ≡ (before ++ w ∷ []) ++ ws = whole ∙ sym (append_assoc before (w ∷ []) ws) in
      let next : length (before ++ w ∷ []) ≡ k + 1 = omega (arith, len, length-append before (w ∷ [])) in
      let at : slice_get c.variables k ≡ Some w = ap (λ xs. slice_get xs k) whole ∙ ap (slice_get (before ++ w ∷ ws)) (sym len) ∙ at_front before ws w in
      ap (λ b. cond b (member_tree_by j tree k v ∷ []) [] ++ trees_from j tree (k + 1) vs) (offered-is j c shape records few v w (head-is v w vs ws alike))
      ∙ go (is_offered c w) (tree-is k v w at (head-is v w vs ws alike)) (trees-are vs ws (before ++ w ∷ []) (k + 1) (tail-is v w vs ws alike) later next)
    where
      go : (b : Bool) → member_tree_by j tree k v ≡ member_tree c file w → trees_from j tree (k + 1) vs ≡ map (member_tree c file) (filter (is_offered c) ws)
          → cond b (member_tree_by j tree k v ∷ []) [] ++ trees_from j tree (k + 1) vs ≡ map (member_tree c file) (cond b (w ∷ filter (is_offered c) ws) (filter (is_offered c) ws))
      go true own rest = ap (λ t. t ∷ trees_from j tree (k + 1) vs) own ∙ ap (λ ts. member_tree c file w ∷ ts) rest
      go false own rest = rest

-- ---- Arrays one behind the other.

same-range : {X : Type 0} (f g : ℕ → X) (s t n : ℕ) → ((i a b : ℕ) → a ≡ s + i → b ≡ t + i → i < n → f a ≡ g b) → map f (range_with_len s n) ≡ map g (range_with_len t n)
same-range f g s t zero same = refl
same-range f g s t (suc n) same =
    ap (λ y. y ∷ map f (range_with_len (s + 1) n)) (same 0 s t (omega arith) (omega arith) (omega arith))
    ∙ ap (λ ys. g t ∷ ys) (same-range f g (s + 1) (t + 1) n (λ i a b is_a is_b lt. same (i + 1) a b (omega (arith, is_a)) (omega (arith, is_b)) (omega (arith, lt))))

by-same : (ns : List ℕ) (f g : List ℕ → Value) → ((ix : List ℕ) → f ix ≡ g ix) → by_index Value ns f ≡ by_index Value ns g
unfolding by_index
by-same [] f g same = same []
by-same (n ∷ ns) f g same = same-map (λ i. by_index Value ns (λ ix. f (i ∷ ix))) (λ i. by_index Value ns (λ ix. g (i ∷ ix))) (λ i. by-same ns (λ ix. f (i ∷ ix)) (λ ix. g (i ∷ ix)) (λ ix. same (i ∷ ix))) (range_with_len 0 n)

-- the values at each index but the first
abbrev rows : (ns : List ℕ) → (List ℕ → Value) → ℕ → Nested Value (length ns)
rows ns f i = by_index Value ns (λ ix. f (i ∷ ix))

kids-are : (ns : List ℕ) (n : ℕ) (f : List ℕ → Value) → kids (indexed_tree (n ∷ ns) f) ≡ map (array_tree (length ns)) (map (rows ns f) (range_with_len 0 n))
unfolding by_index
kids-are ns n f = items-trees_of (map (array_tree (length ns)) (map (rows ns f) (range_with_len 0 n)))

rows-join : (ns : List ℕ) (n m : ℕ) (f g h : List ℕ → Value) → ((i : ℕ) (ix : List ℕ) → i < n → f (i ∷ ix) ≡ h (i ∷ ix)) → ((i : ℕ) (ix : List ℕ) → i < m → g (i ∷ ix) ≡ h ((n + i) ∷ ix))
    → map (rows ns f) (range_with_len 0 n) ++ map (rows ns g) (range_with_len 0 m) ≡ map (rows ns h) (range_with_len 0 (n + m))
rows-join ns n m f g h before behind =
    ap (λ xs. xs ++ map (rows ns g) (range_with_len 0 m)) (same-range (rows ns f) (rows ns h) 0 0 n front)
    ∙ ap (λ xs. map (rows ns h) (range_with_len 0 n) ++ xs) (same-range (rows ns g) (rows ns h) 0 (0 + n) m back)
    ∙ sym (map-append (rows ns h) (range_with_len 0 n) (range_with_len (0 + n) m))
    ∙ ap (map (rows ns h)) (sym (range-append 0 n m))
  where
    same-number : (i a : ℕ) → a ≡ 0 + i → a ≡ i
    same-number i a e = omega (arith, e)

    behind-number : (i b : ℕ) → b ≡ 0 + n + i → b ≡ n + i
    behind-number i b e = omega (arith, e)

    front : (i a b : ℕ) → a ≡ 0 + i → b ≡ 0 + i → i < n → rows ns f a ≡ rows ns h b
    front i a b is_a is_b lt =
        ap (rows ns f) (same-number i a is_a)
        ∙ by-same ns (λ ix. f (i ∷ ix)) (λ ix. h (i ∷ ix)) (λ ix. before i ix lt)
        ∙ ap (rows ns h) (sym (same-number i b is_b))

    back : (i a b : ℕ) → a ≡ 0 + i → b ≡ 0 + n + i → i < m → rows ns g a ≡ rows ns h b
    back i a b is_a is_b lt =
        ap (rows ns g) (same-number i a is_a)
        ∙ by-same ns (λ ix. g (i ∷ ix)) (λ ix. h ((n + i) ∷ ix)) (λ ix. behind i ix lt)
        ∙ ap (rows ns h) (sym (behind-number i b is_b))

two-along : (ns : List ℕ) (n m : ℕ) (f g h : List ℕ → Value) → ((i : ℕ) (ix : List ℕ) → i < n → f (i ∷ ix) ≡ h (i ∷ ix)) → ((i : ℕ) (ix : List ℕ) → i < m → g (i ∷ ix) ≡ h ((n + i) ∷ ix))
    → joined_along (indexed_tree (n ∷ ns) f ∷ indexed_tree (m ∷ ns) g ∷ []) ≡ indexed_tree ((n + m) ∷ ns) h
unfolding by_index
two-along ns n m f g h before behind =
    ap (λ xs. many (trees_of (xs ++ (kids (indexed_tree (m ∷ ns) g) ++ [])))) (kids-are ns n f)
    ∙ ap (λ xs. many (trees_of (map (array_tree (length ns)) (map (rows ns f) (range_with_len 0 n)) ++ xs))) (append-nil (kids (indexed_tree (m ∷ ns) g)) ∙ kids-are ns m g)
    ∙ ap (λ xs. many (trees_of xs)) (sym (map-append (array_tree (length ns)) (map (rows ns f) (range_with_len 0 n)) (map (rows ns g) (range_with_len 0 m))))
    ∙ ap (λ xs. many (trees_of (map (array_tree (length ns)) xs))) (rows-join ns n m f g h before behind)

same-indexed : (ns : List ℕ) (f g : List ℕ → Value) → ((ix : List ℕ) → f ix ≡ g ix) → indexed_tree ns f ≡ indexed_tree ns g
same-indexed ns f g same = ap (array_tree (length ns)) (by-same ns f g same)

-- ---- The variables of the halves.

sizes-of : (c d : Contents) (w v : Variable) → HaveSameShape c d → bare w ≡ bare v → element_sizes d v ≡ element_sizes (with_records d.records c) w
unfolding element_dimensions has_texts
sizes-of c d w v shape alike =
    ap (element_sizes d) (sym alike) ∙ ap (λ ds. element_sizes (record { records = d.records; dimensions = ds; attributes = []; variables = [] }) (bare w)) (sym shape.dimensions)

-- an element of a record variable is one of its record
in-record-at : (c d : Contents) (file : List ℕ) (w v : Variable) (i : ℕ) (ix : List ℕ) → HaveSameShape c d → bare w ≡ bare v → is_over_records c w ≡ true
    → element_at d file v (i ∷ ix) ≡ chopped (inner (lengths c.dimensions (element_dimensions c w))) ix (record_slice d file v i)
unfolding element_at
in-record-at c d file w v i ix shape alike over =
    ap (λ b. cond b (in_record d file v (i ∷ ix)) (chopped (element_sizes d v) (i ∷ ix) (whole_slice d file v))) (sym (same-over c d w v shape alike) ∙ over)
    ∙ ap (λ ls. chopped (inner ls) ix (record_slice d file v i)) (sym (same-lengths c d w v shape alike))

in-whole-at : (c d : Contents) (file : List ℕ) (w v : Variable) (ix : List ℕ) → HaveSameShape c d → bare w ≡ bare v → is_over_records c w ≡ false → element_at d file v ix ≡ chopped (element_sizes d v) ix (whole_slice d file v)
unfolding element_at
in-whole-at c d file w v ix shape alike fixed =
    ap (λ b. cond b (in_record d file v ix) (chopped (element_sizes d v) ix (whole_slice d file v))) (sym (same-over c d w v shape alike) ∙ fixed)

abbrev value_at : Contents → List ℕ → Variable → List ℕ → Value
value_at d file v ix = value_of v.external_type (element_at d file v ix)

same-value : (v w : Variable) (x y : List ℕ) → bare w ≡ bare v → x ≡ y → value_of v.external_type x ≡ value_of w.external_type y
same-value v w x y alike same = ap (λ (u : Variable). value_of u.external_type x) (sym alike) ∙ ap (value_of w.external_type) same

own-shape : (c : Contents) → HaveSameShape c c
own-shape c = record { dimensions = refl; variables = refl }

module _ (c one other : Contents) (file first second : List ℕ) (header : HasHeader c file) (are : AreHalves c file one first other second) (k : ℕ) (w v u : Variable)
    (at : slice_get c.variables k ≡ Some w) (at_one : slice_get one.variables k ≡ Some v) (at_other : slice_get other.variables k ≡ Some u) (alike : bare w ≡ bare v) (alike_other : bare w ≡ bare u) where
  said : (b : Bool) → is_over_records c w ≡ b → is_over_records_at c k ≡ b
  said b e = ap (λ o. option_map_or (is_over_records c) o false) at ∙ e

  abbrev its_inner : List ℕ
  its_inner = inner (lengths c.dimensions (element_dimensions c w))

  first-values : is_over_records c w ≡ true → (i : ℕ) (ix : List ℕ) → i < one.records → value_at one first v (i ∷ ix) ≡ value_at c file w (i ∷ ix)
  first-values over i ix lt =
      let slices : record_slice one first v i ≡ record_slice c file w i =
      sym (ap (λ o. option_map_or (λ x. record_slice one first x i) o []) at_one) ∙ are.before k i (said true over) lt ∙ ap (λ o. option_map_or (λ x. record_slice c file x i) o []) at in
      same-value v w (element_at one first v (i ∷ ix)) (element_at c file w (i ∷ ix)) alike
      (in-record-at c one first w v i ix are.first_shape alike over ∙ ap (chopped its_inner ix) slices ∙ sym (in-record-at c c file w w i ix (own-shape c) refl over))

  second-values : is_over_records c w ≡ true → (i : ℕ) (ix : List ℕ) → i < other.records → value_at other second u (i ∷ ix) ≡ value_at c file w ((one.records + i) ∷ ix)
  second-values over i ix lt =
      let slices : record_slice other second u i ≡ record_slice c file w (one.records + i) =
      sym (ap (λ o. option_map_or (λ x. record_slice other second x i) o []) at_other) ∙ are.behind k i (said true over) lt ∙ ap (λ o. option_map_or (λ x. record_slice c file x (one.records + i)) o []) at in
      same-value u w (element_at other second u (i ∷ ix)) (element_at c file w ((one.records + i) ∷ ix)) alike_other
      (in-record-at c other second w u i ix are.second_shape alike_other over ∙ ap (chopped its_inner ix) slices ∙ sym (in-record-at c c file w w (one.records + i) ix (own-shape c) refl over))

  over-tree : is_over_records c w ≡ true → joined_along (tree_of one first v ∷ tree_of other second u ∷ []) ≡ tree_of c file w
  unfolding tree_of
  over-tree over =
      let sizes = has_sizes c k w (header-sound c file header) at in
      let size_one : element_sizes one v ≡ one.records ∷ its_inner = sizes-of c one w v are.first_shape alike ∙ sizes.over_records over one.records in
      let size_other : element_sizes other u ≡ other.records ∷ its_inner = sizes-of c other w u are.second_shape alike_other ∙ sizes.over_records over other.records in
      let size : element_sizes c w ≡ c.records ∷ its_inner = sym (own-sizes c w) ∙ sizes.over_records over c.records in
      ap (λ ns. joined_along (indexed_tree ns (value_at one first v) ∷ indexed_tree (element_sizes other u) (value_at other second u) ∷ [])) size_one
      ∙ ap (λ ns. joined_along (indexed_tree (one.records ∷ its_inner) (value_at one first v) ∷ indexed_tree ns (value_at other second u) ∷ [])) size_other
      ∙ two-along its_inner one.records other.records (value_at one first v) (value_at other second u) (value_at c file w) (first-values over) (second-values over)
      ∙ ap (λ n. indexed_tree (n ∷ its_inner) (value_at c file w)) are.records
      ∙ ap (λ ns. indexed_tree ns (value_at c file w)) (sym size)

  fixed-tree : is_over_records c w ≡ false → tree_of one first v ≡ tree_of c file w
  unfolding tree_of
  fixed-tree fixed =
      let sizes = has_sizes c k w (header-sound c file header) at in
      let same : element_sizes one v ≡ element_sizes c w = sizes-of c one w v are.first_shape alike ∙ sizes.fixed fixed one.records ∙ sym (sizes.fixed fixed c.records) ∙ own-sizes c w in
      let slices : whole_slice one first v ≡ whole_slice c file w =
      sym (ap (λ o. option_map_or (whole_slice one first) o []) at_one) ∙ are.fixed k (said false fixed) ∙ ap (λ o. option_map_or (whole_slice c file) o []) at in
      ap (λ ns. indexed_tree ns (value_at one first v)) same
      ∙ same-indexed (element_sizes c w) (value_at one first v) (value_at c file w)
      (λ ix. same-value v w (element_at one first v ix) (element_at c file w ix) alike
      (in-whole-at c one first w v ix are.first_shape alike fixed ∙ ap (λ ns. chopped ns ix (whole_slice one first v)) same ∙ ap (chopped (element_sizes c w) ix) slices ∙ sym (in-whole-at c c file w w ix (own-shape c) refl fixed)))

  chosen-tree : (b : Bool) → is_over_records c w ≡ b → cond b (joined_along (tree_of one first v ∷ tree_of other second u ∷ [])) (tree_of one first v) ≡ tree_of c file w
  chosen-tree true over = over-tree over
  chosen-tree false fixed = fixed-tree fixed

-- ---- Both of them joined.

two-records : (one other : Contents) → all_records (one ∷ other ∷ []) ≡ one.records + other.records
two-records one other = omega (arith, sum_by-cons (λ (x : Contents). x.records) one (other ∷ []), sum_by-cons (λ (x : Contents). x.records) other [])

module _ (c one other : Contents) (file first second : List ℕ) (header : HasHeader c file) (are : AreHalves c file one first other second) where
  over-there : (k : ℕ) (w v : Variable) → slice_get one.variables k ≡ Some v → bare w ≡ bare v → is_over_records_at (joined_contents (one ∷ other ∷ [])) k ≡ is_over_records c w
  unfolding joined_contents
  over-there k w v at_one alike = ap (λ o. option_map_or (is_over_records one) o false) at_one ∙ sym (same-over c one w v are.first_shape alike)

  each-tree : (k : ℕ) (w : Variable) → slice_get c.variables k ≡ Some w → joined_tree (one ∷ other ∷ []) (first ∷ second ∷ []) k ≡ tree_of c file w
  unfolding joined_tree
  each-tree k w at =
      let (v, at_one, alike) = same-at c.variables one.variables k w (same-bare c one are.first_shape) at in
      let (u, at_other, alike_other) = same-at c.variables other.variables k w (same-bare c other are.second_shape) at in
      ap (λ b. cond b (joined_along (trees_at k (one ∷ other ∷ []) (first ∷ second ∷ []))) (first_tree (trees_at k (one ∷ other ∷ []) (first ∷ second ∷ [])))) (over-there k w v at_one alike)
      ∙ ap (λ t. cond (is_over_records c w) (joined_along (t ∷ tree_at k other second ∷ [])) t) (tree-at one k v first at_one)
      ∙ ap (λ t. cond (is_over_records c w) (joined_along (tree_of one first v ∷ t ∷ [])) (tree_of one first v)) (tree-at other k u second at_other)
      ∙ chosen-tree c one other file first second header are k w v u at at_one at_other alike alike_other (is_over_records c w) refl

  whole-records : all_records (one ∷ other ∷ []) ≡ c.records
  whole-records = two-records one other ∙ are.records

  whole-shape : HaveSameShape (joined_contents (one ∷ other ∷ [])) c
  unfolding joined_contents
  whole-shape = record { dimensions = sym are.first_shape.dimensions; variables = sym are.first_shape.variables }

  joined-records : (joined_contents (one ∷ other ∷ [])).records ≡ c.records
  unfolding joined_contents
  joined-records = whole-records

  can-join : records_of c ≢ None → c.records ≤ 2147483647 → CanJoin (one ∷ other ∷ [])
  can-join has few = record {
    record_dimension = λ none. has (none-there (has_record_dimension c) (ap (λ ds. cond (list_any is_record_dimension ds) (Some one.records) None) are.first_shape.dimensions ∙ none));
    same = All-cons (HaveSameShape one) one (other ∷ []) (own-shape one) (All-cons (HaveSameShape one) other [] across (All-nil (HaveSameShape one)));
    few = omega (arith, few, whole-records);
  }
    where
      none-there : (b : Bool) → cond b (Some one.records) None ≡ None → cond b (Some c.records) None ≡ None
      none-there true e = absurd (some-none e)
        where
          some-none : {n : ℕ} → Path (Option ℕ) (Some n) None → ⊥
          some-none g = cc
      none-there false e = refl

      across : HaveSameShape one other
      across = record { dimensions = sym are.first_shape.dimensions ∙ are.second_shape.dimensions; variables = sym are.first_shape.variables ∙ are.second_shape.variables }

pub halves_are_the_whole : HalvesAreTheWhole
unfolding joined_contents
halves_are_the_whole c one other file first second file_name header has few are =
    let j = joined_contents (one ∷ other ∷ []) in
    let shape = whole-shape c one other file first second header are in
    let records = joined-records c one other file first second header are in
    let tree = joined_tree (one ∷ other ∷ []) (first ∷ second ∷ []) in (
      can-join c one other file first second header are has few,
      dataset-is j c shape records few file_name,
      trees-are j c shape records few file tree (each-tree c one other file first second header are) j.variables c.variables [] 0 (same-bare j c shape) refl refl,
    )
