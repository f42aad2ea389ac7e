-- The values of joined files are values of their dataset.
use Rattle.std.proofs.Common.{◌≡◌, ℕ, zero, suc, ◌+◌, ◌≤◌, Bool, true, false, cond, eqb, List, [], ◌∷◌, ◌++◌, length, map, filter, take, All, Option, Some, None, refl, sym, ap, subst, ◌∙◌, arith, append_assoc, length-append}
use Rattle.std.proofs.lemmas.Bool.Decides.{nat_tests}
use Rattle.std.proofs.lemmas.List.{length-take}
use Rattle.std.proofs.lemmas.List.Elements.{All-append, All-head, All-nil, All-tail}
use Rattle.std.proofs.lemmas.List.Sums.{sum_by-cons}
use Rattle.std.specs.List.{AllZip, cons_option, filter_map, flat_map}
use Rattle.std.specs.Option.{option_map_or}
use Rattle.std.specs.Prelude.{is_some, option_map, option_and_then, slice_get}
use Rattle.netcdf_source.proofs.Joined.{has_sizes}
use Rattle.dap_types.proofs.Views.{items-trees_of}
use Rattle.dap_types.specs.Model.{Tree, array, grid, kids, many, members_of, one, scalar, sizes, trees_of}
use Rattle.dap_types.specs.Names.{file_id}
use Rattle.dap_types.specs.declared.declarations.BaseType.{BaseType}
use Rattle.dap_model.specs.Fits.{Fits, FitsAll, FitsArray}
use Rattle.netcdf_source.proofs.Fitting.{values_fit, FitsIts}
use Rattle.netcdf_source.proofs.Good.{stands_sound}
use Rattle.netcdf_source.proofs.GridMaps.{at_front, coordinate_found, grid_array, own_offered}
use Rattle.netcdf_source.proofs.WellFormed.{dims_sizes}
use Rattle.netcdf_source.specs.Laws.{HasHeader}
use Rattle.netcdf_source.specs.Layouts.{element_sizes}
use Rattle.netcdf_source.specs.Mapping.{HaveSameShape, array_of, base_of, column_of, coordinate_at, element_dimensions, is_empty, is_grid, is_offered, is_over_records, maps_of, member_of, size_at, with_records}
use Rattle.netcdf_source.specs.Parts.{inner, lengths}
use Rattle.netcdf_source.specs.Values.{map_variables, member_tree, tree_of}
use Rattle.netcdf_source.specs.declared.header.Contents.{Contents}
use Rattle.netcdf_source.specs.declared.header.Variable.{Variable}
use Rattle.netcdf_source.specs.inner.Sound.{IsSound}
use Rattle.join_source.proofs.Leaves.{same-lengths, same-over}
use Rattle.join_source.proofs.Own.{own-sizes}
use Rattle.join_source.proofs.Shapes.{bare, offered-same, plain, same-at, same-bare, same-plain}
use Rattle.join_source.proofs.Twins.{same-base, some-same, tree-at}
use Rattle.join_source.specs.Cutting.{joined_along}
use Rattle.join_source.specs.Members.{CanJoin, HaveHeaders, all_records, joined_contents}
use Rattle.join_source.specs.Served.{JoinedFits}
use Rattle.join_source.specs.Trees.{first_tree, joined_tree, member_tree_by, tree_at, trees_at, trees_from}

-- ---- one variable of one file

none-left : (ids : List ℕ) → is_empty ids ≡ true → ids ≡ []
none-left [] e = refl
none-left (i ∷ ids) e = absurd (some (length ids) e)
  where
    some : (n : ℕ) → eqb (suc n) 0 ≡ true → ⊥
    some n e = grind (arith, nat_tests)

module _ (c : Contents) (file : List ℕ) where
  -- among the members of the dataset
  picked : (vs : List Variable) (k : ℕ) (w : Variable) → slice_get vs k ≡ Some w → is_offered c w ≡ true
      → FitsAll (members_of (map (member_of c) (filter (is_offered c) vs))) (map (member_tree c file) (filter (is_offered c) vs)) → Fits (member_of c w) (member_tree c file w)
  picked [] k w at told fits = absurd cc
  picked (x ∷ vs) zero w at told fits = go (is_offered c x) (ap (is_offered c) (some-same x w at) ∙ told) fits
    where
      go : (b : Bool) → b ≡ true → FitsAll (members_of (map (member_of c) (cond b (x ∷ filter (is_offered c) vs) (filter (is_offered c) vs)))) (map (member_tree c file) (cond b (x ∷ filter (is_offered c) vs) (filter (is_offered c) vs)))
          → Fits (member_of c w) (member_tree c file w)
      go true e f = subst (λ (y : Variable). Fits (member_of c y) (member_tree c file y)) (some-same x w at) f.0
      go false e f = absurd cc
  picked (x ∷ vs) (suc k) w at told fits = picked vs k w at told (go (is_offered c x) fits)
    where
      go : (b : Bool) → FitsAll (members_of (map (member_of c) (cond b (x ∷ filter (is_offered c) vs) (filter (is_offered c) vs)))) (map (member_tree c file) (cond b (x ∷ filter (is_offered c) vs) (filter (is_offered c) vs)))
          → FitsAll (members_of (map (member_of c) (filter (is_offered c) vs))) (map (member_tree c file) (filter (is_offered c) vs))
      go true f = f.1
      go false f = f

  own-fits : (k : ℕ) (w : Variable) → HasHeader c file → slice_get c.variables k ≡ Some w → is_offered c w ≡ true → FitsArray (base_of w.external_type) (element_sizes c w) (tree_of c file w)
  unfolding member_of
  own-fits k w h at told = go (is_empty (element_dimensions c w)) refl (is_grid c w) (picked c.variables k w at told (values_fit c [] file h))
    where
      go : (e : Bool) → is_empty (element_dimensions c w) ≡ e → (g : Bool)
          → Fits (cond e (scalar (column_of w)) (cond g (grid (file_id w.name) (array_of c w) (maps_of c w.dimensions)) (array (array_of c w)))) (cond g (many (trees_of (map (tree_of c file) (w ∷ map_variables c w.dimensions)))) (tree_of c file w))
          → FitsArray (base_of w.external_type) (element_sizes c w) (tree_of c file w)
      go true is true f = absurd f
      go true is false f = subst (λ ns. FitsArray (base_of w.external_type) ns (tree_of c file w)) (sym (ap (map (size_at c)) (none-left (element_dimensions c w) is))) f
      go false is true f = subst (λ ns. FitsArray (base_of w.external_type) ns (tree_of c file w)) (dims_sizes c (element_dimensions c w)) f.1.0
      go false is false f = subst (λ ns. FitsArray (base_of w.external_type) ns (tree_of c file w)) (dims_sizes c (element_dimensions c w)) f

pub header-sound : (c : Contents) (file : List ℕ) → HasHeader c file → IsSound c
header-sound c file (bytes, (tree, rest, stands, says, past)) =
    subst IsSound says (stands_sound tree (take 1048576 file) rest (omega (arith, length-take 1048576 file)) stands)

-- ---- the variable of each file

kids-fit : (base : BaseType) (n : ℕ) (ns : List ℕ) (t : Tree) → FitsArray base (n ∷ ns) t → (length (kids t) ≡ n) × All (FitsArray base ns) (kids t)
kids-fit base n ns (one v) f = absurd f
kids-fit base n ns (many ts) f = f

along-fits : (base : BaseType) (n : ℕ) (ns : List ℕ) (ts : List Tree) → length (flat_map kids ts) ≡ n → All (FitsArray base ns) (flat_map kids ts) → FitsArray base (n ∷ ns) (joined_along ts)
along-fits base n ns ts long all = (ap length (items-trees_of (flat_map kids ts)) ∙ long, subst (All (FitsArray base ns)) (sym (items-trees_of (flat_map kids ts))) all)

module _ (c : Contents) (n : ℕ) (small : n ≤ 2147483647) (k : ℕ) (v : Variable) (at : slice_get c.variables k ≡ Some v) (told : is_offered (with_records n c) v ≡ true) where
  offered-there : (d : Contents) (w : Variable) → HaveSameShape c d → d.records ≤ 2147483647 → bare v ≡ bare w → is_offered d w ≡ true
  offered-there d w shape few alike =
      offered-same d few w ∙ sym (ap (is_offered (plain d)) alike) ∙ sym (ap (λ p. is_offered p (bare v)) (same-plain c d shape)) ∙ sym (offered-same (with_records n c) small v) ∙ told

  record Kids (d : Contents) (file : List ℕ) : Type 0 where
    long : length (kids (tree_at k d file)) ≡ d.records
    fit : All (FitsArray (base_of v.external_type) (inner (lengths c.dimensions (element_dimensions c v)))) (kids (tree_at k d file))

  kids-there : (d : Contents) (file : List ℕ) → is_over_records c v ≡ true → HaveSameShape c d → d.records ≤ 2147483647 → HasHeader d file → Kids d file
  kids-there d file over shape few h =
      let (w, there, alike) = same-at c.variables d.variables k v (same-bare c d shape) at in
      let ns = inner (lengths c.dimensions (element_dimensions c v)) in
      let fits = own-fits d file k w h there (offered-there d w shape few alike) in
      let sizes : element_sizes d w ≡ d.records ∷ ns =
      sym (own-sizes d w) ∙ (has_sizes d k w (header-sound d file h) there).over_records (sym (same-over c d v w shape alike) ∙ over) d.records
      ∙ ap (λ ls. d.records ∷ inner ls) (sym (same-lengths c d v w shape alike)) in
      let own = kids-fit (base_of v.external_type) d.records ns (tree_of d file w)
      (subst (λ ms. FitsArray (base_of v.external_type) ms (tree_of d file w)) sizes (subst (λ b. FitsArray b (element_sizes d w) (tree_of d file w)) (sym (same-base v w alike)) fits)) in
      let is : tree_at k d file ≡ tree_of d file w = tree-at d k w file there in
      record { long = ap (λ t. length (kids t)) is ∙ own.0; fit = subst (λ t. All (FitsArray (base_of v.external_type) ns) (kids t)) (sym is) own.1 }

  record AllKids (ds : List Contents) (files : List (List ℕ)) : Type 0 where
    long : length (flat_map kids (trees_at k ds files)) ≡ all_records ds
    fit : All (FitsArray (base_of v.external_type) (inner (lengths c.dimensions (element_dimensions c v)))) (flat_map kids (trees_at k ds files))

  all-kids : (ds : List Contents) (files : List (List ℕ)) → is_over_records c v ≡ true → All (HaveSameShape c) ds → all_records ds ≤ 2147483647 → AllZip HasHeader ds files → AllKids ds files
  all-kids [] [] over shapes few have = record { long = refl; fit = All-nil (FitsArray (base_of v.external_type) (inner (lengths c.dimensions (element_dimensions c v)))) }
  all-kids [] (f ∷ files) over shapes few have = absurd have
  all-kids (d ∷ ds) [] over shapes few have = absurd have
  all-kids (d ∷ ds) (f ∷ files) over shapes few have =
      let sum : all_records (d ∷ ds) ≡ d.records + all_records ds = sum_by-cons (λ x. x.records) d ds in
      let first = kids-there d f over (All-head (HaveSameShape c) d ds shapes) (omega (arith, sum, few)) have.0 in
      let rest = all-kids ds files over (All-tail (HaveSameShape c) d ds shapes) (omega (arith, sum, few)) have.1 in
      record {
        long = omega (arith, length-append (kids (tree_at k d f)) (flat_map kids (trees_at k ds files)), first.long, rest.long, sum);
        fit = All-append (FitsArray (base_of v.external_type) (inner (lengths c.dimensions (element_dimensions c v)))) (kids (tree_at k d f)) (flat_map kids (trees_at k ds files)) first.fit rest.fit;
      }

-- ---- the elements of a variable of all files

chosen-fits : (c : Contents) (cs : List Contents) (f : List ℕ) (files : List (List ℕ)) → CanJoin (c ∷ cs) → HaveHeaders (c ∷ cs) (f ∷ files) → (k : ℕ) (v : Variable) → slice_get c.variables k ≡ Some v
    → is_offered (with_records (all_records (c ∷ cs)) c) v ≡ true → (b : Bool) → is_over_records c v ≡ b
    → FitsArray (base_of v.external_type) (element_sizes (with_records (all_records (c ∷ cs)) c) v) (cond b (joined_along (trees_at k (c ∷ cs) (f ∷ files))) (first_tree (trees_at k (c ∷ cs) (f ∷ files))))
chosen-fits c cs f files can have k v at told true over =
    let sizes = has_sizes c k v (header-sound c f have.0) at in
    let all = all-kids c (all_records (c ∷ cs)) can.few k v at told (c ∷ cs) (f ∷ files) over can.same can.few have in
    subst (λ ns. FitsArray (base_of v.external_type) ns (joined_along (trees_at k (c ∷ cs) (f ∷ files)))) (sym (sizes.over_records over (all_records (c ∷ cs))))
    (along-fits (base_of v.external_type) (all_records (c ∷ cs)) (inner (lengths c.dimensions (element_dimensions c v))) (trees_at k (c ∷ cs) (f ∷ files)) all.long all.fit)
chosen-fits c cs f files can have k v at told false fixed =
    let sizes = has_sizes c k v (header-sound c f have.0) at in
    let sum : all_records (c ∷ cs) ≡ c.records + all_records cs = sum_by-cons (λ x. x.records) c cs in
    let few : c.records ≤ 2147483647 = omega (arith, sum, can.few) in
    let own = own-fits c f k v have.0 at (offered-there c (all_records (c ∷ cs)) can.few k v at told c v (record { dimensions = refl; variables = refl }) few refl) in
    let same : element_sizes (with_records (all_records (c ∷ cs)) c) v ≡ element_sizes c v = sizes.fixed fixed (all_records (c ∷ cs)) ∙ sym (sizes.fixed fixed c.records) ∙ own-sizes c v in
    subst (λ ns. FitsArray (base_of v.external_type) ns (tree_at k c f)) (sym same) (subst (FitsArray (base_of v.external_type) (element_sizes c v)) (sym (tree-at c k v f at)) own)

each-fits : (c : Contents) (cs : List Contents) (f : List ℕ) (files : List (List ℕ)) → CanJoin (c ∷ cs) → HaveHeaders (c ∷ cs) (f ∷ files) → (k : ℕ) (v : Variable) → slice_get (joined_contents (c ∷ cs)).variables k ≡ Some v
    → is_offered (joined_contents (c ∷ cs)) v ≡ true → FitsArray (base_of v.external_type) (element_sizes (joined_contents (c ∷ cs)) v) (joined_tree (c ∷ cs) (f ∷ files) k)
unfolding joined_contents joined_tree
each-fits c cs f files can have k v at told =
    subst (λ o. FitsArray (base_of v.external_type) (element_sizes (with_records (all_records (c ∷ cs)) c) v) (cond (option_map_or (is_over_records c) o false) (joined_along (trees_at k (c ∷ cs) (f ∷ files))) (first_tree (trees_at k (c ∷ cs) (f ∷ files))))) (sym at)
    (chosen-fits c cs f files can have k v at told (is_over_records c v) refl)

-- ---- the members, where each variable has values that fit

module _ (j : Contents) (tree : ℕ → Tree) (each : (k : ℕ) (v : Variable) → slice_get j.variables k ≡ Some v → is_offered j v ≡ true → FitsArray (base_of v.external_type) (element_sizes j v) (tree k)) where
  array-fits : (k : ℕ) (v : Variable) → slice_get j.variables k ≡ Some v → is_offered j v ≡ true → FitsIts (array_of j v) (tree k)
  array-fits k v at told = subst (λ ns. FitsArray (base_of v.external_type) ns (tree k)) (sym (dims_sizes j (element_dimensions j v))) (each k v at told)

  maps-fit : (ids : List ℕ) → AllZip FitsIts (maps_of j ids) (map tree (filter_map (coordinate_at j) ids))
  maps-fit [] = tt
  maps-fit (i ∷ ids) = go (coordinate_at j i) refl (maps-fit ids)
    where
      go : (o : Option ℕ) → coordinate_at j i ≡ o → AllZip FitsIts (maps_of j ids) (map tree (filter_map (coordinate_at j) ids))
          → AllZip FitsIts (cons_option (option_map (array_of j) (option_and_then (slice_get j.variables) o)) (maps_of j ids)) (map tree (cons_option o (filter_map (coordinate_at j) ids)))
      go None e rest = rest
      go (Some p) e rest =
          let found = coordinate_found j i (ap is_some e) in
          let there : slice_get j.variables p ≡ Some found.0 = sym (ap (option_and_then (slice_get j.variables)) e) ∙ found.1 in
          subst (λ o. AllZip FitsIts (cons_option (option_map (array_of j) o) (maps_of j ids)) (tree p ∷ map tree (filter_map (coordinate_at j) ids))) (sym there)
          (array-fits p found.0 there (own_offered j found.0 i found.2.1), rest)

  member-fits : (k : ℕ) (v : Variable) → slice_get j.variables k ≡ Some v → is_offered j v ≡ true → Fits (member_of j v) (member_tree_by j tree k v)
  unfolding member_of
  member-fits k v at told = go (is_empty (element_dimensions j v)) refl (is_grid j v) refl
    where
      clash : (b : Bool) → b ≡ false → b ≡ true → ⊥
      clash b p q = cc

      go : (e : Bool) → is_empty (element_dimensions j v) ≡ e → (g : Bool) → is_grid j v ≡ g
          → Fits (cond e (scalar (column_of v)) (cond g (grid (file_id v.name) (array_of j v) (maps_of j v.dimensions)) (array (array_of j v)))) (cond g (many (trees_of (map tree (k ∷ filter_map (coordinate_at j) v.dimensions)))) (tree k))
      go true p true q = let g = grid_array j v q in absurd (clash (is_empty (element_dimensions j v)) (ap is_empty g.whole ∙ g.some) p)
      go true p false q = subst (λ ns. FitsArray (base_of v.external_type) ns (tree k)) (ap (map (size_at j)) (none-left (element_dimensions j v) p)) (each k v at told)
      go false p true q =
          let trees : List Tree = map tree (k ∷ filter_map (coordinate_at j) v.dimensions) in
          let whole : AllZip FitsIts (array_of j v ∷ maps_of j v.dimensions) trees = (array-fits k v at told, maps-fit v.dimensions) in
          (tt, subst (AllZip FitsIts (array_of j v ∷ maps_of j v.dimensions)) (sym (items-trees_of trees)) whole)
      go false p false q = array-fits k v at told

  all-fit : (before vs : List Variable) (k : ℕ) → j.variables ≡ before ++ vs → length before ≡ k → FitsAll (members_of (map (member_of j) (filter (is_offered j) vs))) (trees_from j tree k vs)
  unfolding trees_from
  all-fit before [] k whole len = tt
  all-fit before (v ∷ vs) k whole len =
      let later : j.variables ≡ (before ++ v ∷ []) ++ vs = whole ∙ sym (append_assoc before (v ∷ []) vs) in
      let next : length (before ++ v ∷ []) ≡ k + 1 = omega (arith, len, length-append before (v ∷ [])) in
      let at : slice_get j.variables k ≡ Some v = ap (λ xs. slice_get xs k) whole ∙ ap (slice_get (before ++ v ∷ vs)) (sym len) ∙ at_front before vs v in
      go (is_offered j v) refl at (all-fit (before ++ v ∷ []) vs (k + 1) later next)
    where
      go : (b : Bool) → is_offered j v ≡ b → slice_get j.variables k ≡ Some v → FitsAll (members_of (map (member_of j) (filter (is_offered j) vs))) (trees_from j tree (k + 1) vs)
          → FitsAll (members_of (map (member_of j) (cond b (v ∷ filter (is_offered j) vs) (filter (is_offered j) vs)))) (cond b (member_tree_by j tree k v ∷ []) [] ++ trees_from j tree (k + 1) vs)
      go true e at rest = (member-fits k v at e, rest)
      go false e at rest = rest

pub joined_fits : JoinedFits
joined_fits [] files name can have = absurd (can.record_dimension refl)
joined_fits (c ∷ cs) [] name can have = absurd have
joined_fits (c ∷ cs) (f ∷ files) name can have =
    all-fit (joined_contents (c ∷ cs)) (joined_tree (c ∷ cs) (f ∷ files)) (each-fits c cs f files can have) [] (joined_contents (c ∷ cs)).variables 0 refl refl
