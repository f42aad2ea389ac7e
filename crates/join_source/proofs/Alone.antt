-- One file by itself is joined to what it is.
use Rattle.std.proofs.Common.{◌≡◌, ℕ, ◌+◌, Bool, true, false, cond, List, [], ◌∷◌, ◌++◌, length, map, filter, Option, Some, None, refl, sym, ap, ◌∙◌, subst, arith, append-nil, append_assoc, length-append}
use Rattle.std.proofs.lemmas.List.Sums.{sum_by-cons}
use Rattle.std.specs.List.{cons_option, filter_map}
use Rattle.std.specs.Option.{option_map_or}
use Rattle.std.specs.Prelude.{is_some, option_and_then, slice_get}
use Rattle.dap_types.proofs.Views.{items-trees_of}
use Rattle.dap_types.specs.Model.{Tree, many, trees_of}
use Rattle.dap_types.specs.declared.values.Value.{Value}
use Rattle.dap_model.specs.Cutting.{array_tree}
use Rattle.dap_model.specs.Indexing.{by_index, indexed_tree}
use Rattle.netcdf_source.proofs.GridMaps.{at_front, coordinate_found}
use Rattle.netcdf_source.proofs.Placed.{element_record}
use Rattle.netcdf_source.specs.Layouts.{element_at}
use Rattle.netcdf_source.specs.Mapping.{coordinate_at, coordinate_variable, dataset_of, element_dimensions, is_grid, is_offered, is_over_records, with_records}
use Rattle.netcdf_source.specs.Values.{member_tree, tree_of, value_of}
use Rattle.netcdf_source.specs.declared.header.Contents.{Contents}
use Rattle.netcdf_source.specs.declared.header.Variable.{Variable}
use Rattle.join_source.proofs.Twins.{sizes-first, tree-at}
use Rattle.join_source.specs.Alone.{OneIsItself}
use Rattle.join_source.specs.Cutting.{joined_along}
use Rattle.join_source.specs.Members.{joined_contents}
use Rattle.join_source.specs.Trees.{first_tree, is_over_records_at, joined_tree, member_tree_by, trees_at, trees_from}

one-contents : (c : Contents) → joined_contents (c ∷ []) ≡ c
unfolding joined_contents
one-contents c = ap (λ n. with_records n c) (sum_by-cons (λ x. x.records) c [] ∙ plain c.records)
  where
    plain : (n : ℕ) → n + 0 ≡ n
    plain n = omega arith

-- the records of one file, joined
many-again : (xs : List Tree) → joined_along (many (trees_of xs) ∷ []) ≡ many (trees_of xs)
many-again xs = ap (λ ys. many (trees_of ys)) (append-nil _ ∙ items-trees_of xs)

indexed-again : (n : ℕ) (ns : List ℕ) (at : List ℕ → Value) → joined_along (indexed_tree (n ∷ ns) at ∷ []) ≡ indexed_tree (n ∷ ns) at
unfolding by_index
indexed-again n ns at = many-again (map (array_tree (length ns)) (by_index Value (n ∷ ns) at))

records-again : (c : Contents) (file : List ℕ) (v : Variable) → is_over_records c v ≡ true → joined_along (tree_of c file v ∷ []) ≡ tree_of c file v
unfolding tree_of
records-again c file v over =
    let sizes = sizes-first c (element_dimensions c v) (element_record c v ∙ over) in
    subst (λ ns. joined_along (indexed_tree ns (λ indexes. value_of v.external_type (element_at c file v indexes)) ∷ []) ≡ indexed_tree ns (λ indexes. value_of v.external_type (element_at c file v indexes))) (sym sizes.1)
    (indexed-again c.records sizes.0 (λ indexes. value_of v.external_type (element_at c file v indexes)))

one-tree : (c : Contents) (file : List ℕ) (k : ℕ) (v : Variable) → slice_get c.variables k ≡ Some v → joined_tree (c ∷ []) (file ∷ []) k ≡ tree_of c file v
unfolding joined_tree
one-tree c file k v at =
    ap (λ j. cond (is_over_records_at j k) (joined_along (trees_at k (c ∷ []) (file ∷ []))) (first_tree (trees_at k (c ∷ []) (file ∷ [])))) (one-contents c)
    ∙ ap (λ t. cond (is_over_records_at c k) (joined_along (t ∷ [])) t) (tree-at c k v file at)
    ∙ ap (λ o. cond (option_map_or (is_over_records c) o false) (joined_along (tree_of c file v ∷ [])) (tree_of c file v)) at
    ∙ go (is_over_records c v) refl
  where
    go : (b : Bool) → is_over_records c v ≡ b → cond b (joined_along (tree_of c file v ∷ [])) (tree_of c file v) ≡ tree_of c file v
    go true over = records-again c file v over
    go false over = refl

module _ (c : Contents) (file : List ℕ) where
  maps-again : (ids : List ℕ) → map (joined_tree (c ∷ []) (file ∷ [])) (filter_map (coordinate_at c) ids) ≡ map (tree_of c file) (filter_map (coordinate_variable c) ids)
  maps-again [] = refl
  maps-again (i ∷ ids) = go (coordinate_at c i) refl (maps-again ids)
    where
      go : (o : Option ℕ) → coordinate_at c i ≡ o → map (joined_tree (c ∷ []) (file ∷ [])) (filter_map (coordinate_at c) ids) ≡ map (tree_of c file) (filter_map (coordinate_variable c) ids)
          → map (joined_tree (c ∷ []) (file ∷ [])) (cons_option o (filter_map (coordinate_at c) ids)) ≡ map (tree_of c file) (cons_option (option_and_then (slice_get c.variables) o) (filter_map (coordinate_variable c) ids))
      go None e rest = rest
      go (Some p) e rest =
          let found = coordinate_found c i (ap is_some e) in
          let there : slice_get c.variables p ≡ Some found.0 = sym (ap (option_and_then (slice_get c.variables)) e) ∙ found.1 in
          ap (λ t. t ∷ map (joined_tree (c ∷ []) (file ∷ [])) (filter_map (coordinate_at c) ids)) (one-tree c file p found.0 there)
          ∙ ap (λ ts. tree_of c file found.0 ∷ ts) rest
          ∙ sym (ap (λ o. map (tree_of c file) (cons_option o (filter_map (coordinate_variable c) ids))) there)

  member-again : (k : ℕ) (v : Variable) → slice_get c.variables k ≡ Some v → member_tree_by c (joined_tree (c ∷ []) (file ∷ [])) k v ≡ member_tree c file v
  member-again k v at =
      ap (λ t. cond (is_grid c v) (many (trees_of (t ∷ map (joined_tree (c ∷ []) (file ∷ [])) (filter_map (coordinate_at c) v.dimensions)))) t) (one-tree c file k v at)
      ∙ ap (λ ts. cond (is_grid c v) (many (trees_of (tree_of c file v ∷ ts))) (tree_of c file v)) (maps-again v.dimensions)

  all-again : (before vs : List Variable) (k : ℕ) → c.variables ≡ before ++ vs → length before ≡ k → trees_from c (joined_tree (c ∷ []) (file ∷ [])) k vs ≡ map (member_tree c file) (filter (is_offered c) vs)
  unfolding trees_from
  all-again before [] k whole len = refl
  all-again before (v ∷ vs) k whole len =
      let later : c.variables ≡ (before ++ v ∷ []) ++ vs = whole ∙ sym (append_assoc before (v ∷ []) vs) in
      let next : length (before ++ v ∷ []) ≡ k + 1 = omega (arith, len, length-append before (v ∷ [])) in
      let at : slice_get c.variables k ≡ Some v = ap (λ xs. slice_get xs k) whole ∙ ap (slice_get (before ++ v ∷ vs)) (sym len) ∙ at_front before vs v in
      go (is_offered c v) at (all-again (before ++ v ∷ []) vs (k + 1) later next)
    where
      go : (b : Bool) → slice_get c.variables k ≡ Some v → trees_from c (joined_tree (c ∷ []) (file ∷ [])) (k + 1) vs ≡ map (member_tree c file) (filter (is_offered c) vs)
          → cond b (member_tree_by c (joined_tree (c ∷ []) (file ∷ [])) k v ∷ []) [] ++ trees_from c (joined_tree (c ∷ []) (file ∷ [])) (k + 1) vs ≡ map (member_tree c file) (cond b (v ∷ filter (is_offered c) vs) (filter (is_offered c) vs))
      go true at rest = ap (λ t. t ∷ trees_from c (joined_tree (c ∷ []) (file ∷ [])) (k + 1) vs) (member-again k v at) ∙ ap (λ ts. member_tree c file v ∷ ts) rest
      go false at rest = rest

pub one_is_itself : OneIsItself
one_is_itself c file_name file = (
  ap (λ x. dataset_of x file_name) (one-contents c),
  ap (λ x. trees_from x (joined_tree (c ∷ []) (file ∷ [])) 0 x.variables) (one-contents c) ∙ all-again c file [] c.variables 0 refl refl,
)
