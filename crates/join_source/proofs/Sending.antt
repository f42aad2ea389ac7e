-- The members of a netCDF dataset and its leaves are sent in the same order, whatever the values of each variable.
use Rattle.std.proofs.Common.{◌≡◌, ℕ, suc, ◌+◌, Bool, true, false, cond, List, [], ◌∷◌, ◌++◌, length, map, filter, Option, Some, None, refl, sym, ap, ◌∙◌, subst, arith, append-nil, append_assoc, length-append}
use Rattle.std.specs.List.{list_all, cons_option, filter_map}
use Rattle.std.specs.Option.{option_map_or}
use Rattle.std.specs.Prelude.{is_some, option_and_then, slice_get}
use Rattle.plain_lemmas.proofs.Truths.{both_true}
use Rattle.dap_types.proofs.Views.{items-trees_of}
use Rattle.dap_types.specs.Model.{Tree, scalar, array, grid, members_of, many, trees_of, count}
use Rattle.dap_types.specs.Names.{file_id}
use Rattle.dap_types.specs.declared.slabs.Slab.{Slab}
use Rattle.dap_model.specs.Filter.{Marks, Keeps, cut}
use Rattle.dap_model.specs.Fits.{values_in}
use Rattle.dap_model.specs.Xdr.{scalar_fields, array_fields, bytes_of}
use Rattle.netcdf_source.proofs.GridMaps.{coordinate_found, grid_array, maps_are, own_alone, at_front}
use Rattle.netcdf_source.specs.Mapping.{base_of, element_dimensions, is_empty, is_offered, is_grid, coordinate_at, column_of, array_of, maps_of, member_of, dataset_of, leaves_of, leaves_from}
use Rattle.netcdf_source.specs.Values.{map_variables}
use Rattle.netcdf_source.specs.declared.header.Contents.{Contents}
use Rattle.netcdf_source.specs.declared.header.Variable.{Variable}
use Rattle.xdr_encode.proofs.CdfSending.{one-count}
use Rattle.xdr_encode.proofs.Marking.{marked_are_sent}
use Rattle.xdr_encode.specs.Marked.{arrays_sent, member_sent, members_sent}
use Rattle.join_source.specs.Sent.{variable_sent, slot_sent, slots_sent, LeavesAreSent}
use Rattle.join_source.specs.Trees.{member_tree_by, trees_from}

module _ (c : Contents) (tree : ℕ → Tree) (marks : Marks) (keeps : Keeps) where
  slots-append : (n : ℕ) (xs ys : List (Option ℕ)) → slots_sent c tree marks n (xs ++ ys) ≡ slots_sent c tree marks n xs ++ slots_sent c tree marks (n + length xs) ys
  slots-append n [] ys = ap (λ m. slots_sent c tree marks m ys) (back n)
    where
      back : (n : ℕ) → n ≡ n + 0
      back n = omega arith
  slots-append n (x ∷ xs) ys =
      ap (λ fs. slot_sent c tree marks n x ++ fs) (slots-append (n + 1) xs ys ∙ ap (λ m. slots_sent c tree marks (n + 1) xs ++ slots_sent c tree marks m ys) (along n (length xs)))
      ∙ sym (append_assoc (slot_sent c tree marks n x) (slots_sent c tree marks (n + 1) xs) (slots_sent c tree marks (n + length (x ∷ xs)) ys))
    where
      along : (n m : ℕ) → n + 1 + m ≡ n + suc m
      along n m = omega arith

  -- a variable with dimensions
  as-array : (n : ℕ) (t : Tree) (v : Variable) → is_empty (element_dimensions c v) ≡ false
      → variable_sent c marks t n v ≡ option_map_or (λ slabs. array_fields (base_of v.external_type) (values_in (cut slabs t))) (marks n) []
  as-array n t v e = go (marks n)
    where
      go : (o : Option (List Slab)) →
          option_map_or (λ slabs. cond (is_empty (element_dimensions c v)) (scalar_fields (base_of v.external_type) t) (array_fields (base_of v.external_type) (values_in (cut slabs t)))) o []
          ≡ option_map_or (λ slabs. array_fields (base_of v.external_type) (values_in (cut slabs t))) o []
      go None = refl
      go (Some slabs) = ap (λ b. cond b (scalar_fields (base_of v.external_type) t) (array_fields (base_of v.external_type) (values_in (cut slabs t)))) e

  -- one map of a Grid, and those behind it
  map-sent : (n : ℕ) (ids : List ℕ) (p : Option ℕ) (w : Variable) → option_and_then (slice_get c.variables) p ≡ Some w → is_empty (element_dimensions c w) ≡ false
      → arrays_sent marks (n + 1) (map (array_of c) (map_variables c ids)) (map tree (filter_map (coordinate_at c) ids)) ≡ slots_sent c tree marks (n + 1) (map (coordinate_at c) ids)
      → arrays_sent marks n (map (array_of c) (cons_option (option_and_then (slice_get c.variables) p) (map_variables c ids))) (map tree (cons_option p (filter_map (coordinate_at c) ids)))
      ≡ slot_sent c tree marks n p ++ slots_sent c tree marks (n + 1) (map (coordinate_at c) ids)
  map-sent n ids None w is some more = absurd cc
  map-sent n ids (Some k) w is some more =
      subst (λ o. arrays_sent marks n (map (array_of c) (cons_option o (map_variables c ids))) (tree k ∷ map tree (filter_map (coordinate_at c) ids))
      ≡ option_map_or (variable_sent c marks (tree k) n) o [] ++ slots_sent c tree marks (n + 1) (map (coordinate_at c) ids)) (sym is)
      (ap (λ fs. option_map_or (λ slabs. array_fields (base_of w.external_type) (values_in (cut slabs (tree k)))) (marks n) [] ++ fs) more
      ∙ ap (λ fs. fs ++ slots_sent c tree marks (n + 1) (map (coordinate_at c) ids)) (sym (as-array n (tree k) w some)))

  maps-sent : (n : ℕ) (ids : List ℕ) → list_all (λ i. is_some (coordinate_at c i)) ids ≡ true
      → arrays_sent marks n (map (array_of c) (map_variables c ids)) (map tree (filter_map (coordinate_at c) ids)) ≡ slots_sent c tree marks n (map (coordinate_at c) ids)
  maps-sent n [] e = refl
  maps-sent n (i ∷ ids) e =
      let both = both_true (is_some (coordinate_at c i)) (list_all (λ j. is_some (coordinate_at c j)) ids) e in
      let f = coordinate_found c i both.0 in
      map-sent n ids (coordinate_at c i) f.0 f.1 (ap is_empty (own_alone c f.0 i f.2.1)) (maps-sent (n + 1) ids both.1)

  one-sent : (n k : ℕ) (v : Variable) → slice_get c.variables k ≡ Some v → member_sent marks keeps n (member_of c v) (member_tree_by c tree k v) ≡ slots_sent c tree marks n (leaves_of c k v)
  unfolding member_of
  one-sent n k v at = go (is_grid c v) refl
    where
      self : (m : ℕ) → slot_sent c tree marks m (Some k) ≡ variable_sent c marks (tree k) m v
      self m = ap (λ o. option_map_or (variable_sent c marks (tree k) m) o []) at

      plain : (b : Bool) → is_empty (element_dimensions c v) ≡ b → member_sent marks keeps n (cond b (scalar (column_of v)) (array (array_of c v))) (tree k) ≡ variable_sent c marks (tree k) n v
      plain true e = scalars (marks n)
        where
          scalars : (o : Option (List Slab)) → option_map_or (λ slabs. scalar_fields (base_of v.external_type) (tree k)) o []
              ≡ option_map_or (λ slabs. cond (is_empty (element_dimensions c v)) (scalar_fields (base_of v.external_type) (tree k)) (array_fields (base_of v.external_type) (values_in (cut slabs (tree k))))) o []
          scalars None = refl
          scalars (Some slabs) = sym (ap (λ b. cond b (scalar_fields (base_of v.external_type) (tree k)) (array_fields (base_of v.external_type) (values_in (cut slabs (tree k))))) e)
      plain false e = sym (as-array n (tree k) v e)

      go : (b : Bool) → is_grid c v ≡ b →
          member_sent marks keeps n (cond (is_empty (element_dimensions c v)) (scalar (column_of v)) (cond b (grid (file_id v.name) (array_of c v) (maps_of c v.dimensions)) (array (array_of c v))))
          (cond b (many (trees_of (map tree (k ∷ filter_map (coordinate_at c) v.dimensions)))) (tree k))
          ≡ slots_sent c tree marks n (cond b (None ∷ Some k ∷ map (coordinate_at c) v.dimensions) (Some k ∷ []))
      go true e =
          let g = grid_array c v e in
          let some : is_empty (element_dimensions c v) ≡ false = ap is_empty g.whole ∙ g.some in
          subst (λ b. member_sent marks keeps n (cond b (scalar (column_of v)) (grid (file_id v.name) (array_of c v) (maps_of c v.dimensions))) (many (trees_of (map tree (k ∷ filter_map (coordinate_at c) v.dimensions))))
          ≡ slots_sent c tree marks n (None ∷ Some k ∷ map (coordinate_at c) v.dimensions)) (sym some)
          (ap (λ ts. arrays_sent marks (n + 1) (array_of c v ∷ maps_of c v.dimensions) ts) (items-trees_of (map tree (k ∷ filter_map (coordinate_at c) v.dimensions)))
          ∙ ap (λ others. arrays_sent marks (n + 1) (array_of c v ∷ others) (map tree (k ∷ filter_map (coordinate_at c) v.dimensions))) (maps_are c v.dimensions)
          ∙ ap (λ fs. option_map_or (λ slabs. array_fields (base_of v.external_type) (values_in (cut slabs (tree k)))) (marks (n + 1)) [] ++ fs) (maps-sent (n + 1 + 1) v.dimensions g.coordinates)
          ∙ ap (λ fs. fs ++ slots_sent c tree marks (n + 1 + 1) (map (coordinate_at c) v.dimensions)) (sym (self (n + 1) ∙ as-array (n + 1) (tree k) v some)))
      go false e = plain (is_empty (element_dimensions c v)) refl ∙ sym (append-nil (slot_sent c tree marks n (Some k)) ∙ self n)

  all-sent : (before vs : List Variable) (k n : ℕ) → c.variables ≡ before ++ vs → length before ≡ k
      → members_sent marks keeps n (members_of (map (member_of c) (filter (is_offered c) vs))) (trees_from c tree k vs) ≡ slots_sent c tree marks n (leaves_from c k vs)
  unfolding leaves_from trees_from
  all-sent before [] k n whole len = refl
  all-sent before (v ∷ vs) k n whole len =
      let later : c.variables ≡ (before ++ v ∷ []) ++ vs = whole ∙ sym (append_assoc before (v ∷ []) vs) in
      let next : length (before ++ v ∷ []) ≡ k + 1 = omega (arith, len, length-append before (v ∷ [])) in
      let at : slice_get c.variables k ≡ Some v = ap (λ xs. slice_get xs k) whole ∙ ap (slice_get (before ++ v ∷ vs)) (sym len) ∙ at_front before vs v in
      go (is_offered c v) at (λ m. all-sent (before ++ v ∷ []) vs (k + 1) m later next)
    where
      go : (b : Bool) → slice_get c.variables k ≡ Some v
          → ((m : ℕ) → members_sent marks keeps m (members_of (map (member_of c) (filter (is_offered c) vs))) (trees_from c tree (k + 1) vs) ≡ slots_sent c tree marks m (leaves_from c (k + 1) vs))
          → members_sent marks keeps n (members_of (map (member_of c) (cond b (v ∷ filter (is_offered c) vs) (filter (is_offered c) vs)))) (cond b (member_tree_by c tree k v ∷ []) [] ++ trees_from c tree (k + 1) vs)
          ≡ slots_sent c tree marks n (cond b (leaves_of c k v) [] ++ leaves_from c (k + 1) vs)
      go true at rest =
          ap (λ fs. fs ++ members_sent marks keeps (n + count (member_of c v)) (members_of (map (member_of c) (filter (is_offered c) vs))) (trees_from c tree (k + 1) vs)) (one-sent n k v at)
          ∙ ap (λ fs. slots_sent c tree marks n (leaves_of c k v) ++ fs) (rest (n + count (member_of c v)) ∙ ap (λ m. slots_sent c tree marks (n + m) (leaves_from c (k + 1) vs)) (one-counted k v))
          ∙ sym (slots-append n (leaves_of c k v) (leaves_from c (k + 1) vs))
        where
          one-counted : (k : ℕ) (v : Variable) → count (member_of c v) ≡ length (leaves_of c k v)
          one-counted k v = one-count c [] marks keeps k v
      go false at rest = rest n

pub leaves_are_sent : LeavesAreSent
leaves_are_sent c file_name tree marks keeps =
    ap bytes_of (marked_are_sent marks keeps (dataset_of c file_name) (trees_from c tree 0 c.variables) ∙ all-sent c tree marks keeps [] c.variables 0 1 refl refl)
