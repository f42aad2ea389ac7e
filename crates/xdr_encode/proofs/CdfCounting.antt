-- The elements that are sent of a netCDF dataset, by member number.
use Rattle.std.proofs.Common.{◌≡◌, ℕ, suc, ◌+◌, Bool, true, false, cond, List, [], ◌∷◌, ◌++◌, length, map, filter, Option, Some, None, refl, sym, ap, ◌∙◌, subst, arith, append-nil, append_assoc, length-append, nat_lt}
use Rattle.std.specs.List.{list_all, cons_option}
use Rattle.std.specs.Option.{option_map_or}
use Rattle.std.specs.Prelude.{is_some, slice_get}
use Rattle.plain_lemmas.proofs.Truths.{both_true}
use Rattle.dap_types.specs.Model.{scalar, array, grid, members_of, count, sizes, product}
use Rattle.dap_types.specs.Names.{file_id}
use Rattle.dap_types.specs.declared.slabs.Slab.{Slab}
use Rattle.dap_model.specs.Dds.{dds}
use Rattle.dap_model.specs.Filter.{Marks, constrained, counted}
use Rattle.netcdf_source.proofs.GridMaps.{coordinate_found, grid_array, maps_are, own_alone, at_front}
use Rattle.netcdf_source.specs.Mapping.{element_dimensions, is_empty, is_offered, is_grid, coordinate_at, coordinate_variable, column_of, array_of, maps_of, member_of, dataset_of, leaves_of, leaves_from}
use Rattle.netcdf_source.specs.Values.{map_variables}
use Rattle.netcdf_source.specs.declared.header.Contents.{Contents}
use Rattle.netcdf_source.specs.declared.header.Variable.{Variable}
use Rattle.xdr_encode.proofs.CdfSending.{one-count}
use Rattle.xdr_encode.proofs.Counting.{first-leaf, all-left, arrays_left, member_left, members_left}
use Rattle.xdr_encode.specs.Counts.{CdfTooLarge, first_large, slot_counts, slots_counts, variable_counts}

module _ (c : Contents) (marks : Marks) where
  slots-append : (n : ℕ) (xs ys : List (Option ℕ)) → slots_counts c marks n (xs ++ ys) ≡ slots_counts c marks n xs ++ slots_counts c marks (n + length xs) ys
  unfolding slots_counts
  slots-append n [] ys = ap (λ m. slots_counts c marks m ys) (back n)
    where
      back : (n : ℕ) → n ≡ n + 0
      back n = omega arith
  slots-append n (x ∷ xs) ys =
      ap (λ fs. slot_counts c marks n x ++ fs) (slots-append (n + 1) xs ys ∙ ap (λ m. slots_counts c marks (n + 1) xs ++ slots_counts c marks m ys) (along n (length xs)))
      ∙ sym (append_assoc (slot_counts c marks n x) (slots_counts c marks (n + 1) xs) (slots_counts c marks (n + length (x ∷ xs)) ys))
    where
      along : (n m : ℕ) → n + 1 + m ≡ n + suc m
      along n m = omega arith

  as-array : (n : ℕ) (v : Variable) → is_empty (element_dimensions c v) ≡ false → variable_counts c marks n v ≡ option_map_or (λ slabs. product (sizes (counted slabs (array_of c v))) ∷ []) (marks n) []
  as-array n v e = go (marks n)
    where
      go : (o : Option (List Slab)) →
          option_map_or (λ slabs. cond (is_empty (element_dimensions c v)) 1 (product (sizes (counted slabs (array_of c v)))) ∷ []) o []
          ≡ option_map_or (λ slabs. product (sizes (counted slabs (array_of c v))) ∷ []) o []
      go None = refl
      go (Some slabs) = ap (λ b. cond b 1 (product (sizes (counted slabs (array_of c v)))) ∷ []) e

  maps-left : (n : ℕ) (ids : List ℕ) → list_all (λ i. is_some (coordinate_at c i)) ids ≡ true → arrays_left marks n (map (array_of c) (map_variables c ids)) ≡ slots_counts c marks n (map (coordinate_at c) ids)
  unfolding slots_counts
  maps-left n [] e = refl
  maps-left n (i ∷ ids) e =
      let both = both_true (is_some (coordinate_at c i)) (list_all (λ j. is_some (coordinate_at c j)) ids) e in
      let f = coordinate_found c i both.0 in
      here (coordinate_variable c i) f.0 f.1 (ap is_empty (own_alone c f.0 i f.2.1)) (maps-left (n + 1) ids both.1)
    where
      here : (o : Option Variable) (w : Variable) → o ≡ Some w → is_empty (element_dimensions c w) ≡ false
          → arrays_left marks (n + 1) (map (array_of c) (map_variables c ids)) ≡ slots_counts c marks (n + 1) (map (coordinate_at c) ids)
          → arrays_left marks n (map (array_of c) (cons_option o (map_variables c ids)))
          ≡ option_map_or (variable_counts c marks n) o [] ++ slots_counts c marks (n + 1) (map (coordinate_at c) ids)
      here o w is some more =
          subst (λ p. arrays_left marks n (map (array_of c) (cons_option p (map_variables c ids))) ≡ option_map_or (variable_counts c marks n) p [] ++ slots_counts c marks (n + 1) (map (coordinate_at c) ids)) (sym is)
          (ap (λ fs. option_map_or (λ slabs. product (sizes (counted slabs (array_of c w))) ∷ []) (marks n) [] ++ fs) more
          ∙ ap (λ fs. fs ++ slots_counts c marks (n + 1) (map (coordinate_at c) ids)) (sym (as-array n w some)))

  one-left : (n k : ℕ) (v : Variable) → slice_get c.variables k ≡ Some v → member_left marks n (member_of c v) ≡ slots_counts c marks n (leaves_of c k v)
  unfolding member_of slots_counts
  one-left n k v at = go (is_grid c v) refl
    where
      self : slot_counts c marks n (Some k) ≡ variable_counts c marks n v
      self = ap (λ o. option_map_or (variable_counts c marks n) o []) at

      self-next : slot_counts c marks (n + 1) (Some k) ≡ variable_counts c marks (n + 1) v
      self-next = ap (λ o. option_map_or (variable_counts c marks (n + 1)) o []) at

      plain : (b : Bool) → is_empty (element_dimensions c v) ≡ b → member_left marks n (cond b (scalar (column_of v)) (array (array_of c v))) ≡ variable_counts c marks n v
      plain true e = scalars (marks n)
        where
          scalars : (o : Option (List Slab)) → option_map_or (λ slabs. 1 ∷ []) o [] ≡ option_map_or (λ slabs. cond (is_empty (element_dimensions c v)) 1 (product (sizes (counted slabs (array_of c v)))) ∷ []) o []
          scalars None = refl
          scalars (Some slabs) = sym (ap (λ b. cond b 1 (product (sizes (counted slabs (array_of c v)))) ∷ []) e)
      plain false e = sym (as-array n v e)

      go : (b : Bool) → is_grid c v ≡ b →
          member_left marks n (cond (is_empty (element_dimensions c v)) (scalar (column_of v)) (cond b (grid (file_id v.name) (array_of c v) (maps_of c v.dimensions)) (array (array_of c v))))
          ≡ slots_counts c marks n (cond b (None ∷ Some k ∷ map (coordinate_at c) v.dimensions) (Some k ∷ []))
      go true e =
          let g = grid_array c v e in
          let some : is_empty (element_dimensions c v) ≡ false = ap is_empty g.whole ∙ g.some in
          subst (λ b. member_left marks n (cond b (scalar (column_of v)) (grid (file_id v.name) (array_of c v) (maps_of c v.dimensions)))
          ≡ slots_counts c marks n (None ∷ Some k ∷ map (coordinate_at c) v.dimensions)) (sym some)
          (ap (λ others. arrays_left marks (n + 1) (array_of c v ∷ others)) (maps_are c v.dimensions)
          ∙ ap (λ fs. option_map_or (λ slabs. product (sizes (counted slabs (array_of c v))) ∷ []) (marks (n + 1)) [] ++ fs) (maps-left (n + 1 + 1) v.dimensions g.coordinates)
          ∙ ap (λ fs. fs ++ slots_counts c marks (n + 1 + 1) (map (coordinate_at c) v.dimensions)) (sym (self-next ∙ as-array (n + 1) v some)))
      go false e = plain (is_empty (element_dimensions c v)) refl ∙ sym (append-nil (slot_counts c marks n (Some k)) ∙ self)

  one-long : (k : ℕ) (v : Variable) → count (member_of c v) ≡ length (leaves_of c k v)
  one-long k v = one-count c [] marks (λ n row. true) k v

  all-counted : (before vs : List Variable) (k n : ℕ) → c.variables ≡ before ++ vs → length before ≡ k
      → members_left marks n (members_of (map (member_of c) (filter (is_offered c) vs))) ≡ slots_counts c marks n (leaves_from c k vs)
  unfolding leaves_from slots_counts
  all-counted before [] k n whole len = refl
  all-counted before (v ∷ vs) k n whole len =
      let later : c.variables ≡ (before ++ v ∷ []) ++ vs = whole ∙ sym (append_assoc before (v ∷ []) vs) in
      let next : length (before ++ v ∷ []) ≡ k + 1 = omega (arith, len, length-append before (v ∷ [])) in
      let at : slice_get c.variables k ≡ Some v = ap (λ xs. slice_get xs k) whole ∙ ap (slice_get (before ++ v ∷ vs)) (sym len) ∙ at_front before vs v in
      go (is_offered c v) at (λ m. all-counted (before ++ v ∷ []) vs (k + 1) m later next)
    where
      go : (b : Bool) → slice_get c.variables k ≡ Some v
          → ((m : ℕ) → members_left marks m (members_of (map (member_of c) (filter (is_offered c) vs))) ≡ slots_counts c marks m (leaves_from c (k + 1) vs))
          → members_left marks n (members_of (map (member_of c) (cond b (v ∷ filter (is_offered c) vs) (filter (is_offered c) vs))))
          ≡ slots_counts c marks n (cond b (leaves_of c k v) [] ++ leaves_from c (k + 1) vs)
      go true at rest =
          ap (λ fs. fs ++ members_left marks (n + count (member_of c v)) (members_of (map (member_of c) (filter (is_offered c) vs)))) (one-left n k v at)
          ∙ ap (λ fs. slots_counts c marks n (leaves_of c k v) ++ fs) (rest (n + count (member_of c v)) ∙ ap (λ m. slots_counts c marks (n + m) (leaves_from c (k + 1) vs)) (one-long k v))
          ∙ sym (slots-append n (leaves_of c k v) (leaves_from c (k + 1) vs))
      go false at rest = rest n

pub cdf_too_large : CdfTooLarge
cdf_too_large c file_name marks =
    ap (λ rest. cond (nat_lt 16777216 (length (dds (constrained marks (dataset_of c file_name))))) (Some 0) rest)
    (first-leaf (constrained marks (dataset_of c file_name)) ∙ ap (first_large 1) (all-left marks 1 (dataset_of c file_name).members ∙ all-counted c marks [] c.variables 0 1 refl refl))
