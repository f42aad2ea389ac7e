-- Marks that suit the dataset of a file suit its leaves by number.
use Rattle.std.proofs.Common.{◌≡◌, ℕ, zero, suc, ◌+◌, ◌-◌, ◌<◌, Bool, true, false, cond, eqb, List, [], ◌∷◌, ◌++◌, length, map, filter, get_or, Option, Some, None, refl, sym, ap, ◌∙◌, subst, arith, append_assoc, length-append}
use Rattle.std.proofs.lemmas.Bool.{eqb-true, eqb-false}
use Rattle.std.specs.List.{list_all, cons_option}
use Rattle.std.specs.Prelude.{is_some, option_and_then, slice_get}
use Rattle.plain_lemmas.proofs.Truths.{both_true}
use Rattle.dap_types.specs.Model.{scalar, array, grid, members_of, count, sizes}
use Rattle.dap_types.specs.Names.{file_id}
use Rattle.dap_types.specs.declared.slabs.Slab.{Slab}
use Rattle.dap_model.specs.Cutting.{AreWithin}
use Rattle.dap_model.specs.Filter.{Marks, Suits, SuitEach, SuitsMember, SuitsAll}
use Rattle.netcdf_source.proofs.GridMaps.{coordinate_found, grid_array, maps_are, at_front}
use Rattle.netcdf_source.specs.Layouts.{element_sizes}
use Rattle.netcdf_source.specs.Mapping.{element_dimensions, size_at, dim_of, is_empty, is_offered, is_grid, coordinate_at, column_of, array_of, maps_of, member_of, dataset_of, leaves_of, leaves_from, leaf_in, leaf_variable}
use Rattle.netcdf_source.specs.Values.{map_variables}
use Rattle.netcdf_source.specs.declared.header.Contents.{Contents}
use Rattle.netcdf_source.specs.declared.header.Variable.{Variable}
use Rattle.xdr_encode.proofs.CdfSending.{one-count}
use Rattle.xdr_encode.specs.Costs.{own_slabs}
use Rattle.xdr_encode.specs.Wanted.{AreSuited}

-- the slot of member k + 1
at-slot : (xs : List (Option ℕ)) (k : ℕ) → k < length xs → option_and_then (λ leaf. leaf) (slice_get xs k) ≡ get_or xs k None
at-slot [] k lt = absurd (omega arith)
at-slot (x ∷ xs) zero lt = refl
at-slot (x ∷ xs) (suc k) lt = at-slot xs k (omega arith)

pub leaf-at : (c : Contents) (k : ℕ) → k < length (leaves_from c 0 c.variables) → leaf_variable c (k + 1) ≡ option_and_then (slice_get c.variables) (get_or (leaves_from c 0 c.variables) k None)
unfolding leaf_variable
leaf-at c k lt = ap (option_and_then (slice_get c.variables)) (nth (leaves_from c 0 c.variables) k lt)
  where
    nth : (xs : List (Option ℕ)) (k : ℕ) → k < length xs → leaf_in xs (k + 1) ≡ get_or xs k None
    nth xs k lt = go (eqb (k + 1) 0) refl
      where
        back : (k : ℕ) → k + 1 - 1 ≡ k
        back k = omega arith

        go : (b : Bool) → eqb (k + 1) 0 ≡ b → cond b None (option_and_then (λ leaf. leaf) (slice_get xs (k + 1 - 1))) ≡ get_or xs k None
        go true e = absurd (omega (arith, eqb-true (k + 1) 0 e))
        go false e = ap (λ i. option_and_then (λ leaf. leaf) (slice_get xs i)) (back k) ∙ at-slot xs k lt

module _ (c : Contents) (marks : Marks) where
  abbrev VariableSuits : ℕ → Variable → Type 0
  VariableSuits n v = (slabs : List Slab) → marks n ≡ Some slabs → AreWithin (own_slabs c v slabs) (element_sizes c v)

  abbrev SlotSuits : ℕ → Option ℕ → Type 0
  SlotSuits n slot = (v : Variable) → option_and_then (slice_get c.variables) slot ≡ Some v → VariableSuits n v

  abbrev SlotsSuit : ℕ → List (Option ℕ) → Type 0
  SlotsSuit n [] = Unit {0}
  SlotsSuit n (slot ∷ slots) = SlotSuits n slot × SlotsSuit (n + 1) slots

  no-sizes : (ids : List ℕ) → eqb (length ids) 0 ≡ true → AreWithin [] (map (size_at c) ids)
  no-sizes [] e = tt
  no-sizes (i ∷ ids) e = absurd (omega (arith, eqb-true (length (i ∷ ids)) 0 e))

  sizes-are : (ids : List ℕ) → map (λ d. d.size) (map (dim_of c) ids) ≡ map (size_at c) ids
  sizes-are [] = refl
  sizes-are (i ∷ ids) = ap (λ ns. size_at c i ∷ ns) (sizes-are ids)

  of-array : (n : ℕ) (v : Variable) → Suits (marks n) (array_of c v) → VariableSuits n v
  of-array n v suits slabs e = go (is_empty (element_dimensions c v)) refl
    where
      picked : AreWithin slabs (sizes (array_of c v))
      picked = subst (λ o. Suits o (array_of c v)) e suits

      go : (b : Bool) → is_empty (element_dimensions c v) ≡ b → AreWithin (cond b [] slabs) (element_sizes c v)
      go true e = no-sizes (element_dimensions c v) e
      go false e = subst (AreWithin slabs) (sizes-are (element_dimensions c v)) picked

  of-scalar : (n : ℕ) (v : Variable) → is_empty (element_dimensions c v) ≡ true → VariableSuits n v
  of-scalar n v e slabs marked = subst (λ b. AreWithin (cond b [] slabs) (element_sizes c v)) (sym e) (no-sizes (element_dimensions c v) e)

  of-slot : (n k : ℕ) (v : Variable) → slice_get c.variables k ≡ Some v → VariableSuits n v → SlotSuits n (Some k)
  of-slot n k v at suits w is = subst (VariableSuits n) (some_is v w (sym at ∙ is)) suits
    where
      some_is : (x y : Variable) → Path (Option Variable) (Some x) (Some y) → x ≡ y
      some_is x y q = cc

  no-slot : (n : ℕ) → SlotSuits n None
  no-slot n w is = absurd cc

  slots-append : (n : ℕ) (xs ys : List (Option ℕ)) → SlotsSuit n xs → SlotsSuit (n + length xs) ys → SlotsSuit n (xs ++ ys)
  slots-append n [] ys h k = subst (λ m. SlotsSuit m ys) (back n) k
    where
      back : (n : ℕ) → n + 0 ≡ n
      back n = omega arith
  slots-append n (x ∷ xs) ys h k = (h.0, slots-append (n + 1) xs ys h.1 (subst (λ m. SlotsSuit m ys) (along n (length xs)) k))
    where
      along : (n m : ℕ) → n + suc m ≡ n + 1 + m
      along n m = omega arith

  of-maps : (n : ℕ) (ids : List ℕ) → list_all (λ i. is_some (coordinate_at c i)) ids ≡ true → SuitEach marks n (map (array_of c) (map_variables c ids)) → SlotsSuit n (map (coordinate_at c) ids)
  of-maps n [] e suits = tt
  of-maps n (i ∷ ids) e suits =
      let both = both_true (is_some (coordinate_at c i)) (list_all (λ j. is_some (coordinate_at c j)) ids) e in
      let f = coordinate_found c i both.0 in
      let here : SuitEach marks n (array_of c f.0 ∷ map (array_of c) (map_variables c ids))
      = subst (λ o. SuitEach marks n (map (array_of c) (cons_option o (map_variables c ids)))) f.1 suits in
      (λ v is. subst (VariableSuits n) (some_is f.0 v (sym f.1 ∙ is)) (of-array n f.0 here.0), of-maps (n + 1) ids both.1 here.1)
    where
      some_is : (x y : Variable) → Path (Option Variable) (Some x) (Some y) → x ≡ y
      some_is x y q = cc

  of-member : (n k : ℕ) (v : Variable) → slice_get c.variables k ≡ Some v → SuitsMember marks n (member_of c v) → SlotsSuit n (leaves_of c k v)
  unfolding member_of
  of-member n k v at suits = go (is_grid c v) refl suits
    where
      plain : (b : Bool) → is_empty (element_dimensions c v) ≡ b → SuitsMember marks n (cond b (scalar (column_of v)) (array (array_of c v))) → SlotsSuit n (Some k ∷ [])
      plain true e s = (of-slot n k v at (of-scalar n v e), tt)
      plain false e s = (of-slot n k v at (of-array n v s), tt)

      go : (b : Bool) → is_grid c v ≡ b →
          SuitsMember marks n (cond (is_empty (element_dimensions c v)) (scalar (column_of v)) (cond b (grid (file_id v.name) (array_of c v) (maps_of c v.dimensions)) (array (array_of c v))))
          → SlotsSuit n (cond b (None ∷ Some k ∷ map (coordinate_at c) v.dimensions) (Some k ∷ []))
      go true e s =
          let g = grid_array c v e in
          let some : is_empty (element_dimensions c v) ≡ false = ap is_empty g.whole ∙ g.some in
          let each : SuitEach marks (n + 1) (array_of c v ∷ maps_of c v.dimensions)
          = subst (λ b. SuitsMember marks n (cond b (scalar (column_of v)) (grid (file_id v.name) (array_of c v) (maps_of c v.dimensions)))) some s in
          (no-slot n, (of-slot (n + 1) k v at (of-array (n + 1) v each.0), of-maps (n + 1 + 1) v.dimensions g.coordinates (subst (SuitEach marks (n + 1 + 1)) (maps_are c v.dimensions) each.1)))
      go false e s = plain (is_empty (element_dimensions c v)) refl s

  of-all : (before vs : List Variable) (k n : ℕ) → c.variables ≡ before ++ vs → length before ≡ k
      → SuitsAll marks n (members_of (map (member_of c) (filter (is_offered c) vs))) → SlotsSuit n (leaves_from c k vs)
  unfolding leaves_from
  of-all before [] k n whole len suits = tt
  of-all before (v ∷ vs) k n whole len suits =
      let later : c.variables ≡ (before ++ v ∷ []) ++ vs = whole ∙ sym (append_assoc before (v ∷ []) vs) in
      let next : length (before ++ v ∷ []) ≡ k + 1 = omega (arith, len, length-append before (v ∷ [])) in
      let at : slice_get c.variables k ≡ Some v = ap (λ xs. slice_get xs k) whole ∙ ap (slice_get (before ++ v ∷ vs)) (sym len) ∙ at_front before vs v in
      go (is_offered c v) at (λ m. of-all (before ++ v ∷ []) vs (k + 1) m later next) suits
    where
      go : (b : Bool) → slice_get c.variables k ≡ Some v
          → ((m : ℕ) → SuitsAll marks m (members_of (map (member_of c) (filter (is_offered c) vs))) → SlotsSuit m (leaves_from c (k + 1) vs))
          → SuitsAll marks n (members_of (map (member_of c) (cond b (v ∷ filter (is_offered c) vs) (filter (is_offered c) vs))))
          → SlotsSuit n (cond b (leaves_of c k v) [] ++ leaves_from c (k + 1) vs)
      go true at rest s =
          slots-append n (leaves_of c k v) (leaves_from c (k + 1) vs) (of-member n k v at s.0)
          (subst (λ m. SlotsSuit (n + m) (leaves_from c (k + 1) vs)) (one-count c [] marks (λ n row. true) k v) (rest (n + count (member_of c v)) s.1))
      go false at rest s = rest n s

  slot-in : (n : ℕ) (xs : List (Option ℕ)) (i : ℕ) → SlotsSuit n xs → SlotSuits (n + i) (option_and_then (λ leaf. leaf) (slice_get xs i))
  slot-in n [] i h = no-slot (n + i)
  slot-in n (x ∷ xs) zero h = subst (λ m. SlotSuits m x) (back n) h.0
    where
      back : (n : ℕ) → n ≡ n + 0
      back n = omega arith
  slot-in n (x ∷ xs) (suc i) h = subst (λ m. SlotSuits m (option_and_then (λ leaf. leaf) (slice_get xs i))) (along n i) (slot-in (n + 1) xs i h.1)
    where
      along : (n m : ℕ) → n + 1 + m ≡ n + suc m
      along n m = omega arith

pub are_suited : (c : Contents) (file_name : List ℕ) (marks : Marks) → SuitsAll marks 1 (dataset_of c file_name).members → AreSuited c marks
unfolding AreSuited leaf_variable
are_suited c file_name marks suits n v slabs is marked = go (eqb n 0) refl is
  where
    all : SlotsSuit c marks 1 (leaves_from c 0 c.variables)
    all = of-all c marks [] c.variables 0 1 refl refl suits

    go : (b : Bool) → eqb n 0 ≡ b → option_and_then (slice_get c.variables) (cond b None (option_and_then (λ leaf. leaf) (slice_get (leaves_from c 0 c.variables) (n - 1)))) ≡ Some v → AreWithin (own_slabs c v slabs) (element_sizes c v)
    go true e q = absurd cc
    go false e q =
        let number : 1 + (n - 1) ≡ n = omega (arith, eqb-false n 0 e) in
        slot-in c marks 1 (leaves_from c 0 c.variables) (n - 1) all v q slabs (subst (λ m. marks m ≡ Some slabs) (sym number) marked)
