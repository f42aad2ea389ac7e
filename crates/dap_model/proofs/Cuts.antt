-- The values of an array's tree, cut and not, as a nested list.
use Rattle.std.proofs.Common.{◌≡◌, ℕ, zero, suc, ◌≤◌, List, [], ◌∷◌, ◌++◌, length, map, All, slice_get, refl, ap, ◌∙◌, sym, arith}
use Rattle.std.specs.List.{cons_option, filter_map, flat_map}
use Rattle.dap_types.proofs.Views.{items-trees_of}
use Rattle.dap_types.specs.Model.{Tree, one, many, trees_of, items, kids}
use Rattle.dap_types.specs.declared.declarations.BaseType.{BaseType}
use Rattle.dap_types.specs.declared.slabs.Slab.{Slab}
use Rattle.dap_types.specs.declared.values.Value.{Value}
use Rattle.dap_model.proofs.Values.{all_first, all_rest}
use Rattle.dap_model.proofs.Whole.{trees_of-items}
use Rattle.dap_model.specs.Cutting.{indexes, pick, cut, Nested, flatten, cut_nested, array_tree}
use Rattle.dap_model.specs.Fits.{FitsArray, values_in, values_in_all}

module _ {X Y : Type 0} (f : X → Y) where
  got : (xs : List X) (k : ℕ) (ys : List X) → cons_option (slice_get (map f xs) k) (map f ys) ≡ map f (cons_option (slice_get xs k) ys)
  got [] k ys = refl
  got (x ∷ xs) zero ys = refl
  got (x ∷ xs) (suc k) ys = got xs k ys

  picked-map : (xs : List X) (ks : List ℕ) → filter_map (slice_get (map f xs)) ks ≡ map f (filter_map (slice_get xs) ks)
  picked-map xs [] = refl
  picked-map xs (k ∷ ks) = ap (cons_option (slice_get (map f xs) k)) (picked-map xs ks) ∙ got xs k (filter_map (slice_get xs) ks)

  -- what is picked of mapped items are the picked items, mapped
  pub pick-map : (s : Slab) (xs : List X) → pick s (map f xs) ≡ map f (pick s xs)
  pick-map s xs = picked-map xs (indexes s)

map-map : {X Y Z : Type 0} (g : Y → Z) (f : X → Y) (h : X → Z) → ((x : X) → g (f x) ≡ h x) → (xs : List X) → map g (map f xs) ≡ map h xs
map-map g f h same [] = refl
map-map g f h same (x ∷ xs) = ap (λ z. z ∷ map g (map f xs)) (same x) ∙ ap (λ zs. h x ∷ zs) (map-map g f h same xs)

flat_map-map : {X Y Z : Type 0} (g : Y → List Z) (f : X → Y) (h : X → List Z) → ((x : X) → g (f x) ≡ h x) → (xs : List X) → flat_map g (map f xs) ≡ flat_map h xs
flat_map-map g f h same [] = refl
flat_map-map g f h same (x ∷ xs) = ap (λ z. z ++ flat_map g (map f xs)) (same x) ∙ ap (λ zs. h x ++ zs) (flat_map-map g f h same xs)

-- the cut of an array's tree is the tree of the cut nested list
pub cut-array_tree : (r : ℕ) (slabs : List Slab) (vs : Nested Value r) → length slabs ≤ r → cut slabs (array_tree r vs) ≡ array_tree r (cut_nested Value r slabs vs)
cut-array_tree r [] vs few = refl
cut-array_tree zero (s ∷ slabs) v few = absurd (omega arith)
cut-array_tree (suc r) (s ∷ slabs) vs few =
    ap (λ us. many (trees_of (map (cut slabs) (pick s us)))) (items-trees_of (map (array_tree r) vs))
    ∙ ap (λ us. many (trees_of (map (cut slabs) us))) (pick-map (array_tree r) s vs)
    ∙ ap (λ us. many (trees_of us))
    (map-map (cut slabs) (array_tree r) (λ v. array_tree r (cut_nested Value r slabs v)) (λ v. cut-array_tree r slabs v (omega arith)) (pick s vs)
    ∙ sym (map-map (array_tree r) (cut_nested Value r slabs) (λ v. array_tree r (cut_nested Value r slabs v)) (λ v. refl) (pick s vs)))

values_in_all-of : (ts : List Tree) → values_in_all (trees_of ts) ≡ flat_map values_in ts
values_in_all-of [] = refl
values_in_all-of (t ∷ ts) = ap (λ vs. values_in t ++ vs) (values_in_all-of ts)

-- its values in row-major order are the flattened nested list
pub values_in-array_tree : (r : ℕ) (vs : Nested Value r) → values_in (array_tree r vs) ≡ flatten Value r vs
values_in-array_tree zero v = refl
values_in-array_tree (suc r) vs = values_in_all-of (map (array_tree r) vs) ∙ flat_map-map values_in (array_tree r) (flatten Value r) (values_in-array_tree r) vs

-- dimension by dimension
pub values_in-cut : (s : Slab) (slabs : List Slab) (t : Tree) → values_in (cut (s ∷ slabs) t) ≡ flat_map (λ u. values_in (cut slabs u)) (pick s (kids t))
values_in-cut s slabs t = values_in_all-of (map (cut slabs) (pick s (kids t))) ∙ flat_map-map values_in (cut slabs) (λ u. values_in (cut slabs u)) (λ u. refl) (pick s (kids t))

-- the tree is that of a nested list
pub record IsNested (r : ℕ) (t : Tree) : Type 0 where
  pub values : Nested Value r
  pub is : t ≡ array_tree r values

nest : (r : ℕ) (ts : List Tree) → All (IsNested r) ts → (vs : List (Nested Value r)) × (ts ≡ map (array_tree r) vs)
nest r [] all = ([], refl)
nest r (t ∷ ts) all =
    let here = all_first (IsNested r) t ts all in
    let rest = nest r ts (all_rest (IsNested r) t ts all) in (here.values ∷ rest.0, ap (λ u. u ∷ ts) here.is ∙ ap (λ us. array_tree r here.values ∷ us) rest.1)

-- every tree that fits an array is
pub nested_from_fits : (base : BaseType) (ns : List ℕ) (t : Tree) → FitsArray base ns t → IsNested (length ns) t
nested_from_fits base [] (one v) fit = record { values = v; is = refl }
nested_from_fits base [] (many ts) fit = absurd fit
nested_from_fits base (n ∷ ns) (one v) fit = absurd fit
nested_from_fits base (n ∷ ns) (many ts) fit =
    let rest = nest (length ns) (items ts) (λ k d lt. nested_from_fits base ns _ (fit.1 k d lt)) in
    record { values = rest.0; is = ap many (sym (trees_of-items ts)) ∙ ap (λ us. many (trees_of us)) rest.1 }
