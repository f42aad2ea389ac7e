-- What hyperslabs cut out of the nested list of an array's places is the list of the picked places.
use Rattle.std.proofs.Common.{◌≡◌, ℕ, zero, suc, ◌+◌, ◌*◌, ◌<◌, List, [], ◌∷◌, ◌++◌, length, map, All, Some, refl, sym, ap, ◌∙◌, arith, zero-add, add-zero}
use Rattle.std.specs.Prelude.{slice_get}
use Rattle.std.specs.List.{flat_map, filter_map, range_with_len, cons_option}
use Rattle.std.proofs.lemmas.List.{map-append}
use Rattle.std.proofs.lemmas.Slice.Zip.{AllZip-long}
use Rattle.dap_types.specs.declared.slabs.Slab.{Slab}
use Rattle.dap_types.specs.declared.values.Value.{Value}
use Rattle.dap_model.proofs.Cuts.{cut-array_tree, values_in-array_tree}
use Rattle.dap_model.proofs.Values.{all_first, all_rest}
use Rattle.dap_model.specs.Cutting.{indexes, flatten, cut_nested, AreWithin, IsWithin}
use Rattle.dap_model.specs.Fits.{values_in}
use Rattle.dap_model.specs.Indexing.{by_index, distance}
use Rattle.hyperslab_plan.specs.Nested.{cut_places, cut_values}
use Rattle.hyperslab_plan.specs.Picked.{picked}

pub slice_get-range : {Y : Type 0} (g : ℕ → Y) (a n i : ℕ) → i < n → slice_get (map g (range_with_len a n)) i ≡ Some (g (a + i))
slice_get-range g a zero i h = absurd (omega arith)
slice_get-range g a (suc n) zero h = ap (λ x. Some (g x)) (first a)
  where
    first : (a : ℕ) → a ≡ a + 0
    first a = omega arith
slice_get-range g a (suc n) (suc i) h = slice_get-range g (a + 1) n i (omega arith) ∙ ap (λ x. Some (g x)) (shift a i)
  where
    shift : (a i : ℕ) → a + 1 + i ≡ a + suc i
    shift a i = omega arith

module _ {Y : Type 0} (g : ℕ → Y) (n : ℕ) where
  -- the items at some indexes of a list that is made by index
  made : (is : List ℕ) → All (λ i. i < n) is → filter_map (slice_get (map g (range_with_len 0 n))) is ≡ map g is
  made [] all = refl
  made (i ∷ is) all =
      let got : slice_get (map g (range_with_len 0 n)) i ≡ Some (g (0 + i)) = slice_get-range g 0 n i (all_first (λ j. j < n) i is all) in
      ap (λ o. cons_option o (filter_map (slice_get (map g (range_with_len 0 n))) is)) (got ∙ ap (λ x. Some (g x)) (zero-add i)) ∙ ap (λ ys. g i ∷ ys) (made is (all_rest (λ j. j < n) i is all))

-- the same items, each changed by f and flattened
flat : {X Y Z : Type 0} (f : X → Y) (e : Y → List Z) (g : ℕ → X) (ks : List ℕ) → flat_map e (map f (map g ks)) ≡ flat_map (λ k. e (f (g k))) ks
flat f e g [] = refl
flat f e g (k ∷ ks) = ap (λ xs. e (f (g k)) ++ xs) (flat f e g ks)

-- items that f gives are those of g, each changed
flat-mapped : {X Y : Type 0} (at : X → Y) (f : ℕ → List Y) (g : ℕ → List X) (ks : List ℕ) → ((k : ℕ) → f k ≡ map at (g k)) → flat_map f ks ≡ map at (flat_map g ks)
flat-mapped at f g [] h = refl
flat-mapped at f g (k ∷ ks) h = ap (λ xs. xs ++ flat_map f ks) (h k) ∙ ap (λ xs. map at (g k) ++ xs) (flat-mapped at f g ks h) ∙ sym (map-append at (g k) (flat_map g ks))

-- what is cut out of what stands at each index stands at the picked places
cut-indexed : {X : Type 0} (at : ℕ → X) (f : List ℕ → X) (slabs : List Slab) (sizes steps : List ℕ) (base : ℕ) → AreWithin slabs sizes → length slabs ≡ length steps →
    ((is : List ℕ) → f is ≡ at (base + distance steps is)) →
    flatten X (length sizes) (cut_nested X (length sizes) slabs (by_index X sizes f)) ≡ map at (picked slabs steps base)
unfolding by_index picked
cut-indexed at f [] [] [] base w e h = ap (λ x. x ∷ []) (h [] ∙ ap at (add-zero base))
cut-indexed at f [] [] (t ∷ ts) base w e h = absurd (omega arith)
cut-indexed at f [] (n ∷ ns) ts base w e h = absurd w
cut-indexed at f (s ∷ ss) [] ts base w e h = absurd w
cut-indexed at f (s ∷ ss) (n ∷ ns) [] base w e h = absurd (omega arith)
cut-indexed {X} at f (s ∷ ss) (n ∷ ns) (t ∷ ts) base w e h =
    ap (λ xs. flat_map (flatten X (length ns)) (map (cut_nested X (length ns) ss) xs)) (made (λ i. by_index X ns (λ is. f (i ∷ is))) n (indexes s) w.0.1)
    ∙ flat (cut_nested X (length ns) ss) (flatten X (length ns)) (λ i. by_index X ns (λ is. f (i ∷ is))) (indexes s)
    ∙ flat-mapped at (λ i. flatten X (length ns) (cut_nested X (length ns) ss (by_index X ns (λ is. f (i ∷ is))))) (λ i. picked ss ts (base + i * t)) (indexes s)
    (λ i. cut-indexed at (λ is. f (i ∷ is)) ss ns ts (base + i * t) w.1 (omega arith) (λ is. h (i ∷ is) ∙ ap at (further base (i * t) (distance ts is))))
  where
    further : (x y z : ℕ) → x + (y + z) ≡ x + y + z
    further x y z = omega arith

map-same : (xs : List ℕ) → map (λ x. x) xs ≡ xs
map-same [] = refl
map-same (x ∷ xs) = ap (λ ys. x ∷ ys) (map-same xs)

pub cut_places-picked : (slabs : List Slab) (sizes steps : List ℕ) (base : ℕ) → AreWithin slabs sizes → length slabs ≡ length steps → cut_places slabs sizes steps base ≡ picked slabs steps base
unfolding cut_places
cut_places-picked slabs sizes steps base within e =
    cut-indexed (λ place. place) (λ indexes. base + distance steps indexes) slabs sizes steps base within e (λ is. refl) ∙ map-same (picked slabs steps base)

-- the values of the cut array are the values at the picked places
pub cut_values-picked : (slabs : List Slab) (value : ℕ → Value) (sizes steps : List ℕ) (base : ℕ) → AreWithin slabs sizes → length slabs ≡ length steps → cut_values slabs value sizes steps base ≡ map value (picked slabs steps base)
unfolding cut_values
cut_values-picked slabs value sizes steps base within e =
    let deep : length sizes ≡ length slabs = AllZip-long IsWithin slabs sizes within in
    let at : List ℕ → Value = λ indexes. value (base + distance steps indexes) in
    ap values_in (cut-array_tree (length sizes) slabs (by_index Value sizes at) (omega arith))
    ∙ values_in-array_tree (length sizes) (cut_nested Value (length sizes) slabs (by_index Value sizes at))
    ∙ cut-indexed value at slabs sizes steps base within e (λ is. refl)
