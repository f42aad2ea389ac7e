-- The sizes of an array that is cut are the counts of its hyperslabs.
use Rattle.std.proofs.Common.{◌≡◌, ℕ, zero, suc, ◌+◌, ◌*◌, ◌<◌, ◌≤◌, List, [], ◌∷◌, length, map, All, get_or, refl, ap, sym, subst, arith}
use Rattle.std.proofs.lemmas.List.Elements.{All-cons}
use Rattle.std.proofs.lemmas.List.FromFn.{length-map-range_with_len, get_or-map-range_with_len}
use Rattle.std.proofs.Math.Nat.{mul-le-mul_left}
use Rattle.std.specs.List.{AllZip, range_with_len, zip}
use Rattle.dap_types.specs.Model.{array, sizes}
use Rattle.dap_types.specs.WellFormed.{IsSized}
use Rattle.dap_types.specs.declared.declarations.ArrayDecl.{ArrayDecl}
use Rattle.dap_types.specs.declared.declarations.Dim.{Dim}
use Rattle.dap_types.specs.declared.slabs.Slab.{Slab}
use Rattle.dap_model.proofs.Values.{all_first, all_rest}
use Rattle.dap_model.specs.Cutting.{counted, IsWithin}

-- a hyperslab picks at most as many indexes as there are
few_below : (start stride count n : ℕ) → 1 ≤ stride → All (λ i. i < n) (map (λ k. start + k * stride) (range_with_len 0 count)) → count ≤ n
few_below start stride zero n up all = omega arith
few_below start stride (suc c) n up all =
    let inside : c < length (map (λ k. start + k * stride) (range_with_len 0 (suc c))) = omega (arith, length-map-range_with_len (λ k. start + k * stride) 0 (suc c)) in
    let last : get_or (map (λ k. start + k * stride) (range_with_len 0 (suc c))) c 0 ≡ start + c * stride =
    get_or-map-range_with_len (λ k. start + k * stride) 0 (suc c) c c 0 (omega arith) (omega arith) in
    let below : get_or (map (λ k. start + k * stride) (range_with_len 0 (suc c))) c 0 < n = all c 0 inside in
    let grows : c * 1 ≤ c * stride = mul-le-mul_left c up in omega (arith, last, below, grows)

pub few_picked : (s : Slab) (n : ℕ) → IsWithin s n → s.count ≤ n
few_picked s n within = few_below s.start s.stride s.count n within.0 within.1

-- the sizes of a counted array are the counts
pub counts : (dims : List Dim) (slabs : List Slab) → AllZip IsWithin slabs (map (λ dim. dim.size) dims)
    → map (λ dim. dim.size) (map (λ (p : Dim × Slab). record p.0 { size = p.1.count }) (zip dims slabs)) ≡ map (λ s. s.count) slabs
counts [] [] within = refl
counts [] (s ∷ slabs) within = absurd within
counts (d ∷ dims) [] within = absurd within
counts (d ∷ dims) (s ∷ slabs) within = ap (λ ns. s.count ∷ ns) (counts dims slabs within.1)

counted_length : (dims : List Dim) (slabs : List Slab) → AllZip IsWithin slabs (map (λ dim. dim.size) dims)
    → length (map (λ (p : Dim × Slab). record p.0 { size = p.1.count }) (zip dims slabs)) ≡ length dims
counted_length [] [] within = refl
counted_length [] (s ∷ slabs) within = absurd within
counted_length (d ∷ dims) [] within = absurd within
counted_length (d ∷ dims) (s ∷ slabs) within = ap suc (counted_length dims slabs within.1)

small_counts : (m : ℕ) (ns : List ℕ) (slabs : List Slab) → AllZip IsWithin slabs ns → All (λ n. n ≤ m) ns → All (λ n. n ≤ m) (map (λ s. s.count) slabs)
small_counts m [] [] within small = small
small_counts m [] (s ∷ slabs) within small = absurd within
small_counts m (n ∷ ns) [] within small = absurd within
small_counts m (n ∷ ns) (s ∷ slabs) within small =
    let few = few_picked s n within.0 in
    let one : n ≤ m = all_first (λ n. n ≤ m) n ns small in
    let here : s.count ≤ m = omega arith in
    All-cons (λ n. n ≤ m) s.count (map (λ s. s.count) slabs) here (small_counts m ns slabs within.1 (all_rest (λ n. n ≤ m) n ns small))

pub counted_sized : (a : ArrayDecl) (slabs : List Slab) → AllZip IsWithin slabs (sizes a) → IsSized (array a) → IsSized (array (counted slabs a))
counted_sized a slabs within sized =
    let same = counted_length a.dims slabs within in
    let small = small_counts 2147483647 (sizes a) slabs within sized.2 in (omega (arith, sized.0), omega (arith, sized.1), subst (All (λ n. n ≤ 2147483647)) (sym (counts a.dims slabs within)) small)
