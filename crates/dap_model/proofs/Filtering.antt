-- What a constraint leaves of values that fit, fits what it leaves of the dataset.
use Rattle.std.proofs.Common.{◌≡◌, ℕ, zero, suc, ◌+◌, ◌*◌, ◌<◌, List, [], ◌∷◌, length, map, filter, All, Option, Some, None, is_some, Bool, true, false, if◌then◌else◌, slice_get, refl, ap, ◌∙◌, sym, subst, arith}
use Rattle.std.proofs.lemmas.List.{length-map}
use Rattle.std.proofs.lemmas.List.Elements.{All-cons, All-nil, All-map, All-filter}
use Rattle.std.proofs.lemmas.List.FromFn.{length-map-range_with_len}
use Rattle.std.specs.List.{AllZip, cons_option, filter_map, zip}
use Rattle.std.specs.Option.{option_map_or}
use Rattle.dap_types.proofs.Views.{items-trees_of}
use Rattle.dap_types.specs.Model.{Member, scalar, array, structure, grid, sequence, Members, no_members, member, members_of, Tree, one, many, trees_of, items, kids, count, sizes, product}
use Rattle.dap_types.specs.declared.declarations.ArrayDecl.{ArrayDecl}
use Rattle.dap_types.specs.declared.declarations.BaseType.{BaseType}
use Rattle.dap_types.specs.declared.declarations.Column.{Column}
use Rattle.dap_types.specs.declared.declarations.Dim.{Dim}
use Rattle.dap_types.specs.declared.slabs.Slab.{Slab}
use Rattle.dap_model.proofs.Values.{all_first, all_rest, length-values_in}
use Rattle.dap_model.specs.Filter.{Marks, Keeps, indexes, pick, cut, counted, marked, unchanged, has_mark, stays_grid, as_grid, filtered, filtered_all, cut_tree, cut_all, IsWithin, Suits, SuitEach, SuitsMember, SuitsAll}
use Rattle.dap_model.specs.Fits.{FitsScalar, FitsArray, FitsRow, Fits, FitsAll, values_in}

module _ {X : Type 0} where
  found : (xs : List X) (k : ℕ) → k < length xs → is_some (slice_get xs k) ≡ true
  found [] k lt = absurd (omega arith)
  found (x ∷ xs) zero lt = refl
  found (x ∷ xs) (suc k) lt = found xs k (omega arith)

  one_more : (o : Option X) (ys : List X) → is_some o ≡ true → length (cons_option o ys) ≡ suc (length ys)
  one_more None ys is = cc
  one_more (Some x) ys is = refl

  -- as many items are picked as there are indexes
  pub length-picked : (xs : List X) (ks : List ℕ) → All (λ k. k < length xs) ks → length (filter_map (slice_get xs) ks) ≡ length ks
  length-picked xs [] all = refl
  length-picked xs (k ∷ ks) all =
      one_more (slice_get xs k) (filter_map (slice_get xs) ks) (found xs k (all_first (λ j. j < length xs) k ks all)) ∙ ap suc (length-picked xs ks (all_rest (λ j. j < length xs) k ks all))

  abbrev HasIt : (X → Type 0) → Option X → Type 0
  HasIt P None = Unit {0}
  HasIt P (Some x) = P x

  has_it : (P : X → Type 0) (xs : List X) (k : ℕ) → All P xs → HasIt P (slice_get xs k)
  has_it P [] k all = tt
  has_it P (x ∷ xs) zero all = all_first P x xs all
  has_it P (x ∷ xs) (suc k) all = has_it P xs k (all_rest P x xs all)

  with_it : (P : X → Type 0) (o : Option X) (ys : List X) → HasIt P o → All P ys → All P (cons_option o ys)
  with_it P None ys has all = all
  with_it P (Some x) ys has all = All-cons P x ys has all

  -- what holds of each item holds of each picked one
  pub All-picked : (P : X → Type 0) (xs : List X) (ks : List ℕ) → All P xs → All P (filter_map (slice_get xs) ks)
  All-picked P xs [] all = All-nil P
  All-picked P xs (k ∷ ks) all = with_it P (slice_get xs k) (filter_map (slice_get xs) ks) (has_it P xs k all) (All-picked P xs ks all)

pub length-pick : {X : Type 0} (s : Slab) (xs : List X) → IsWithin s (length xs) → length (pick s xs) ≡ s.count
length-pick s xs within = length-picked xs (indexes s) within.1 ∙ length-map-range_with_len (λ k. s.start + k * s.stride) 0 s.count

-- a cut tree fits the counts
pub cut_fits : (base : BaseType) (dims : List Dim) (slabs : List Slab) (t : Tree) → AllZip IsWithin slabs (map (λ dim. dim.size) dims) → FitsArray base (map (λ dim. dim.size) dims) t
    → FitsArray base (map (λ dim. dim.size) (map (λ (p : Dim × Slab). record p.0 { size = p.1.count }) (zip dims slabs))) (cut slabs t)
cut_fits base [] [] t within fit = fit
cut_fits base [] (s ∷ slabs) t within fit = absurd within
cut_fits base (d ∷ dims) [] t within fit = absurd within
cut_fits base (d ∷ dims) (s ∷ slabs) (one v) within fit = absurd fit
cut_fits base (d ∷ dims) (s ∷ slabs) (many ts) within fit =
    let P : Tree → Type 0 = FitsArray base (map (λ dim. dim.size) (map (λ (p : Dim × Slab). record p.0 { size = p.1.count }) (zip dims slabs))) in
    let cuts : List Tree = map (cut slabs) (pick s (items ts)) in
    let is = sym (items-trees_of cuts) in
    let inside : IsWithin s (length (items ts)) = subst (λ n. IsWithin s n) (sym fit.0) within.0 in (
      ap length (sym is) ∙ length-map (pick s (items ts)) (cut slabs) ∙ length-pick s (items ts) inside,
      subst (All P) is (All-map P (cut slabs) (pick s (items ts))
          (All-picked (λ u. P (cut slabs u)) (items ts) (indexes s) (λ k e lt. cut_fits base dims slabs _ within.1 (fit.1 k e lt)))),
    )

-- the values of a cut tree are as many as the product of the counts
pub length-values_in-cut : (a : ArrayDecl) (slabs : List Slab) (t : Tree) → AllZip IsWithin slabs (sizes a) → FitsArray a.base (sizes a) t
    → length (values_in (cut slabs t)) ≡ product (sizes (counted slabs a))
length-values_in-cut a slabs t within fit = length-values_in a.base (sizes (counted slabs a)) (cut slabs t) (cut_fits a.base a.dims slabs t within fit)

abbrev FitsOne : ArrayDecl → Tree → Type 0
FitsOne a t = FitsArray a.base (sizes a) t

-- the arrays of a Grid
arrays_fit : (marks : Marks) (n : ℕ) (arrays : List ArrayDecl) (ts : List Tree) → SuitEach marks n arrays → AllZip FitsOne arrays ts → AllZip FitsOne (marked counted marks n arrays) (marked cut marks n ts)
arrays_fit marks n [] [] suit fit = tt
arrays_fit marks n [] (t ∷ ts) suit fit = absurd fit
arrays_fit marks n (a ∷ arrays) [] suit fit = absurd fit
arrays_fit marks n (a ∷ arrays) (t ∷ ts) suit fit = here (marks n) suit.0 _ _ (arrays_fit marks (n + 1) arrays ts suit.1 fit.1)
  where
    here : (o : Option (List Slab)) → Suits o a → (bs : List ArrayDecl) (us : List Tree) → AllZip FitsOne bs us
        → AllZip FitsOne (option_map_or (λ slabs. counted slabs a ∷ bs) o bs) (option_map_or (λ slabs. cut slabs t ∷ us) o us)
    here None suits bs us rest = rest
    here (Some slabs) suits bs us rest = (cut_fits a.base a.dims slabs t suits fit.0, rest)

-- the cells of a row
cells_fit : (marks : Marks) (n : ℕ) (columns : List Column) (ts : List Tree) → AllZip (λ c t. FitsScalar c.base t) columns ts
    → AllZip (λ c t. FitsScalar c.base t) (marked unchanged marks n columns) (marked unchanged marks n ts)
cells_fit marks n [] [] fit = tt
cells_fit marks n [] (t ∷ ts) fit = absurd fit
cells_fit marks n (c ∷ columns) [] fit = absurd fit
cells_fit marks n (c ∷ columns) (t ∷ ts) fit = here (marks n) _ _ (cells_fit marks (n + 1) columns ts fit.1)
  where
    here : (o : Option (List Slab)) (cs : List Column) (us : List Tree) → AllZip (λ d u. FitsScalar d.base u) cs us
        → AllZip (λ d u. FitsScalar d.base u) (option_map_or (λ slabs. c ∷ cs) o cs) (option_map_or (λ slabs. t ∷ us) o us)
    here None cs us rest = rest
    here (Some slabs) cs us rest = (fit.0, rest)

array_fits : (o : Option (List Slab)) (a : ArrayDecl) (t : Tree) → Suits o a → is_some o ≡ true → FitsOne a t
    → FitsOne (counted (option_map_or (λ slabs. slabs) o []) a) (cut (option_map_or (λ slabs. slabs) o []) t)
array_fits None a t suits is fit = cc
array_fits (Some slabs) a t suits is fit = cut_fits a.base a.dims slabs t suits fit

members_fit : (arrays : List ArrayDecl) (ts : List Tree) → AllZip FitsOne arrays ts → FitsAll (members_of (map array arrays)) ts
members_fit [] [] fit = tt
members_fit [] (t ∷ ts) fit = absurd fit
members_fit (a ∷ arrays) [] fit = absurd fit
members_fit (a ∷ arrays) (t ∷ ts) fit = (fit.0, members_fit arrays ts fit.1)

grid_fits : (name : List ℕ) (arrays : List ArrayDecl) (ts : List Tree) → AllZip FitsOne arrays ts → Fits (as_grid name arrays) (many (trees_of ts))
grid_fits name [] [] fit = (tt, tt)
grid_fits name [] (t ∷ ts) fit = absurd fit
grid_fits name (a ∷ maps) ts fit = (tt, subst (AllZip FitsOne (a ∷ maps)) (sym (items-trees_of ts)) fit)

either_fits : (b : Bool) (name : List ℕ) (arrays : List ArrayDecl) (ts : List Tree) → AllZip FitsOne arrays ts
    → Fits (if b then as_grid name arrays else structure name (members_of (map array arrays))) (many (trees_of ts))
either_fits true name arrays ts fit = grid_fits name arrays ts fit
either_fits false name arrays ts fit = (tt, subst (FitsAll (members_of (map array arrays))) (sym (items-trees_of ts)) (members_fit arrays ts fit))

row_fits : (marks : Marks) (n : ℕ) (columns : List Column) (row : Tree) → FitsRow columns row → FitsRow (marked unchanged marks n columns) (many (trees_of (marked unchanged marks n (kids row))))
row_fits marks n columns row fit = (tt, subst (AllZip (λ c t. FitsScalar c.base t) (marked unchanged marks n columns)) (sym (items-trees_of (marked unchanged marks n (kids row)))) (cells_fit marks n columns (kids row) fit.1))

when_marked : (b : Bool) (m : Member) (ms : Members) (t : Tree) (ts : List Tree) → (b ≡ true → Fits m t) → FitsAll ms ts → FitsAll (if b then member m ms else ms) (if b then t ∷ ts else ts)
when_marked true m ms t ts here rest = (here refl, rest)
when_marked false m ms t ts here rest = rest

mutual
  pub filtered_fits : (marks : Marks) (keeps : Keeps) (m : Member) (n : ℕ) (t : Tree) → SuitsMember marks n m → has_mark marks n m ≡ true → Fits m t → Fits (filtered marks n m) (cut_tree marks keeps n m t)
  filtered_fits marks keeps (scalar column) n t suit is fit = fit
  filtered_fits marks keeps (array a) n t suit is fit = array_fits (marks n) a t suit is fit
  filtered_fits marks keeps (structure name parts) n t suit is fit =
      (tt, subst (FitsAll (filtered_all marks (n + 1) parts)) (sym (items-trees_of (cut_all marks keeps (n + 1) parts (kids t)))) (filtered_all_fit marks keeps parts (n + 1) (kids t) suit fit.1))
  filtered_fits marks keeps (grid name a maps) n t suit is fit =
      either_fits (stays_grid marks n) name (marked counted marks (n + 1) (a ∷ maps)) (marked cut marks (n + 1) (kids t)) (arrays_fit marks (n + 1) (a ∷ maps) (kids t) suit fit.1)
  filtered_fits marks keeps (sequence name columns) n t suit is fit =
      let row : Tree → Tree = λ r. many (trees_of (marked unchanged marks (n + 1) (kids r))) in (
        tt,
        subst (All (FitsRow (marked unchanged marks (n + 1) columns))) (sym (items-trees_of (map row (filter (keeps n) (kids t)))))
            (All-map (FitsRow (marked unchanged marks (n + 1) columns)) row (filter (keeps n) (kids t))
            (λ k e lt. row_fits marks (n + 1) columns _ (All-filter (keeps n) (FitsRow columns) (kids t) fit.1 k e lt))),
      )

  pub filtered_all_fit : (marks : Marks) (keeps : Keeps) (ms : Members) (n : ℕ) (ts : List Tree) → SuitsAll marks n ms → FitsAll ms ts → FitsAll (filtered_all marks n ms) (cut_all marks keeps n ms ts)
  filtered_all_fit marks keeps no_members n [] suit fit = tt
  filtered_all_fit marks keeps no_members n (t ∷ ts) suit fit = absurd fit
  filtered_all_fit marks keeps (member m ms) n [] suit fit = absurd fit
  filtered_all_fit marks keeps (member m ms) n (t ∷ ts) suit fit =
      when_marked (has_mark marks n m) (filtered marks n m) (filtered_all marks (n + count m) ms) (cut_tree marks keeps n m t) (cut_all marks keeps (n + count m) ms ts)
      (λ is. filtered_fits marks keeps m n t suit.0 is fit.0) (filtered_all_fit marks keeps ms (n + count m) ts suit.1 fit.1)
