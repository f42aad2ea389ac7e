-- A constraint that picks everything changes nothing.
use Rattle.std.proofs.Common.{◌≡◌, ℕ, zero, suc, ◌+◌, ◌*◌, ◌<◌, List, [], ◌∷◌, length, map, filter, drop, get_or, All, Some, true, ◌&&◌, ◌++◌, nat_lt, is_some, Option, ⊎_elim, slice_get, refl, ap, ◌∙◌, sym, arith, add-one, drop-cons}
use Rattle.std.proofs.lemmas.Bool.{false≢true, or_right, or_left}
use Rattle.std.proofs.lemmas.Cmp.{lists_equiv}
use Rattle.std.proofs.lemmas.Option.{slice_get-get_or}
use Rattle.std.proofs.lemmas.List.{drop_all}
use Rattle.std.proofs.lemmas.Slice.Zip.{AllZip-long}
use Rattle.std.specs.Cmp.{nat_eq_equiv}
use Rattle.std.specs.Cmp.Lexicographic.{pointwise}
use Rattle.std.specs.List.{AllZip, cons_option, filter_map, range_with_len, zip}
use Rattle.std.specs.Option.{option_map_or}
use Rattle.plain_lemmas.proofs.Truths.{both_true}
use Rattle.dap_types.specs.Model.{Member, scalar, array, structure, grid, sequence, Members, no_members, member, members_of, Tree, one, many, Trees, no_trees, tree, trees_of, items, kids, name_of, count, sizes}
use Rattle.dap_types.specs.WellFormed.{HasMaps, Place, place, places, part_places}
use Rattle.dap_types.specs.declared.declarations.ArrayDecl.{ArrayDecl}
use Rattle.dap_types.specs.declared.declarations.BaseType.{BaseType}
use Rattle.dap_types.specs.declared.declarations.Column.{Column}
use Rattle.dap_types.specs.declared.declarations.Dim.{Dim}
use Rattle.dap_types.specs.declared.slabs.Slab.{Slab}
use Rattle.dap_model.proofs.Tests.{either_true, when_true}
use Rattle.dap_model.proofs.Values.{all_first, all_rest, all_front, all_back}
use Rattle.dap_model.specs.Cutting.{indexes, pick, cut, counted, whole_slabs}
use Rattle.dap_model.specs.Filter.{Marks, Keeps, slabs_at, picks, all_pick, same_numbers, one_marked, any_has_mark, has_leaf, any_has_leaf, leaves_everywhere, all_leaves_everywhere, marked, unchanged, has_mark, stays_grid, as_grid, filtered, filtered_all, cut_tree, cut_all, WholeEach, ScalarsMarked, MarksWhole, MarksAllWhole}
use Rattle.dap_model.specs.Fits.{FitsArray, FitsScalar, FitsRow, Fits, FitsAll, IsMany}

pub trees_of-items : (ts : Trees) → trees_of (items ts) ≡ ts
trees_of-items no_trees = refl
trees_of-items (tree t ts) = ap (tree t) (trees_of-items ts)

-- n items from the i-th on
picked_from : {X : Type 0} (x : X) (xs : List X) (n i : ℕ) → i + n ≡ length xs → filter_map (slice_get xs) (map (λ k. 0 + k * 1) (range_with_len i n)) ≡ drop i xs
picked_from x xs zero i is = sym (drop_all i xs (omega arith))
picked_from x xs (suc n) i is =
    let at : 0 + i * 1 ≡ i = omega arith in
    let lt : i < length xs = omega arith in
    let here : slice_get xs (0 + i * 1) ≡ Some (get_or xs i x) = ap (slice_get xs) at ∙ slice_get-get_or xs i x lt in
    ap (λ o. cons_option o (filter_map (slice_get xs) (map (λ k. 0 + k * 1) (range_with_len (i + 1) n)))) here
    ∙ ap (λ ys. get_or xs i x ∷ ys) (picked_from x xs n (i + 1) (omega arith)) ∙ ap (λ j. get_or xs i x ∷ drop j xs) (add-one i) ∙ sym (drop-cons xs i x lt)

pub pick_whole : {X : Type 0} (xs : List X) (n : ℕ) → n ≡ length xs → pick (record { start = 0; stride = 1; count = n }) xs ≡ xs
pick_whole [] zero is = refl
pick_whole [] (suc n) is = absurd (omega arith)
pick_whole (x ∷ xs) n is = picked_from x (x ∷ xs) n 0 (omega arith)

map_same : (f : Tree → Tree) (ts : List Tree) → All (λ t. f t ≡ t) ts → map f ts ≡ ts
map_same f [] all = refl
map_same f (t ∷ ts) all = ap (λ u. u ∷ map f ts) (all_first (λ u. f u ≡ u) t ts all) ∙ ap (λ us. t ∷ us) (map_same f ts (all_rest (λ u. f u ≡ u) t ts all))

-- a tree that is cut whole is as before
pub cut_whole : (base : BaseType) (ns : List ℕ) (t : Tree) → FitsArray base ns t → cut (whole_slabs ns) t ≡ t
cut_whole base [] t fit = refl
cut_whole base (n ∷ ns) (one v) fit = absurd fit
cut_whole base (n ∷ ns) (many ts) fit =
    ap (λ us. many (trees_of (map (cut (whole_slabs ns)) us))) (pick_whole (items ts) n (sym fit.0))
    ∙ ap (λ us. many (trees_of us)) (map_same (cut (whole_slabs ns)) (items ts) (λ k d lt. cut_whole base ns _ (fit.1 k d lt))) ∙ ap many (trees_of-items ts)

counted_dims : (dims : List Dim) → map (λ (p : Dim × Slab). record p.0 { size = p.1.count }) (zip dims (whole_slabs (map (λ dim. dim.size) dims))) ≡ dims
counted_dims [] = refl
counted_dims (d ∷ dims) = ap (λ ds. d ∷ ds) (counted_dims dims)

-- and so are its sizes
pub counted_whole : (a : ArrayDecl) → counted (whole_slabs (sizes a)) a ≡ a
counted_whole a = ap (λ ds. record a { dims = ds }) (counted_dims a.dims)

pub arrays_whole : (marks : Marks) (n : ℕ) (arrays : List ArrayDecl) → WholeEach marks n arrays → marked counted marks n arrays ≡ arrays
arrays_whole marks n [] all = refl
arrays_whole marks n (a ∷ arrays) all =
    ap (λ o. option_map_or (λ slabs. counted slabs a ∷ marked counted marks (n + 1) arrays) o (marked counted marks (n + 1) arrays)) all.0
    ∙ ap (λ b. b ∷ marked counted marks (n + 1) arrays) (counted_whole a) ∙ ap (λ bs. a ∷ bs) (arrays_whole marks (n + 1) arrays all.1)

pub trees_whole : (marks : Marks) (n : ℕ) (arrays : List ArrayDecl) (ts : List Tree) → WholeEach marks n arrays → AllZip (λ a t. FitsArray a.base (sizes a) t) arrays ts → marked cut marks n ts ≡ ts
trees_whole marks n [] [] all fit = refl
trees_whole marks n [] (t ∷ ts) all fit = absurd fit
trees_whole marks n (a ∷ arrays) [] all fit = absurd fit
trees_whole marks n (a ∷ arrays) (t ∷ ts) all fit =
    ap (λ o. option_map_or (λ slabs. cut slabs t ∷ marked cut marks (n + 1) ts) o (marked cut marks (n + 1) ts)) all.0
    ∙ ap (λ u. u ∷ marked cut marks (n + 1) ts) (cut_whole a.base (sizes a) t fit.0) ∙ ap (λ us. t ∷ us) (trees_whole marks (n + 1) arrays ts all.1 fit.1)

cells_whole : {X : Type 0} (marks : Marks) (n : ℕ) (xs : List X) (k : ℕ) → k ≡ length xs → ScalarsMarked marks n k → marked unchanged marks n xs ≡ xs
cells_whole marks n [] k is all = refl
cells_whole marks n (x ∷ xs) zero is all = absurd (omega arith)
cells_whole marks n (x ∷ xs) (suc k) is all =
    ap (λ o. option_map_or (λ slabs. x ∷ marked unchanged marks (n + 1) xs) o (marked unchanged marks (n + 1) xs)) all.0 ∙ ap (λ ys. x ∷ ys) (cells_whole marks (n + 1) xs k (omega arith) all.1)

abbrev every_row : Keeps
every_row n row = true

all_kept : (ts : List Tree) → filter (λ t. true) ts ≡ ts
all_kept [] = refl
all_kept (t ∷ ts) = ap (λ us. t ∷ us) (all_kept ts)

row_whole : (marks : Marks) (n : ℕ) (columns : List Column) (row : Tree) → ScalarsMarked marks n (length columns) → FitsRow columns row → many (trees_of (marked unchanged marks n (kids row))) ≡ row
row_whole marks n columns (one v) all fit = absurd fit.0
row_whole marks n columns (many ts) all fit =
    ap (λ us. many (trees_of us)) (cells_whole marks n (items ts) (length columns) (length_all_zip' columns (items ts) fit.1) all) ∙ ap many (trees_of-items ts)
  where
    length_all_zip' : (cs : List Column) (us : List Tree) → AllZip (λ c t. FitsScalar c.base t) cs us → length cs ≡ length us
    length_all_zip' cs us fits = sym (AllZip-long (λ c t. FitsScalar c.base t) cs us fits)

pub as_many : (t : Tree) → IsMany t → many (trees_of (kids t)) ≡ t
as_many (one v) is = absurd is
as_many (many ts) is = ap many (trees_of-items ts)

-- what is left where every leaf is marked
marks_some : (o : Option (List Slab)) (slabs : List Slab) → o ≡ Some slabs → is_some o ≡ true
marks_some o slabs is = rw is

first_marked : (marks : Marks) (n k : ℕ) (slabs : List Slab) → marks n ≡ Some slabs → one_marked marks n (k + 1) ≡ true
first_marked marks n k slabs is = rw add-one (or_left (is_some (marks n)) (one_marked marks (n + 1) k) (marks_some (marks n) slabs is))

scalars_marked : (marks : Marks) (n k : ℕ) → nat_lt 0 k ≡ true → ScalarsMarked marks n k → one_marked marks n k ≡ true
scalars_marked marks n zero some all = absurd (false≢true some)
scalars_marked marks n (suc k) some all = or_left (is_some (marks n)) (one_marked marks (n + 1) k) (marks_some (marks n) [] all.0)

mutual
  marked_with_leaf : (marks : Marks) (m : Member) (n : ℕ) → has_leaf m ≡ true → MarksWhole marks n m → has_mark marks n m ≡ true
  marked_with_leaf marks (scalar column) n leaf whole = marks_some (marks n) [] whole
  marked_with_leaf marks (array a) n leaf whole = marks_some (marks n) (whole_slabs (sizes a)) whole
  marked_with_leaf marks (structure name parts) n leaf whole = any_marked_with_leaf marks parts (n + 1) leaf whole
  marked_with_leaf marks (grid name a maps) n leaf whole = first_marked marks (n + 1) (length maps) (whole_slabs (sizes a)) whole.0
  marked_with_leaf marks (sequence name columns) n leaf whole = scalars_marked marks (n + 1) (length columns) leaf whole

  any_marked_with_leaf : (marks : Marks) (ms : Members) (n : ℕ) → any_has_leaf ms ≡ true → MarksAllWhole marks n ms → any_has_mark marks n ms ≡ true
  any_marked_with_leaf marks no_members n leaf whole = absurd (false≢true leaf)
  any_marked_with_leaf marks (member m ms) n leaf whole =
      ⊎_elim
      (λ here. or_left (has_mark marks n m) (any_has_mark marks (n + count m) ms) (marked_with_leaf marks m n here whole.0))
      (λ later. or_right (has_mark marks n m) (any_has_mark marks (n + count m) ms) (any_marked_with_leaf marks ms (n + count m) later whole.1))
      (either_true (has_leaf m) (any_has_leaf ms) leaf)

-- a variable with leaves everywhere has one
has_one : (m : Member) → leaves_everywhere m ≡ true → has_leaf m ≡ true
has_one (scalar column) leaves = refl
has_one (array a) leaves = refl
has_one (structure name parts) leaves = (both_true (any_has_leaf parts) (all_leaves_everywhere parts) leaves).0
has_one (grid name a maps) leaves = refl
has_one (sequence name columns) leaves = leaves

parts_leaves : (name : List ℕ) (parts : Members) → leaves_everywhere (structure name parts) ≡ true → all_leaves_everywhere parts ≡ true
parts_leaves name parts leaves = (both_true (any_has_leaf parts) (all_leaves_everywhere parts) leaves).1

-- the maps of a Grid pick what its array picks
pub same_itself : (ns : List ℕ) → same_numbers ns ns ≡ true
same_itself ns = (lists_equiv nat_eq_equiv).refl ns

map_picks : (marks : Marks) (n k : ℕ) (m : ArrayDecl) → marks n ≡ Some (whole_slabs (sizes m)) → sizes m ≡ k ∷ []
    → picks marks n (indexes (record { start = 0; stride = 1; count = k })) ≡ true
map_picks marks n k m is size =
    let here : slabs_at marks n ≡ whole_slabs (k ∷ []) = ap (λ o. option_map_or (λ slabs. slabs) o []) is ∙ ap whole_slabs size in
    let ks : List ℕ = indexes (record { start = 0; stride = 1; count = k }) in
    ap (λ slabs. pointwise same_numbers (map indexes slabs) (ks ∷ [])) here ∙ ap (λ b. b && true) (same_itself ks)

maps_pick : (marks : Marks) (n : ℕ) (maps : List ArrayDecl) (ns : List ℕ) → WholeEach marks n maps → AllZip (λ m k. sizes m ≡ k ∷ []) maps ns → all_pick marks n (whole_slabs ns) ≡ true
maps_pick marks n [] [] whole mapped = refl
maps_pick marks n [] (k ∷ ns) whole mapped = absurd mapped
maps_pick marks n (m ∷ maps) [] whole mapped = absurd mapped
maps_pick marks n (m ∷ maps) (k ∷ ns) whole mapped =
    ap (λ b. b && all_pick marks (n + 1) (whole_slabs ns)) (map_picks marks n k m whole.0 mapped.0) ∙ maps_pick marks (n + 1) maps ns whole.1 mapped.1

grid_stays : (marks : Marks) (n : ℕ) (a : ArrayDecl) (maps : List ArrayDecl) → WholeEach marks (n + 1) (a ∷ maps) → AllZip (λ m k. sizes m ≡ k ∷ []) maps (sizes a) → stays_grid marks n ≡ true
grid_stays marks n a maps whole mapped =
    let later : n + 1 + 1 ≡ n + 2 = omega arith in
    let picked : all_pick marks (n + 2) (whole_slabs (sizes a)) ≡ true = ap (λ k. all_pick marks k (whole_slabs (sizes a))) (sym later) ∙ maps_pick marks (n + 1 + 1) maps (sizes a) whole.1 mapped in
    ap (λ o. is_some o && all_pick marks (n + 2) (option_map_or (λ slabs. slabs) o [])) whole.0 ∙ picked

abbrev Mapped : Place → Type 0
Mapped p = HasMaps p.variable

mutual
  pub filtered_whole : (marks : Marks) (m : Member) (n depth : ℕ) → HasMaps m → All Mapped (part_places depth m) → leaves_everywhere m ≡ true → MarksWhole marks n m → filtered marks n m ≡ m
  filtered_whole marks (scalar column) n depth mapped all leaves whole = refl
  filtered_whole marks (array a) n depth mapped all leaves whole = ap (λ o. array (counted (option_map_or (λ slabs. slabs) o []) a)) whole ∙ ap array (counted_whole a)
  filtered_whole marks (structure name parts) n depth mapped all leaves whole =
      ap (structure name) (filtered_all_whole marks parts (n + 1) depth [] all (parts_leaves name parts leaves) whole)
  filtered_whole marks (grid name a maps) n depth mapped all leaves whole =
      when_true (stays_grid marks n) (as_grid name (marked counted marks (n + 1) (a ∷ maps))) (structure name (members_of (map array (marked counted marks (n + 1) (a ∷ maps))))) (grid_stays marks n a maps whole mapped)
      ∙ ap (as_grid name) (arrays_whole marks (n + 1) (a ∷ maps) whole)
  filtered_whole marks (sequence name columns) n depth mapped all leaves whole = ap (sequence name) (cells_whole marks (n + 1) columns (length columns) refl whole)

  pub filtered_all_whole : (marks : Marks) (ms : Members) (n depth : ℕ) (earlier : List (List ℕ)) → All Mapped (places depth earlier ms) → all_leaves_everywhere ms ≡ true → MarksAllWhole marks n ms → filtered_all marks n ms ≡ ms
  filtered_all_whole marks no_members n depth earlier all leaves whole = refl
  filtered_all_whole marks (member m ms) n depth earlier all leaves whole =
      let both = both_true (leaves_everywhere m) (all_leaves_everywhere ms) leaves in
      let rest = all_rest Mapped (place depth earlier m) (part_places (depth + 1) m ++ places depth (name_of m ∷ earlier) ms) all in
      let has : has_mark marks n m ≡ true = marked_with_leaf marks m n (has_one m both.0) whole.0 in
      when_true (has_mark marks n m) (member (filtered marks n m) (filtered_all marks (n + count m) ms)) (filtered_all marks (n + count m) ms) has
      ∙ ap (λ x. member x (filtered_all marks (n + count m) ms))
      (filtered_whole marks m n (depth + 1) (all_first Mapped (place depth earlier m) (part_places (depth + 1) m ++ places depth (name_of m ∷ earlier) ms) all)
      (all_front Mapped (part_places (depth + 1) m) (places depth (name_of m ∷ earlier) ms) rest) both.0 whole.0)
      ∙ ap (member m) (filtered_all_whole marks ms (n + count m) depth (name_of m ∷ earlier) (all_back Mapped (part_places (depth + 1) m) (places depth (name_of m ∷ earlier) ms) rest) both.1 whole.1)

mutual
  pub tree_whole : (marks : Marks) (m : Member) (n : ℕ) (t : Tree) → leaves_everywhere m ≡ true → MarksWhole marks n m → Fits m t → cut_tree marks every_row n m t ≡ t
  tree_whole marks (scalar column) n t leaves whole fit = refl
  tree_whole marks (array a) n t leaves whole fit = ap (λ o. cut (option_map_or (λ slabs. slabs) o []) t) whole ∙ cut_whole a.base (sizes a) t fit
  tree_whole marks (structure name parts) n t leaves whole fit =
      ap (λ us. many (trees_of us)) (all_trees_whole marks parts (n + 1) (kids t) (parts_leaves name parts leaves) whole fit.1) ∙ as_many t fit.0
  tree_whole marks (grid name a maps) n t leaves whole fit = ap (λ us. many (trees_of us)) (trees_whole marks (n + 1) (a ∷ maps) (kids t) whole fit.1) ∙ as_many t fit.0
  tree_whole marks (sequence name columns) n t leaves whole fit =
      let row : Tree → Tree = λ r. many (trees_of (marked unchanged marks (n + 1) (kids r))) in
      ap (λ us. many (trees_of (map row us))) (all_kept (kids t))
      ∙ ap (λ us. many (trees_of us)) (map_same row (kids t) (λ k d lt. row_whole marks (n + 1) columns _ whole (fit.1 k d lt))) ∙ as_many t fit.0

  pub all_trees_whole : (marks : Marks) (ms : Members) (n : ℕ) (ts : List Tree) → all_leaves_everywhere ms ≡ true → MarksAllWhole marks n ms → FitsAll ms ts → cut_all marks every_row n ms ts ≡ ts
  all_trees_whole marks no_members n [] leaves whole fit = refl
  all_trees_whole marks no_members n (t ∷ ts) leaves whole fit = absurd fit
  all_trees_whole marks (member m ms) n [] leaves whole fit = absurd fit
  all_trees_whole marks (member m ms) n (t ∷ ts) leaves whole fit =
      let both = both_true (leaves_everywhere m) (all_leaves_everywhere ms) leaves in
      let has : has_mark marks n m ≡ true = marked_with_leaf marks m n (has_one m both.0) whole.0 in
      when_true (has_mark marks n m) (cut_tree marks every_row n m t ∷ cut_all marks every_row (n + count m) ms ts) (cut_all marks every_row (n + count m) ms ts) has
      ∙ ap (λ u. u ∷ cut_all marks every_row (n + count m) ms ts) (tree_whole marks m n t both.0 whole.0 fit.0) ∙ ap (λ us. t ∷ us) (all_trees_whole marks ms (n + count m) ts both.1 whole.1 fit.1)
