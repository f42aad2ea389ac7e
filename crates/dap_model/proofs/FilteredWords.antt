-- What a constraint leaves of a dataset of words is one of words.
use Rattle.std.proofs.Common.{◌≡◌, ℕ, ◌+◌, List, [], ◌∷◌, map, All, Option, Some, None, Bool, true, false, if◌then◌else◌, refl, sym, ap, subst}
use Rattle.std.specs.List.{list_all, zip}
use Rattle.std.specs.Option.{option_map_or}
use Rattle.std.proofs.lemmas.List.Elements.{All-append, All-cons, All-map, All-nil}
use Rattle.std.proofs.lemmas.Bool.{and_from}
use Rattle.plain_lemmas.proofs.Truths.{both_true}
use Rattle.dap_types.proofs.Preorder.{preorder-places}
use Rattle.dap_types.specs.Model.{Member, scalar, array, structure, grid, sequence, Members, no_members, member, members_of, Dataset, count}
use Rattle.dap_types.specs.Preorder.{preorder, preorder_all}
use Rattle.dap_types.specs.WellFormed.{Place, places_of}
use Rattle.dap_types.specs.declared.declarations.ArrayDecl.{ArrayDecl}
use Rattle.dap_types.specs.declared.declarations.Dim.{Dim}
use Rattle.dap_types.specs.declared.slabs.Slab.{Slab}
use Rattle.dap_model.proofs.Values.{all_first, all_rest, all_front, all_back}
use Rattle.dap_model.specs.Cutting.{counted}
use Rattle.dap_model.specs.Filter.{Marks, marked, unchanged, slabs_at, has_mark, stays_grid, as_grid, filtered, filtered_all, constrained}
use Rattle.dap_model.specs.Grammar.{HasWords, are_words}
use Rattle.dap_model.specs.Tokens.{is_word}

abbrev pub IsOfWords : Member → Type 0
IsOfWords m = are_words m ≡ true

abbrev pub has_word : Dim → Bool
has_word dim = option_map_or is_word dim.name true

-- the dimensions keep their names
dims_kept : (dims : List Dim) (slabs : List Slab) → list_all has_word dims ≡ true → list_all has_word (map (λ (p : Dim × Slab). record p.0 { size = p.1.count }) (zip dims slabs)) ≡ true
dims_kept [] slabs all = refl
dims_kept (d ∷ dims) [] all = refl
dims_kept (d ∷ dims) (s ∷ slabs) all =
    let (here, rest) = both_true (has_word d) (list_all has_word dims) all in
    and_from (has_word d) (list_all has_word (map (λ (p : Dim × Slab). record p.0 { size = p.1.count }) (zip dims slabs))) here (dims_kept dims slabs rest)

array_kept : (slabs : List Slab) (a : ArrayDecl) → IsOfWords (array a) → IsOfWords (array (counted slabs a))
array_kept slabs a all =
    let (own, dims) = both_true (is_word a.name) (list_all has_word a.dims) all in
    and_from (is_word a.name) (list_all has_word (counted slabs a).dims) own (dims_kept a.dims slabs dims)

-- the marked ones of some leaves
leaves_kept : {X : Type 0} (leaf : X → Member) (change : List Slab → X → X) → ((slabs : List Slab) (x : X) → IsOfWords (leaf x) → IsOfWords (leaf (change slabs x)))
    → (marks : Marks) (n : ℕ) (xs : List X) → All IsOfWords (map leaf xs) → All IsOfWords (map leaf (marked change marks n xs))
leaves_kept leaf change kept marks n [] all = All-nil IsOfWords
leaves_kept {X} leaf change kept marks n (x ∷ xs) all =
    by (marks n) (marked change marks (n + 1) xs) (leaves_kept leaf change kept marks (n + 1) xs (all_rest IsOfWords (leaf x) (map leaf xs) all))
  where
    by : (o : Option (List Slab)) (rest : List X) → All IsOfWords (map leaf rest) → All IsOfWords (map leaf (option_map_or (λ slabs. change slabs x ∷ rest) o rest))
    by None rest are = are
    by (Some slabs) rest are = All-cons IsOfWords (leaf (change slabs x)) (map leaf rest) (kept slabs x (all_first IsOfWords (leaf x) (map leaf xs) all)) are

preorder_arrays : (arrays : List ArrayDecl) → preorder_all (members_of (map array arrays)) ≡ map array arrays
preorder_arrays [] = refl
preorder_arrays (a ∷ arrays) = ap (λ ms. array a ∷ ms) (preorder_arrays arrays)

-- the Grid of its arrays, and the Structure of them
grid_of_words : (name : List ℕ) (parts : List ArrayDecl) → is_word name ≡ true → All IsOfWords (map array parts) → All IsOfWords (preorder (as_grid name parts))
grid_of_words name [] own all = All-cons IsOfWords (structure name no_members) [] own (All-nil IsOfWords)
grid_of_words name (a ∷ maps) own all = All-cons IsOfWords (grid name a maps) (map array (a ∷ maps)) own all

structure_of_words : (name : List ℕ) (parts : List ArrayDecl) → is_word name ≡ true → All IsOfWords (map array parts) → All IsOfWords (preorder (structure name (members_of (map array parts))))
structure_of_words name parts own all =
    All-cons IsOfWords (structure name (members_of (map array parts))) (preorder_all (members_of (map array parts))) own (subst (All IsOfWords) (sym (preorder_arrays parts)) all)

mutual
  filtered_words : (marks : Marks) (n : ℕ) (m : Member) → All IsOfWords (preorder m) → All IsOfWords (preorder (filtered marks n m))
  filtered_words marks n (scalar column) all = all
  filtered_words marks n (array a) all = All-cons IsOfWords (array (counted (slabs_at marks n) a)) [] (array_kept (slabs_at marks n) a (all_first IsOfWords (array a) [] all)) (All-nil IsOfWords)
  filtered_words marks n (structure name parts) all =
      All-cons IsOfWords (structure name (filtered_all marks (n + 1) parts)) (preorder_all (filtered_all marks (n + 1) parts)) (all_first IsOfWords (structure name parts) (preorder_all parts) all)
      (filtered_all_words marks (n + 1) parts (all_rest IsOfWords (structure name parts) (preorder_all parts) all))
  filtered_words marks n (grid name a maps) all =
      by (stays_grid marks n) (all_first IsOfWords (grid name a maps) (map array (a ∷ maps)) all)
      (leaves_kept array counted array_kept marks (n + 1) (a ∷ maps) (all_rest IsOfWords (grid name a maps) (map array (a ∷ maps)) all))
    where
      by : (b : Bool) → is_word name ≡ true → All IsOfWords (map array (marked counted marks (n + 1) (a ∷ maps)))
          → All IsOfWords (preorder (if b then as_grid name (marked counted marks (n + 1) (a ∷ maps)) else structure name (members_of (map array (marked counted marks (n + 1) (a ∷ maps))))))
      by true own are = grid_of_words name (marked counted marks (n + 1) (a ∷ maps)) own are
      by false own are = structure_of_words name (marked counted marks (n + 1) (a ∷ maps)) own are
  filtered_words marks n (sequence name columns) all =
      All-cons IsOfWords (sequence name (marked unchanged marks (n + 1) columns)) (map scalar (marked unchanged marks (n + 1) columns)) (all_first IsOfWords (sequence name columns) (map scalar columns) all)
      (leaves_kept scalar unchanged (λ slabs c is. is) marks (n + 1) columns (all_rest IsOfWords (sequence name columns) (map scalar columns) all))

  filtered_all_words : (marks : Marks) (n : ℕ) (ms : Members) → All IsOfWords (preorder_all ms) → All IsOfWords (preorder_all (filtered_all marks n ms))
  filtered_all_words marks n no_members all = All-nil IsOfWords
  filtered_all_words marks n (member m ms) all =
      by (has_mark marks n m) (filtered_words marks n m (all_front IsOfWords (preorder m) (preorder_all ms) all)) (filtered_all_words marks (n + count m) ms (all_back IsOfWords (preorder m) (preorder_all ms) all))
    where
      by : (b : Bool) → All IsOfWords (preorder (filtered marks n m)) → All IsOfWords (preorder_all (filtered_all marks (n + count m) ms))
          → All IsOfWords (preorder_all (if b then member (filtered marks n m) (filtered_all marks (n + count m) ms) else filtered_all marks (n + count m) ms))
      by true here rest = All-append IsOfWords (preorder (filtered marks n m)) (preorder_all (filtered_all marks (n + count m) ms)) here rest
      by false here rest = rest

-- of the places, and of the members there
at_places : (ps : List Place) → All IsOfWords (map (λ (p : Place). p.variable) ps) → All (λ p. are_words p.variable ≡ true) ps
at_places [] all = All-nil (λ (p : Place). are_words p.variable ≡ true)
at_places (p ∷ ps) all =
    All-cons (λ (q : Place). are_words q.variable ≡ true) p ps (all_first IsOfWords p.variable (map (λ (q : Place). q.variable) ps) all)
    (at_places ps (all_rest IsOfWords p.variable (map (λ (q : Place). q.variable) ps) all))

pub constrained_has_words : (marks : Marks) (d : Dataset) → HasWords d → HasWords (constrained marks d)
constrained_has_words marks d words =
    let all : All IsOfWords (preorder_all d.members) = subst (All IsOfWords) (preorder-places d.members 1 []) (All-map IsOfWords (λ (p : Place). p.variable) (places_of d) words.inside) in
    record {
      own = words.own;
      inside = at_places (places_of (constrained marks d)) (subst (All IsOfWords) (sym (preorder-places (filtered_all marks 1 d.members) 1 [])) (filtered_all_words marks 1 d.members all));
    }
