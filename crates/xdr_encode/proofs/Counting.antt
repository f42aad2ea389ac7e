-- The elements of the leaves of a dataset, and of those that are left of it.
use Rattle.std.proofs.Common.{◌≡◌, ℕ, ◌+◌, Bool, true, false, ◌||◌, cond, List, [], ◌∷◌, ◌++◌, length, map, filter, Option, Some, None, refl, sym, ap, ◌∙◌, arith, append_assoc, nat_lt}
use Rattle.std.specs.List.{list_any, range_with_len, enumerate_from, position_from}
use Rattle.std.specs.Option.{option_map_or}
use Rattle.std.specs.Prelude.{is_some}
use Rattle.dap_types.specs.Model.{Dataset, Member, scalar, array, structure, grid, sequence, Members, no_members, member, members_of, count, name_of, sizes, product}
use Rattle.dap_types.specs.WellFormed.{Place, leaf_places, part_places, places, places_of, is_leaf, leaves_of, elements_of}
use Rattle.dap_types.specs.declared.declarations.ArrayDecl.{ArrayDecl}
use Rattle.dap_types.specs.declared.declarations.Column.{Column}
use Rattle.dap_types.specs.declared.slabs.Slab.{Slab}
use Rattle.dap_model.specs.Filter.{Marks, counted, marked, has_mark, one_marked, stays_grid, as_grid, filtered, filtered_all}
use Rattle.xdr_encode.specs.Counts.{member_counts, all_counts, first_large}

-- ---- the leaves of a dataset

abbrev own : Member → List ℕ
own m = cond (is_leaf m) (elements_of m ∷ []) []

abbrev counts_of_places : List Place → List ℕ
counts_of_places [] = []
counts_of_places (p ∷ ps) = own p.variable ++ counts_of_places ps

counts-append : (ps qs : List Place) → counts_of_places (ps ++ qs) ≡ counts_of_places ps ++ counts_of_places qs
counts-append [] qs = refl
counts-append (p ∷ ps) qs = ap (λ ns. own p.variable ++ ns) (counts-append ps qs) ∙ sym (append_assoc (own p.variable) (counts_of_places ps) (counts_of_places qs))

of-arrays : (depth : ℕ) (earlier : List (List ℕ)) (arrays : List ArrayDecl) → counts_of_places (leaf_places depth earlier (map array arrays)) ≡ map (λ b. product (sizes b)) arrays
of-arrays depth earlier [] = refl
of-arrays depth earlier (a ∷ arrays) = ap (λ ns. product (sizes a) ∷ ns) (of-arrays depth (a.name ∷ earlier) arrays)

of-columns : (depth : ℕ) (earlier : List (List ℕ)) (columns : List Column) → counts_of_places (leaf_places depth earlier (map scalar columns)) ≡ map (λ column. 1) columns
of-columns depth earlier [] = refl
of-columns depth earlier (c ∷ columns) = ap (λ ns. 1 ∷ ns) (of-columns depth (c.name ∷ earlier) columns)

mutual
  of-member : (depth : ℕ) (m : Member) → own m ++ counts_of_places (part_places depth m) ≡ member_counts m
  of-member depth (scalar column) = refl
  of-member depth (array a) = refl
  of-member depth (structure name parts) = of-members depth [] parts
  of-member depth (grid name a maps) = of-arrays depth [] (a ∷ maps)
  of-member depth (sequence name columns) = of-columns depth [] columns

  of-members : (depth : ℕ) (earlier : List (List ℕ)) (ms : Members) → counts_of_places (places depth earlier ms) ≡ all_counts ms
  of-members depth earlier no_members = refl
  of-members depth earlier (member m ms) =
      ap (λ ns. own m ++ ns) (counts-append (part_places (depth + 1) m) (places depth (name_of m ∷ earlier) ms))
      ∙ sym (append_assoc (own m) (counts_of_places (part_places (depth + 1) m)) (counts_of_places (places depth (name_of m ∷ earlier) ms)))
      ∙ ap (λ ns. ns ++ counts_of_places (places depth (name_of m ∷ earlier) ms)) (of-member (depth + 1) m)
      ∙ ap (λ ns. member_counts m ++ ns) (of-members depth (name_of m ∷ earlier) ms)

leaf-counts : (n : ℕ) (ps : List Place) → map (λ leaf. elements_of leaf.1) (filter (λ leaf. is_leaf leaf.1) (enumerate_from n (map (λ p. p.variable) ps))) ≡ counts_of_places ps
leaf-counts n [] = refl
leaf-counts n (p ∷ ps) = go (is_leaf p.variable) (leaf-counts (n + 1) ps)
  where
    go : (b : Bool) → map (λ leaf. elements_of leaf.1) (filter (λ leaf. is_leaf leaf.1) (enumerate_from (n + 1) (map (λ q. q.variable) ps))) ≡ counts_of_places ps →
        map (λ leaf. elements_of leaf.1) (cond b ((n, p.variable) ∷ filter (λ leaf. is_leaf leaf.1) (enumerate_from (n + 1) (map (λ q. q.variable) ps))) (filter (λ leaf. is_leaf leaf.1) (enumerate_from (n + 1) (map (λ q. q.variable) ps))))
        ≡ cond b (elements_of p.variable ∷ []) [] ++ counts_of_places ps
    go true rest = ap (λ ns. elements_of p.variable ∷ ns) rest
    go false rest = rest

position-map : {X Y : Type 0} (f : X → Y) (test : Y → Bool) (n : ℕ) (xs : List X) → position_from (λ x. test (f x)) n xs ≡ position_from test n (map f xs)
position-map f test n [] = refl
position-map f test n (x ∷ xs) = ap (λ rest. cond (test (f x)) (Some n) rest) (position-map f test (n + 1) xs)

-- the first leaf with too many elements
pub first-leaf : (d : Dataset) → position_from (λ leaf. nat_lt 2147483647 (elements_of leaf.1)) 1 (leaves_of d) ≡ first_large 1 (all_counts d.members)
first-leaf d =
    position-map (λ leaf. elements_of leaf.1) (λ count. nat_lt 2147483647 count) 1 (leaves_of d)
    ∙ ap (first_large 1) (leaf-counts 1 (places_of d) ∙ of-members 1 [] d.members)

-- ---- what is left

abbrev array_left : Marks → ℕ → ArrayDecl → List ℕ
array_left marks n a = option_map_or (λ slabs. product (sizes (counted slabs a)) ∷ []) (marks n) []

abbrev pub arrays_left : Marks → ℕ → List ArrayDecl → List ℕ
arrays_left marks n [] = []
arrays_left marks n (a ∷ arrays) = option_map_or (λ slabs. product (sizes (counted slabs a)) ∷ []) (marks n) [] ++ arrays_left marks (n + 1) arrays

abbrev pub member_left : Marks → ℕ → Member → List ℕ
member_left marks n (scalar column) = option_map_or (λ slabs. 1 ∷ []) (marks n) []
member_left marks n (array a) = option_map_or (λ slabs. product (sizes (counted slabs a)) ∷ []) (marks n) []
member_left marks n (grid name a maps) = arrays_left marks (n + 1) (a ∷ maps)
member_left marks n (structure name parts) = cond (has_mark marks n (structure name parts)) (member_counts (filtered marks n (structure name parts))) []
member_left marks n (sequence name columns) = cond (has_mark marks n (sequence name columns)) (member_counts (filtered marks n (sequence name columns))) []

abbrev pub members_left : Marks → ℕ → Members → List ℕ
members_left marks n no_members = []
members_left marks n (member m ms) = member_left marks n m ++ members_left marks (n + count m) ms

abbrev size_of : ArrayDecl → ℕ
size_of b = product (sizes b)

arrays-counted : (marks : Marks) (n : ℕ) (arrays : List ArrayDecl) → map size_of (marked counted marks n arrays) ≡ arrays_left marks n arrays
arrays-counted marks n [] = refl
arrays-counted marks n (a ∷ arrays) = go (marks n) (arrays-counted marks (n + 1) arrays)
  where
    go : (o : Option (List Slab)) → map size_of (marked counted marks (n + 1) arrays) ≡ arrays_left marks (n + 1) arrays →
        map size_of (option_map_or (λ slabs. counted slabs a ∷ marked counted marks (n + 1) arrays) o (marked counted marks (n + 1) arrays))
        ≡ option_map_or (λ slabs. product (sizes (counted slabs a)) ∷ []) o [] ++ arrays_left marks (n + 1) arrays
    go None more = more
    go (Some slabs) more = ap (λ ns. product (sizes (counted slabs a)) ∷ ns) more

as-structure : (arrays : List ArrayDecl) → all_counts (members_of (map array arrays)) ≡ map size_of arrays
as-structure [] = refl
as-structure (a ∷ arrays) = ap (λ ns. product (sizes a) ∷ ns) (as-structure arrays)

as-either : (b : Bool) (name : List ℕ) (arrays : List ArrayDecl) → member_counts (cond b (as_grid name arrays) (structure name (members_of (map array arrays)))) ≡ map size_of arrays
as-either true name [] = refl
as-either true name (a ∷ arrays) = refl
as-either false name arrays = as-structure arrays

unmarked : (marks : Marks) (n : ℕ) (arrays : List ArrayDecl) → list_any (λ leaf. is_some (marks leaf)) (range_with_len n (length arrays)) ≡ false → arrays_left marks n arrays ≡ []
unmarked marks n [] none = refl
unmarked marks n (a ∷ arrays) none = go (marks n) none (unmarked marks (n + 1) arrays)
  where
    go : (o : Option (List Slab)) → (is_some o || list_any (λ leaf. is_some (marks leaf)) (range_with_len (n + 1) (length arrays))) ≡ false
        → (list_any (λ leaf. is_some (marks leaf)) (range_with_len (n + 1) (length arrays)) ≡ false → arrays_left marks (n + 1) arrays ≡ [])
        → option_map_or (λ slabs. product (sizes (counted slabs a)) ∷ []) o [] ++ arrays_left marks (n + 1) arrays ≡ []
    go None e rest = rest e
    go (Some slabs) e rest = absurd cc

one-left : (marks : Marks) (n : ℕ) (m : Member) → cond (has_mark marks n m) (member_counts (filtered marks n m)) [] ≡ member_left marks n m
one-left marks n (scalar column) = go (marks n)
  where
    go : (o : Option (List Slab)) → cond {A = List ℕ} (is_some o) (1 ∷ []) [] ≡ option_map_or (λ slabs. 1 ∷ []) o []
    go None = refl
    go (Some slabs) = refl
one-left marks n (array a) = go (marks n)
  where
    go : (o : Option (List Slab)) → cond (is_some o) (product (sizes (counted (option_map_or (λ slabs. slabs) o []) a)) ∷ []) [] ≡ option_map_or (λ slabs. product (sizes (counted slabs a)) ∷ []) o []
    go None = refl
    go (Some slabs) = refl
one-left marks n (structure name parts) = refl
one-left marks n (sequence name columns) = refl
one-left marks n (grid name a maps) = go (one_marked marks (n + 1) (length maps + 1)) refl
  where
    long : length maps + 1 ≡ length (a ∷ maps)
    long = omega arith

    go : (b : Bool) → one_marked marks (n + 1) (length maps + 1) ≡ b → cond b (member_counts (filtered marks n (grid name a maps))) [] ≡ arrays_left marks (n + 1) (a ∷ maps)
    go true e = as-either (stays_grid marks n) name (marked counted marks (n + 1) (a ∷ maps)) ∙ arrays-counted marks (n + 1) (a ∷ maps)
    go false e = sym (unmarked marks (n + 1) (a ∷ maps) (ap (λ k. list_any (λ leaf. is_some (marks leaf)) (range_with_len (n + 1) k)) (sym long) ∙ e))

pub all-left : (marks : Marks) (n : ℕ) (ms : Members) → all_counts (filtered_all marks n ms) ≡ members_left marks n ms
all-left marks n no_members = refl
all-left marks n (member m ms) = go (has_mark marks n m) refl (all-left marks (n + count m) ms)
  where
    go : (b : Bool) → has_mark marks n m ≡ b → all_counts (filtered_all marks (n + count m) ms) ≡ members_left marks (n + count m) ms →
        all_counts (cond b (member (filtered marks n m) (filtered_all marks (n + count m) ms)) (filtered_all marks (n + count m) ms))
        ≡ member_left marks n m ++ members_left marks (n + count m) ms
    go true e rest =
        ap (λ ns. member_counts (filtered marks n m) ++ ns) rest
        ∙ ap (λ ns. ns ++ members_left marks (n + count m) ms) (sym (ap (λ b. cond b (member_counts (filtered marks n m)) []) e) ∙ one-left marks n m)
    go false e rest =
        rest
        ∙ ap (λ ns. ns ++ members_left marks (n + count m) ms) (sym (ap (λ b. cond b (member_counts (filtered marks n m)) []) e) ∙ one-left marks n m)
