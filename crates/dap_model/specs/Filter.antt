-- What a constraint leaves of a dataset and its values (DAP 2.0, constraint expressions): some
-- leaves are marked, the arrays among them with a hyperslab for each dimension, and rows are kept.
use Rattle.std.specs.Prelude.{◌≡◌, zero, suc, length, ℕ, ◌+◌, ⊤, List, [], ◌∷◌, map, filter, Bool, true, false, ◌&&◌, ◌||◌, ◌==◌, nat_lt, if◌then◌else◌, Option, Some, None, is_some}
use Rattle.std.specs.Cmp.Lexicographic.{pointwise}
use Rattle.std.specs.List.{list_any, range_with_len}
use Rattle.std.specs.Option.{option_map_or}
use Rattle.dap_types.specs.Model.{Member, scalar, array, structure, grid, sequence, Members, no_members, member, members_of, Dataset, Tree, many, trees_of, kids, count, sizes}
use Rattle.dap_types.specs.declared.declarations.ArrayDecl.{ArrayDecl}
use Rattle.dap_types.specs.declared.slabs.Slab.{Slab}
pub use Rattle.dap_model.specs.Cutting.{indexes, pick, cut, counted, IsWithin, AreWithin, whole_slabs}

-- by a leaf's number: its hyperslabs, where it is marked. A scalar and a column have none
abbrev pub Marks : Type 0
Marks = ℕ → Option (List Slab)

-- by a Sequence's number: the rows that are kept
abbrev pub Keeps : Type 0
Keeps = ℕ → Tree → Bool

-- the marked ones of some leaves, the first of which has number n, each changed by its hyperslabs
abbrev pub marked : {X : Type 0} → (List Slab → X → X) → Marks → ℕ → List X → List X
marked change marks n [] = []
marked change marks n (x ∷ xs) =
    let rest = marked change marks (n + 1) xs in
    option_map_or (λ slabs. change slabs x ∷ rest) (marks n) rest

abbrev pub unchanged : {X : Type 0} → List Slab → X → X
unchanged slabs x = x

-- the hyperslabs of leaf n
abbrev pub slabs_at : Marks → ℕ → List Slab
slabs_at marks n = option_map_or (λ slabs. slabs) (marks n) []

-- one of so many leaves, from the n-th member on, is marked
abbrev pub one_marked : Marks → ℕ → ℕ → Bool
one_marked marks n k = list_any (λ leaf. is_some (marks leaf)) (range_with_len n k)

-- a member, the n-th, has a marked leaf
abbrev mutual
  pub has_mark : Marks → ℕ → Member → Bool
  has_mark marks n (scalar column) = is_some (marks n)
  has_mark marks n (array a) = is_some (marks n)
  has_mark marks n (structure name parts) = any_has_mark marks (n + 1) parts
  has_mark marks n (grid name a maps) = one_marked marks (n + 1) (length maps + 1)
  has_mark marks n (sequence name columns) = one_marked marks (n + 1) (length columns)

  pub any_has_mark : Marks → ℕ → Members → Bool
  any_has_mark marks n no_members = false
  any_has_mark marks n (member m ms) = has_mark marks n m || any_has_mark marks (n + count m) ms

abbrev pub same_numbers : List ℕ → List ℕ → Bool
same_numbers xs ys = pointwise (λ x y. x == y) xs ys

-- leaf n is marked with one hyperslab, which picks those indexes
abbrev pub picks : Marks → ℕ → List ℕ → Bool
picks marks n wanted = pointwise same_numbers (map indexes (slabs_at marks n)) (wanted ∷ [])

-- leaves from n on pick in turn what these hyperslabs pick
abbrev pub all_pick : Marks → ℕ → List Slab → Bool
all_pick marks n [] = true
all_pick marks n (s ∷ ss) = picks marks n (indexes s) && all_pick marks (n + 1) ss

-- a Grid, the n-th member, stays one: its array is marked, and each map is and picks the indexes
-- of the array in the map's dimension (DAP 2.0, Grid projections)
abbrev pub stays_grid : Marks → ℕ → Bool
stays_grid marks n = is_some (marks (n + 1)) && all_pick marks (n + 2) (slabs_at marks (n + 1))

-- the Grid of an array and maps
abbrev pub as_grid : List ℕ → List ArrayDecl → Member
as_grid name [] = structure name no_members
as_grid name (a ∷ maps) = grid name a maps

-- what is left of member n, which has a marked leaf
abbrev mutual
  pub filtered : Marks → ℕ → Member → Member
  filtered marks n (scalar column) = scalar column
  filtered marks n (array a) = array (counted (slabs_at marks n) a)
  filtered marks n (structure name parts) = structure name (filtered_all marks (n + 1) parts)
  filtered marks n (grid name a maps) =
      let parts = marked counted marks (n + 1) (a ∷ maps) in
      if stays_grid marks n then as_grid name parts else structure name (members_of (map array parts))
  filtered marks n (sequence name columns) = sequence name (marked unchanged marks (n + 1) columns)

  -- of members from n on: those without a marked leaf are left out
  pub filtered_all : Marks → ℕ → Members → Members
  filtered_all marks n no_members = no_members
  filtered_all marks n (member m ms) =
      let rest = filtered_all marks (n + count m) ms in
      if has_mark marks n m then member (filtered marks n m) rest else rest

-- leaf n, if it is marked, has one hyperslab for each dimension of the array
abbrev pub Suits : Option (List Slab) → ArrayDecl → Type 0
Suits None a = ⊤
Suits (Some slabs) a = AreWithin slabs (sizes a)

abbrev pub SuitEach : Marks → ℕ → List ArrayDecl → Type 0
SuitEach marks n [] = ⊤
SuitEach marks n (a ∷ arrays) = Suits (marks n) a × SuitEach marks (n + 1) arrays

-- the marks of member n and its parts suit them
abbrev mutual
  pub SuitsMember : Marks → ℕ → Member → Type 0
  SuitsMember marks n (scalar column) = ⊤
  SuitsMember marks n (array a) = Suits (marks n) a
  SuitsMember marks n (structure name parts) = SuitsAll marks (n + 1) parts
  SuitsMember marks n (grid name a maps) = SuitEach marks (n + 1) (a ∷ maps)
  SuitsMember marks n (sequence name columns) = ⊤

  pub SuitsAll : Marks → ℕ → Members → Type 0
  SuitsAll marks n no_members = ⊤
  SuitsAll marks n (member m ms) = SuitsMember marks n m × SuitsAll marks (n + count m) ms

-- what is left of its tree
abbrev mutual
  pub cut_tree : Marks → Keeps → ℕ → Member → Tree → Tree
  cut_tree marks keeps n (scalar column) t = t
  cut_tree marks keeps n (array a) t = cut (slabs_at marks n) t
  cut_tree marks keeps n (structure name parts) t = many (trees_of (cut_all marks keeps (n + 1) parts (kids t)))
  cut_tree marks keeps n (grid name a maps) t = many (trees_of (marked cut marks (n + 1) (kids t)))
  cut_tree marks keeps n (sequence name columns) t =
      many (trees_of (map (λ row. many (trees_of (marked unchanged marks (n + 1) (kids row)))) (filter (keeps n) (kids t))))

  pub cut_all : Marks → Keeps → ℕ → Members → List Tree → List Tree
  cut_all marks keeps n no_members ts = []
  cut_all marks keeps n (member m ms) [] = []
  cut_all marks keeps n (member m ms) (t ∷ ts) =
      let rest = cut_all marks keeps (n + count m) ms ts in
      if has_mark marks n m then cut_tree marks keeps n m t ∷ rest else rest

-- the constrained dataset, and its trees
abbrev pub constrained : Marks → Dataset → Dataset
constrained marks d = record d { members = filtered_all marks 1 d.members }

abbrev pub constrained_trees : Marks → Keeps → Dataset → List Tree → List Tree
constrained_trees marks keeps d ts = cut_all marks keeps 1 d.members ts

-- so many members from the n-th on are marked, with no hyperslab
abbrev pub ScalarsMarked : Marks → ℕ → ℕ → Type 0
ScalarsMarked marks n zero = ⊤
ScalarsMarked marks n (suc k) = (marks n ≡ Some []) × ScalarsMarked marks (n + 1) k

-- these arrays, the first of which has number n, are marked whole
abbrev pub WholeEach : Marks → ℕ → List ArrayDecl → Type 0
WholeEach marks n [] = ⊤
WholeEach marks n (a ∷ arrays) = (marks n ≡ Some (whole_slabs (sizes a))) × WholeEach marks (n + 1) arrays

-- every leaf of member n is marked, each array whole
abbrev mutual
  pub MarksWhole : Marks → ℕ → Member → Type 0
  MarksWhole marks n (scalar column) = marks n ≡ Some []
  MarksWhole marks n (array a) = marks n ≡ Some (whole_slabs (sizes a))
  MarksWhole marks n (structure name parts) = MarksAllWhole marks (n + 1) parts
  MarksWhole marks n (grid name a maps) = WholeEach marks (n + 1) (a ∷ maps)
  MarksWhole marks n (sequence name columns) = ScalarsMarked marks (n + 1) (length columns)

  pub MarksAllWhole : Marks → ℕ → Members → Type 0
  MarksAllWhole marks n no_members = ⊤
  MarksAllWhole marks n (member m ms) = MarksWhole marks n m × MarksAllWhole marks (n + count m) ms

-- a variable has a leaf
abbrev mutual
  pub has_leaf : Member → Bool
  has_leaf (scalar column) = true
  has_leaf (array a) = true
  has_leaf (structure name parts) = any_has_leaf parts
  has_leaf (grid name a maps) = true
  has_leaf (sequence name columns) = nat_lt 0 (length columns)

  pub any_has_leaf : Members → Bool
  any_has_leaf no_members = false
  any_has_leaf (member m ms) = has_leaf m || any_has_leaf ms

-- and so has every Structure and Sequence in it
abbrev mutual
  pub leaves_everywhere : Member → Bool
  leaves_everywhere (scalar column) = true
  leaves_everywhere (array a) = true
  leaves_everywhere (structure name parts) = any_has_leaf parts && all_leaves_everywhere parts
  leaves_everywhere (grid name a maps) = true
  leaves_everywhere (sequence name columns) = nat_lt 0 (length columns)

  pub all_leaves_everywhere : Members → Bool
  all_leaves_everywhere no_members = true
  all_leaves_everywhere (member m ms) = leaves_everywhere m && all_leaves_everywhere ms
