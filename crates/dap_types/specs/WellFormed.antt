-- The members of a dataset by number and by path, which datasets are well formed, and the first
-- fault of one that is not. DAP 2.0 (Identifiers; Array; Grid) has the rules on names and on the maps
-- of a Grid. The limits on depth, members, rank and size are this project's.
use Rattle.std.specs.Prelude.{◌≡◌, ℕ, ◌+◌, ◌≤◌, List, [], ◌∷◌, ◌++◌, length, map, filter, All, Contains, ⊤, Bool, true, false, ◌&&◌, not, nat_lt, nat_le, ◌==◌, nat_eq, find, option_map, if◌then◌else◌, Option, Some, None}
use Rattle.std.specs.Cmp.Lexicographic.{pointwise}
use Rattle.std.specs.List.{AllZip, list_all, list_any, enumerate_from, position_from}
use Rattle.std.specs.Option.{option_or}
use Rattle.std.specs.Str.{bytes_eq}
use Rattle.dap_types.specs.Limits.{most_depth, most_dimensions, most_elements, most_members}
use Rattle.dap_types.specs.Model.{Member, scalar, array, structure, grid, sequence, Members, no_members, member, Dataset, name_of, sizes, product}
use Rattle.dap_types.specs.declared.declarations.ArrayDecl.{ArrayDecl}
use Rattle.dap_types.specs.declared.unfit.Unfit.{Unfit}
use Rattle.dap_types.specs.declared.unfit.Unfit.TheVariants.{Repeated, TooDeep, TooMany, BadGrid, BadSize}

-- a member, its depth, and the names before it on its level
pub record Place : Type 0 where
  pub depth : ℕ
  pub earlier : List (List ℕ)
  pub variable : Member

abbrev pub place : ℕ → List (List ℕ) → Member → Place
place depth earlier m = record { depth = depth; earlier = earlier; variable = m }

-- members without parts, on one level
abbrev pub leaf_places : ℕ → List (List ℕ) → List Member → List Place
leaf_places depth earlier [] = []
leaf_places depth earlier (m ∷ ms) = place depth earlier m ∷ leaf_places depth (name_of m ∷ earlier) ms

-- the parts of a member
abbrev mutual
  pub part_places : ℕ → Member → List Place
  part_places depth (scalar column) = []
  part_places depth (array a) = []
  part_places depth (structure name parts) = places depth [] parts
  part_places depth (grid name a maps) = leaf_places depth [] (map array (a ∷ maps))
  part_places depth (sequence name columns) = leaf_places depth [] (map scalar columns)

  -- members and their parts in preorder: a Grid's array comes before its maps
  pub places : ℕ → List (List ℕ) → Members → List Place
  places depth earlier no_members = []
  places depth earlier (member m ms) = place depth earlier m ∷ part_places (depth + 1) m ++ places depth (name_of m ∷ earlier) ms

-- all members of a dataset: the first has number 1
abbrev pub places_of : Dataset → List Place
places_of d = places 1 [] d.members

-- the same members by their paths, the names from the top down
abbrev mutual
  pub part_paths : Member → List (List (List ℕ))
  part_paths (scalar column) = []
  part_paths (array a) = []
  part_paths (structure name parts) = paths parts
  part_paths (grid name a maps) = map (λ b. b.name ∷ []) (a ∷ maps)
  part_paths (sequence name columns) = map (λ c. c.name ∷ []) columns

  pub paths : Members → List (List (List ℕ))
  paths no_members = []
  paths (member m ms) = (name_of m ∷ []) ∷ map (λ path. name_of m ∷ path) (part_paths m) ++ paths ms

-- the member with a number, and the number of the member with a path
abbrev pub member_at : Dataset → ℕ → Option Member
member_at d n = option_map (λ p. p.1.variable) (find (λ p. p.0 == n) (enumerate_from 1 (places_of d)))

abbrev pub number_of : Dataset → List (List ℕ) → Option ℕ
number_of d path = position_from (pointwise bytes_eq path) 1 (paths d.members)

-- a leaf has values of its own: a scalar, an array, a Grid's array or map, or a column of a Sequence
abbrev pub is_leaf : Member → Bool
is_leaf (scalar column) = true
is_leaf (array a) = true
is_leaf m = false

-- the leaves in order, each with its number as a member
abbrev pub leaves_of : Dataset → List (ℕ × Member)
leaves_of d = filter (λ leaf. is_leaf leaf.1) (enumerate_from 1 (map (λ p. p.variable) (places_of d)))

-- how many elements a leaf has
abbrev pub elements_of : Member → ℕ
elements_of (array a) = product (sizes a)
elements_of m = 1

-- an array has 1 to 32 dimensions, each of a size that is an Int32
abbrev pub IsSized : Member → Type 0
IsSized (array a) = (1 ≤ length a.dims) × (length a.dims ≤ most_dimensions) × All (λ n. n ≤ most_elements) (sizes a)
IsSized m = ⊤

-- a Grid has one map for each dimension of its array, of one dimension of that size (DAP 2.0, Grid)
abbrev pub HasMaps : Member → Type 0
HasMaps (grid name a maps) = AllZip (λ m n. sizes m ≡ n ∷ []) maps (sizes a)
HasMaps m = ⊤

-- every rule holds of every member
pub record IsWellFormed (d : Dataset) : Type 0 where
  -- at most 1,000,000 members
  pub few : length (places_of d) ≤ most_members
  -- a top member has depth 1, and none is deeper than 16
  pub shallow : All (λ p. p.depth ≤ most_depth) (places_of d)
  -- no member has the name of an earlier one of its level
  pub names_differ : All (λ p. ¬ Contains p.earlier (name_of p.variable)) (places_of d)
  -- arrays have their ranks and sizes, and Grids their maps
  pub sized : All (λ p. IsSized p.variable) (places_of d)
  pub mapped : All (λ p. HasMaps p.variable) (places_of d)

-- The same rules as tests, for the first fault: 1 to 32 dimensions, each of a size that is an Int32
abbrev pub is_sized : ArrayDecl → Bool
is_sized a = nat_le 1 (length a.dims) && nat_le (length a.dims) most_dimensions && list_all (λ n. nat_le n most_elements) (sizes a)

abbrev pub has_sizes : Member → Bool
has_sizes (array a) = is_sized a
has_sizes m = true

-- one map for each dimension, of that size alone
abbrev pub has_maps : Member → Bool
has_maps (grid name a maps) = pointwise (λ m n. pointwise nat_eq (sizes m) (n ∷ [])) maps (sizes a)
has_maps m = true

-- what is wrong with member n
abbrev pub fault_at : ℕ → Place → Option Unfit
fault_at n p =
    if nat_lt most_depth p.depth then Some (TooDeep n)
    else if list_any (bytes_eq (name_of p.variable)) p.earlier then Some (Repeated n)
    else if not (has_sizes p.variable) then Some (BadSize n)
    else if not (has_maps p.variable) then Some (BadGrid n)
    else None

-- the first fault from member n on
abbrev pub first_fault : ℕ → List Place → Option Unfit
first_fault n [] = None
first_fault n (p ∷ ps) = option_or (fault_at n p) (first_fault (n + 1) ps)

-- the first fault of a dataset: too many members, or the first member with one
unfoldable pub fault : Dataset → Option Unfit
fault d = if nat_lt most_members (length (places_of d)) then Some TooMany else first_fault 1 (places_of d)
