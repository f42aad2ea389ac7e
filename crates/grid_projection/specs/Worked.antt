-- What the definitions say of some constraints on small datasets, computed.
use Rattle.std.specs.Prelude.{◌≡◌, ℕ, pos, List, [], ◌∷◌, map, Some, None, codes}
use Rattle.dap_types.specs.Model.{array, structure, grid, sequence, no_members, member, Dataset}
use Rattle.dap_types.specs.declared.declarations.ArrayDecl.{ArrayDecl}
use Rattle.dap_types.specs.declared.declarations.BaseType.TheVariants.{Int16, Int32, Text}
use Rattle.dap_types.specs.declared.declarations.Dim.{Dim}
use Rattle.dap_types.specs.declared.slabs.Slab.{Slab}
use Rattle.dap_model.specs.Filter.{constrained}
use Rattle.dap_errors.specs.declared.cause.Cause.TheVariants as causes
use Rattle.dap_errors.specs.declared.spot.Spot.TheVariants as spots
use Rattle.constraint_parse.specs.declared.constraint.Number.TheVariants.{Small, Big}
use Rattle.constraint_parse.specs.declared.constraint.RawSlab.{RawSlab}
use Rattle.constraint_parse.specs.declared.constraint.Step.{Step}
use Rattle.constraint_parse.specs.declared.constraint.Item.{Item}
use Rattle.constraint_parse.specs.declared.constraint.Item.TheVariants.{Path, Call}
use Rattle.constraint_parse.specs.declared.constraint.Op.TheVariants.{Less}
use Rattle.constraint_parse.specs.declared.constraint.Constant.TheVariants as constants
use Rattle.constraint_parse.specs.declared.constraint.Clause.{Clause}
use Rattle.constraint_parse.specs.declared.constraint.Clause.TheVariants.{Compare}
use Rattle.constraint_parse.specs.declared.constraint.Constraint.{Constraint}
use Rattle.grid_projection.specs.Marks.{marks}
use Rattle.grid_projection.specs.Resolved.{cause}

abbrev pub dim : List ℕ → ℕ → Dim
dim name n = record { name = Some name; size = n }

abbrev pub ints : List ℕ → List Dim → ArrayDecl
ints name dims = record { name = name; base = Int32; dims = dims }

-- Int32 v[y = 3][x = 4]
abbrev pub v : Dataset
v = record { name = codes "v.nc"; members = member (array (ints (codes "v") (dim (codes "y") 3 ∷ dim (codes "x") 4 ∷ []))) no_members }

-- a Grid g of Int32 g[lat = 2][lon = 3] with its maps: member 1, its array 2, the maps 3 and 4
abbrev pub g : Dataset
g = record { name = codes "g.nc"; members = member (grid (codes "g") (ints (codes "g") (dim (codes "lat") 2 ∷ dim (codes "lon") 3 ∷ [])) (ints (codes "lat") (dim (codes "lat") 2 ∷ []) ∷ ints (codes "lon") (dim (codes "lon") 3 ∷ []) ∷ [])) no_members }

-- Int16 s[t = 0]
abbrev pub e : Dataset
e = record { name = codes "e.nc"; members = member (array (record { name = codes "s"; base = Int16; dims = dim (codes "t") 0 ∷ [] })) no_members }

-- a Sequence of two columns
abbrev pub buoys : Dataset
buoys = record { name = codes "buoys.csv"; members = member (sequence (codes "buoys") (record { name = codes "station"; base = Text } ∷ record { name = codes "depth"; base = Int32 } ∷ [])) no_members }

-- [a], [a:b] and [a:s:b]
abbrev pub at : ℕ → RawSlab
at a = record { first = Small (pos a); middle = None; last = None }

abbrev pub to : ℕ → ℕ → RawSlab
to a b = record { first = Small (pos a); middle = None; last = Some (Small (pos b)) }

abbrev pub by : ℕ → ℕ → ℕ → RawSlab
by a s b = record { first = Small (pos a); middle = Some (Small (pos s)); last = Some (Small (pos b)) }

abbrev pub step : List ℕ → List RawSlab → Step
step name slabs = record { name = name; slabs = slabs }

abbrev pub items : List Item → Constraint
items is = record { items = is; clauses = [] }

abbrev pub slab : ℕ → ℕ → ℕ → Slab
slab a s n = record { start = a; stride = s; count = n }

-- v[0:2:2][1:3], and v[2][3]
abbrev pub Strided : Type 0
Strided = marks v (items (Path (step (codes "v") (by 0 2 2 ∷ to 1 3 ∷ []) ∷ []) ∷ [])) 1 ≡ Some (slab 0 2 2 ∷ slab 1 1 3 ∷ [])

abbrev pub Single : Type 0
Single = marks v (items (Path (step (codes "v") (at 2 ∷ at 3 ∷ []) ∷ []) ∷ [])) 1 ≡ Some (slab 2 1 1 ∷ slab 3 1 1 ∷ [])

-- v[0:3][0:0]
abbrev pub Past : Type 0
Past = cause v (items (Path (step (codes "v") (to 0 3 ∷ to 0 0 ∷ []) ∷ []) ∷ [])) ≡ Some (causes.BadSlab (spots.Item 1))

-- v[0:2][0:0],v[0:1][0:0], and v[0:1][0:0],v[0:1:1][0], which picks the same
abbrev pub Other : Type 0
Other = cause v (items (Path (step (codes "v") (to 0 2 ∷ to 0 0 ∷ []) ∷ []) ∷ Path (step (codes "v") (to 0 1 ∷ to 0 0 ∷ []) ∷ []) ∷ [])) ≡ Some (causes.TwoSlabs (spots.Item 2))

abbrev pub Same : Type 0
Same = cause v (items (Path (step (codes "v") (to 0 1 ∷ to 0 0 ∷ []) ∷ []) ∷ Path (step (codes "v") (by 0 1 1 ∷ at 0 ∷ []) ∷ []) ∷ [])) ≡ None

-- g.g[0:0][1:2],g.lon[1:2] leaves a Structure
abbrev pub part_of_grid : Constraint
part_of_grid = items (Path (step (codes "g") [] ∷ step (codes "g") (to 0 0 ∷ to 1 2 ∷ []) ∷ []) ∷ Path (step (codes "g") [] ∷ step (codes "lon") (to 1 2 ∷ []) ∷ []) ∷ [])

abbrev pub PartCause : Type 0
PartCause = cause g part_of_grid ≡ None

abbrev pub PartMarks : Type 0
PartMarks = map (marks g part_of_grid) (1 ∷ 2 ∷ 3 ∷ 4 ∷ 5 ∷ []) ≡ None ∷ Some (slab 0 1 1 ∷ slab 1 1 2 ∷ []) ∷ None ∷ Some (slab 1 1 2 ∷ []) ∷ None ∷ []

abbrev pub PartLeft : Type 0
PartLeft = (constrained (marks g part_of_grid) g).members
    ≡ member (structure (codes "g") (member (array (ints (codes "g") (dim (codes "lat") 1 ∷ dim (codes "lon") 2 ∷ []))) (member (array (ints (codes "lon") (dim (codes "lon") 2 ∷ []))) no_members))) no_members

-- g.g[0:0][0:1] leaves a Structure of the array alone
abbrev pub array_alone : Constraint
array_alone = items (Path (step (codes "g") [] ∷ step (codes "g") (to 0 0 ∷ to 0 1 ∷ []) ∷ []) ∷ [])

abbrev pub AloneLeft : Type 0
AloneLeft = (constrained (marks g array_alone) g).members
    ≡ member (structure (codes "g") (member (array (ints (codes "g") (dim (codes "lat") 1 ∷ dim (codes "lon") 2 ∷ []))) no_members)) no_members

-- g[0:0][1:2] leaves a Grid
abbrev pub whole_grid : Constraint
whole_grid = items (Path (step (codes "g") (to 0 0 ∷ to 1 2 ∷ []) ∷ []) ∷ [])

abbrev pub GridLeft : Type 0
GridLeft = (constrained (marks g whole_grid) g).members
    ≡ member (grid (codes "g") (ints (codes "g") (dim (codes "lat") 1 ∷ dim (codes "lon") 2 ∷ [])) (ints (codes "lat") (dim (codes "lat") 1 ∷ []) ∷ ints (codes "lon") (dim (codes "lon") 2 ∷ []) ∷ [])) no_members

-- a dimension without indexes is marked whole, and no brackets fit it: s[0]
abbrev pub Empty : Type 0
Empty = marks e (items []) 1 ≡ Some (slab 0 1 0 ∷ [])

abbrev pub EmptyCause : Type 0
EmptyCause = cause e (items (Path (step (codes "s") (at 0 ∷ []) ∷ []) ∷ [])) ≡ Some (causes.BadSlab (spots.Item 1))

-- mean(v), and v[0][0:2^127]
abbrev pub CallRow : Type 0
CallRow = cause v (items (Call ∷ [])) ≡ Some (causes.Unsupported (spots.Item 1))

abbrev pub BigRow : Type 0
BigRow = cause v (items (Path (step (codes "v") (at 0 ∷ record { first = Small (pos 0); middle = None; last = Some Big } ∷ []) ∷ []) ∷ [])) ≡ Some (causes.BigNumber (spots.Item 1))

-- buoys.station&buoys.station<5, and buoys.nope
abbrev pub Mismatch : Type 0
Mismatch = cause buoys (record { items = Path (step (codes "buoys") [] ∷ step (codes "station") [] ∷ []) ∷ []; clauses = Compare (codes "buoys" ∷ codes "station" ∷ []) Less (constants.Whole (Small (pos 5)) ∷ []) ∷ [] })
    ≡ Some (causes.TypeMismatch (spots.Clause 1))

abbrev pub Unknown : Type 0
Unknown = cause buoys (items (Path (step (codes "buoys") [] ∷ step (codes "nope") [] ∷ []) ∷ [])) ≡ Some (causes.UnknownName (spots.Item 1))

-- no item marks everything
abbrev pub Everything : Type 0
Everything = map (marks buoys (items [])) (0 ∷ 1 ∷ 2 ∷ 3 ∷ 4 ∷ []) ≡ None ∷ None ∷ Some [] ∷ Some [] ∷ None ∷ []
