-- The files of the worked examples, as datasets and trees.
use Rattle.std.proofs.Common.{ℕ, ℤ, pos, negsuc, List, [], ◌∷◌, map, Bool, None, Some, codes, ◌==◌, if◌then◌else◌}
use Rattle.std.specs.List.{flat_map}
use Rattle.std.specs.declared.cmp.Ordering.{Ordering}
use Rattle.dap_types.specs.Model.{Member, array, grid, sequence, Dataset, members_of, Tree, one, many, trees_of}
use Rattle.dap_types.specs.declared.declarations.ArrayDecl.{ArrayDecl}
use Rattle.dap_types.specs.declared.declarations.BaseType.{BaseType}
use Rattle.dap_types.specs.declared.declarations.BaseType.TheVariants.{Byte, Int16, Int32, Text}
use Rattle.dap_types.specs.declared.declarations.Column.{Column}
use Rattle.dap_types.specs.declared.declarations.Dim.{Dim}
use Rattle.dap_types.specs.declared.slabs.Slab.{Slab}
use Rattle.dap_types.specs.declared.values.Value.TheVariants as values
use Rattle.dap_model.specs.Filter.{Marks, Keeps, constrained, constrained_trees}
use Rattle.dap_model.specs.Rows.{kept}
use Rattle.dap_model.specs.Xdr.{word, xdr}

abbrev pub dataset : List ℕ → List Member → Dataset
dataset name ms = record { name = name; members = members_of ms }

abbrev pub dim : List ℕ → ℕ → Dim
dim name n = record { name = Some name; size = n }

abbrev pub array_of : BaseType → List ℕ → List Dim → ArrayDecl
array_of base name dims = record { name = name; base = base; dims = dims }

abbrev pub column : BaseType → List ℕ → Column
column base name = record { name = name; base = base }

abbrev pub slab : ℕ → ℕ → ℕ → Slab
slab start stride count = record { start = start; stride = stride; count = count }

abbrev pub whole : ℤ → Tree
whole z = one (values.Whole z)

abbrev pub text : List ℕ → Tree
text bytes = one (values.Text bytes)

abbrev pub list : List Tree → Tree
list ts = many (trees_of ts)

abbrev pub numbers : List ℕ → Tree
numbers ns = list (map (λ n. whole (pos n)) ns)

-- buoys.csv
abbrev pub buoys : Dataset
buoys = dataset (codes "buoys.csv") (sequence (codes "buoys") (column Text (codes "station") ∷ column Int32 (codes "depth") ∷ []) ∷ [])

abbrev pub buoys_rows : List Tree
buoys_rows = list (list (text (codes "A1") ∷ whole (pos 5) ∷ []) ∷ list (text (codes "B22") ∷ whole (negsuc 6) ∷ []) ∷ []) ∷ []

-- v.nc
abbrev pub v : Dataset
v = dataset (codes "v.nc") (array (array_of Int32 (codes "v") (dim (codes "y") 3 ∷ dim (codes "x") 4 ∷ [])) ∷ [])

abbrev pub v_values : List Tree
v_values = list (numbers (0 ∷ 1 ∷ 2 ∷ 3 ∷ []) ∷ numbers (4 ∷ 5 ∷ 6 ∷ 7 ∷ []) ∷ numbers (8 ∷ 9 ∷ 10 ∷ 11 ∷ []) ∷ []) ∷ []

-- g.nc
abbrev pub lat : ArrayDecl
lat = array_of Int32 (codes "lat") (dim (codes "lat") 2 ∷ [])

abbrev pub lon : ArrayDecl
lon = array_of Int32 (codes "lon") (dim (codes "lon") 3 ∷ [])

abbrev pub g : Dataset
g = dataset (codes "g.nc")
    (array lat ∷ array lon
    ∷ grid (codes "g") (array_of Int16 (codes "g") (dim (codes "lat") 2 ∷ dim (codes "lon") 3 ∷ [])) (lat ∷ lon ∷ []) ∷ [])

abbrev pub g_values : List Tree
g_values =
    numbers (10 ∷ 20 ∷ []) ∷ numbers (1 ∷ 2 ∷ 3 ∷ [])
    ∷ list (list (list (whole (negsuc 0) ∷ whole (pos 32767) ∷ whole (pos 3) ∷ []) ∷ numbers (4 ∷ 5 ∷ 6 ∷ []) ∷ [])
    ∷ numbers (10 ∷ 20 ∷ []) ∷ numbers (1 ∷ 2 ∷ 3 ∷ []) ∷ []) ∷ []

-- r.nc, b.nc, z.nc and c.nc
abbrev pub r : Dataset
r = dataset (codes "r.nc") (array (array_of Int16 (codes "s") (dim (codes "t") 3 ∷ [])) ∷ [])

abbrev pub b : Dataset
b = dataset (codes "b.nc") (array (array_of Byte (codes "b") (dim (codes "n") 5 ∷ [])) ∷ [])

abbrev pub z : Dataset
z = dataset (codes "z.nc") (array (array_of Int16 (codes "a") (dim (codes "t") 2 ∷ [])) ∷ array (array_of Int16 (codes "b") (dim (codes "t") 2 ∷ [])) ∷ [])

abbrev pub c : Dataset
c = dataset (codes "c.nc") (array (array_of Text (codes "c") (dim (codes "k") 2 ∷ [])) ∷ [])

-- e.nc
abbrev pub e : Dataset
e = dataset (codes "e.nc") (array (array_of Int16 (codes "s") (dim (codes "t") 0 ∷ [])) ∷ [])

abbrev pub words : List ℕ → List ℕ
words ns = flat_map word ns

-- marks from a list of numbers and hyperslabs
abbrev pub marks_of : List (ℕ × List Slab) → Marks
marks_of [] n = None
marks_of (m ∷ ms) n = if m.0 == n then Some m.1 else marks_of ms n

-- one clause on the depths of buoys.csv, member 3
abbrev pub on_depth : (Ordering → Bool) → List ℤ → Keeps
on_depth relation wanted = kept (record { column = 3; relation = relation; values = map (λ z. values.Whole z) wanted } ∷ [])

-- the values of a constrained dataset
abbrev pub left : Marks → Keeps → Dataset → List Tree → List ℕ
left marks keeps d ts = xdr (constrained marks d) (constrained_trees marks keeps d ts)
