-- Hyperslabs (DAP 2.0, constraint expressions: projections of arrays): what they pick of a list, of
-- a nested list and of the values of an array.
use Rattle.std.specs.Prelude.{zero, suc, ℕ, ◌+◌, ◌-◌, ◌*◌, ◌/◌, ◌==◌, if◌then◌else◌, ◌≤◌, ◌<◌, All, List, [], ◌∷◌, map, slice_get}
use Rattle.std.specs.List.{AllZip, filter_map, flat_map, range_with_len, zip}
use Rattle.dap_types.specs.Model.{Tree, one, many, trees_of, kids}
use Rattle.dap_types.specs.declared.declarations.ArrayDecl.{ArrayDecl}
use Rattle.dap_types.specs.declared.slabs.Slab.{Slab}
use Rattle.dap_types.specs.declared.values.Value.{Value}

-- the hyperslab of the brackets [start:stride:stop], whose stop belongs to it. One that picks a single
-- index has stride 1
abbrev pub bracketed : ℕ → ℕ → ℕ → Slab
bracketed start stride stop =
    let n = (stop - start) / stride + 1 in record { start = start; stride = (if n == 1 then 1 else stride); count = n }

-- the indexes that a hyperslab picks
abbrev pub indexes : Slab → List ℕ
indexes s = map (λ k. s.start + k * s.stride) (range_with_len 0 s.count)

-- the items at those indexes
abbrev pub pick : {X : Type 0} → Slab → List X → List X
pick s xs = filter_map (slice_get xs) (indexes s)

-- lists of lists of .., r deep
abbrev pub Nested : Type 0 → ℕ → Type 0
Nested X zero = X
Nested X (suc r) = List (Nested X r)

-- the items of a nested list in row-major order
abbrev pub flatten : (X : Type 0) (r : ℕ) → Nested X r → List X
flatten X zero x = x ∷ []
flatten X (suc r) xs = flat_map (flatten X r) xs

-- a nested list, cut by a hyperslab for each of its outer levels
abbrev pub cut_nested : (X : Type 0) (r : ℕ) → List Slab → Nested X r → Nested X r
cut_nested X r [] xs = xs
cut_nested X zero (s ∷ rest) x = x
cut_nested X (suc r) (s ∷ rest) xs = map (cut_nested X r rest) (pick s xs)

-- an array's tree, cut by a hyperslab for each dimension
abbrev pub cut : List Slab → Tree → Tree
cut [] t = t
cut (s ∷ rest) t = many (trees_of (map (cut rest) (pick s (kids t))))

-- the tree of an array from the nested list of its values
abbrev pub array_tree : (r : ℕ) → Nested Value r → Tree
array_tree zero v = one v
array_tree (suc r) vs = many (trees_of (map (array_tree r) vs))

-- an array with its sizes replaced by the counts of its hyperslabs
abbrev pub counted : List Slab → ArrayDecl → ArrayDecl
counted slabs a = record a { dims = map (λ p. record p.0 { size = p.1.count }) (zip a.dims slabs) }

-- it goes up, and every index that it picks is one of a dimension of that size
abbrev pub IsWithin : Slab → ℕ → Type 0
IsWithin s n = (1 ≤ s.stride) × All (λ i. i < n) (indexes s)

-- there is a hyperslab for each dimension of these sizes, and each picks indexes of its dimension
abbrev pub AreWithin : List Slab → List ℕ → Type 0
AreWithin slabs sizes = AllZip IsWithin slabs sizes

-- a dimension picked whole
abbrev pub whole_slabs : List ℕ → List Slab
whole_slabs ns = map (λ n. record { start = 0; stride = 1; count = n }) ns
