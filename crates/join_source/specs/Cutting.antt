-- Lists one behind the other, and arrays joined along their first dimension: what a hyperslab picks of all
-- of them is what its parts pick of each (DAP 2.0, constraint expressions: projections of arrays).
use Rattle.std.specs.Prelude.{◌≡◌, ℕ, ◌+◌, ◌-◌, ◌*◌, ◌/◌, ◌≤◌, List, [], ◌∷◌, ◌==◌, if◌then◌else◌, length, map, min}
use Rattle.std.specs.List.{flat_map, zip}
use Rattle.dap_types.specs.Model.{Tree, many, trees_of, kids}
use Rattle.dap_types.specs.declared.slabs.Slab.{Slab}
use Rattle.dap_model.specs.Cutting.{cut}
use Rattle.dap_model.specs.Fits.{values_in}

-- how many of the indexes that a hyperslab picks are below n
abbrev pub count_below : Slab → ℕ → ℕ
count_below s n = min s.count ((n - s.start + (s.stride - 1)) / s.stride)

-- what it picks of the first n items of a list, and what of those behind them, counted from there
abbrev pub front_of : Slab → ℕ → Slab
front_of s n = record { start = s.start; stride = s.stride; count = count_below s n }

abbrev pub behind : Slab → ℕ → Slab
behind s n = record {
  start = (if s.count == count_below s n then 0 else s.start + count_below s n * s.stride - n);
  stride = s.stride;
  count = s.count - count_below s n;
}

-- what it picks of each of some lists, one behind the other, of these lengths
abbrev pub parts_of : Slab → List ℕ → List Slab
parts_of s [] = []
parts_of s (n ∷ ns) = front_of s n ∷ parts_of (behind s n) ns

-- the tree of arrays, joined along their first dimension
abbrev pub joined_along : List Tree → Tree
joined_along ts = many (trees_of (flat_map kids ts))

-- how many indexes each has along it
abbrev pub indexes_of : List Tree → List ℕ
indexes_of ts = map (λ t. length (kids t)) ts

-- the values of a cut of joined arrays, in row-major order, are those of the cuts of each by its own part of
-- the first hyperslab, one behind the other
abbrev pub JoinedCuts : Type 0
JoinedCuts = (s : Slab) (rest : List Slab) (ts : List Tree) → 1 ≤ s.stride →
    values_in (cut (s ∷ rest) (joined_along ts)) ≡ flat_map (λ p. values_in (cut (p.0 ∷ rest) p.1)) (zip (parts_of s (indexes_of ts)) ts)
