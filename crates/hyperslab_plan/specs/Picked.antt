-- The places of the elements that hyperslabs pick, how many they are, and what reading them may cost.
use Rattle.std.specs.Prelude.{ℕ, ◌+◌, ◌-◌, ◌*◌, zero, suc, List, [], ◌∷◌}
use Rattle.std.specs.List.{flat_map}
use Rattle.dap_types.specs.declared.slabs.Slab.{Slab}
use Rattle.dap_model.specs.Cutting.{indexes}

-- the places of the picked elements in row-major order: the base and, for each dimension, the
-- picked index times the step
unfoldable pub picked : List Slab → List ℕ → ℕ → List ℕ
picked [] [] base = base ∷ []
picked [] (step ∷ steps) base = []
picked (s ∷ slabs) [] base = []
picked (s ∷ slabs) (step ∷ steps) base = flat_map (λ i. picked slabs steps (base + i * step)) (indexes s)

-- the product of the counts
abbrev pub count_of : List Slab → ℕ
count_of [] = 1
count_of (s ∷ slabs) = s.count * count_of slabs

-- from the first picked index to the last
abbrev pub span : ℕ → ℕ → ℕ
span zero stride = 0
span (suc n) stride = n * stride + 1

-- the product of all counts but the last, times the span of the last hyperslab, times the size
abbrev pub cost_of : List Slab → ℕ → ℕ
cost_of [] size = size
cost_of (s ∷ []) size = span s.count s.stride * size
cost_of (s ∷ t ∷ slabs) size = s.count * cost_of (t ∷ slabs) size

-- where the last element of an array of these sizes stands, counted from the base
abbrev pub reach : List ℕ → List ℕ → ℕ
reach [] steps = 0
reach (n ∷ sizes) [] = 0
reach (n ∷ sizes) (step ∷ steps) = (n - 1) * step + reach sizes steps

-- where the last picked element stands, counted from the base, if each hyperslab picks one
abbrev pub highest : List Slab → List ℕ → ℕ
highest [] steps = 0
highest (s ∷ slabs) [] = 0
highest (s ∷ slabs) (step ∷ steps) = (s.start + (s.count - 1) * s.stride) * step + highest slabs steps
