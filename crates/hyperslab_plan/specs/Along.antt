-- Where picked elements stand, counted from the first one.
use Rattle.std.specs.Prelude.{ℕ, ◌+◌, ◌*◌, ◌/◌, ◌%◌, ◌^◌, ◌<◌, ◌≤◌, List, [], ◌∷◌, length, slice_index_or}
use Rattle.dap_types.specs.declared.slabs.Slab.{Slab}
use Rattle.hyperslab_plan.specs.Picked.{count_of}

-- where the first picked element stands, counted from the base
abbrev pub starts : List Slab → List ℕ → ℕ
starts [] steps = 0
starts (s ∷ slabs) [] = 0
starts (s ∷ slabs) (step ∷ steps) = s.start * step + starts slabs steps

-- where the p-th picked element stands, counted from the first one
abbrev pub rel : List Slab → List ℕ → ℕ → ℕ
rel [] steps p = 0
rel (s ∷ slabs) [] p = 0
rel (s ∷ slabs) (step ∷ steps) p = p / count_of slabs * (s.stride * step) + rel slabs steps (p % count_of slabs)

-- where a hyperslab picks two indexes, the bytes from one to the next are a number of 63 bits
abbrev pub Spaced : List Slab → List ℕ → Type 0
Spaced slabs steps = (i : ℕ) (d : Slab) → i < length slabs → 2 ≤ (slice_index_or slabs i d).count → (slice_index_or slabs i d).stride * slice_index_or steps i 0 < 2 ^ 63
