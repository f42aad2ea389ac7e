-- The indexes of an array (DAP 2.0, Array: its elements in row-major order): what stands at each of them,
-- and how far steps lead.
use Rattle.std.specs.Prelude.{ℕ, ◌+◌, ◌*◌, ◌<◌, List, [], ◌∷◌, length, map}
use Rattle.std.specs.List.{AllZip, range_with_len}
use Rattle.dap_types.specs.Model.{Tree}
use Rattle.dap_types.specs.declared.values.Value.{Value}
use Rattle.dap_model.specs.Cutting.{Nested, array_tree}

-- one index below each size
unfoldable pub AreIndexes : List ℕ → List ℕ → Type 0
AreIndexes sizes indexes = AllZip (λ n i. i < n) sizes indexes

-- the nested list of what stands at each index of an array of these sizes
unfoldable pub by_index : (X : Type 0) (sizes : List ℕ) → (List ℕ → X) → Nested X (length sizes)
by_index X [] at = at []
by_index X (n ∷ sizes) at = map (λ i. by_index X sizes (λ indexes. at (i ∷ indexes))) (range_with_len 0 n)

-- the tree of an array of these sizes from the value at each index
abbrev pub indexed_tree : (sizes : List ℕ) → (List ℕ → Value) → Tree
indexed_tree sizes at = array_tree (length sizes) (by_index Value sizes at)

-- how far steps lead to some indexes, one step for each of them
abbrev pub distance : List ℕ → List ℕ → ℕ
distance [] indexes = 0
distance (step ∷ steps) [] = 0
distance (step ∷ steps) (i ∷ indexes) = i * step + distance steps indexes
