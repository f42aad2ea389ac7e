-- The places of an array's elements as a nested list, and what hyperslabs cut out of them and of the values
-- that stand there (DAP 2.0, constraint expressions).
use Rattle.std.specs.Prelude.{ℕ, ◌+◌, List, length}
use Rattle.dap_types.specs.declared.slabs.Slab.{Slab}
use Rattle.dap_types.specs.declared.values.Value.{Value}
use Rattle.dap_model.specs.Cutting.{Nested, flatten, cut_nested, cut}
use Rattle.dap_model.specs.Fits.{values_in}
use Rattle.dap_model.specs.Indexing.{by_index, distance, indexed_tree}

-- where the element at each index of an array of these sizes stands
abbrev pub places_of : (sizes : List ℕ) → List ℕ → ℕ → Nested ℕ (length sizes)
places_of sizes steps base = by_index ℕ sizes (λ indexes. base + distance steps indexes)

-- the places of the cut array, in row-major order
unfoldable pub cut_places : List Slab → List ℕ → List ℕ → ℕ → List ℕ
cut_places slabs sizes steps base = flatten ℕ (length sizes) (cut_nested ℕ (length sizes) slabs (places_of sizes steps base))

-- the values of the cut array in row-major order, where `value` stands at each place
unfoldable pub cut_values : List Slab → (ℕ → Value) → List ℕ → List ℕ → ℕ → List Value
cut_values slabs value sizes steps base = values_in (cut slabs (indexed_tree sizes (λ indexes. value (base + distance steps indexes))))
