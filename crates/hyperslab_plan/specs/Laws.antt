-- What plans promise, each as a statement over all layouts and hyperslabs.
use Rattle.std.specs.Prelude.{◌≡◌, ℕ, ◌+◌, ◌-◌, ◌^◌, ◌<◌, ◌≤◌, List, length, map, take, drop, All}
use Rattle.std.specs.List.{range_with_len, flat_map}
use Rattle.dap_types.specs.declared.slabs.Slab.{Slab}
use Rattle.dap_types.specs.declared.values.Value.{Value}
use Rattle.dap_model.specs.Cutting.{AreWithin, cut}
use Rattle.dap_model.specs.Fits.{values_in}
use Rattle.dap_model.specs.Indexing.{AreIndexes, distance, indexed_tree}
use Rattle.hyperslab_plan.specs.Batches.{IsBatch, InTurn, Fetched, Held}
use Rattle.hyperslab_plan.specs.Picked.{picked, reach}
use Rattle.hyperslab_plan.specs.Plans.{places, place_of, place_in, size_in, total_of}
use Rattle.hyperslab_plan.specs.declared.batch.Batch.{Batch}
use Rattle.hyperslab_plan.specs.declared.plan.Plan.{Plan}

-- the values of a cut array in row-major order are those at the picked places, where `value` stands at each
abbrev pub CutsArePlaced : Type 0
CutsArePlaced = (slabs : List Slab) (sizes steps : List ℕ) (base : ℕ) (value : ℕ → Value) → AreWithin slabs sizes → length slabs ≡ length steps →
    values_in (cut slabs (indexed_tree sizes (λ indexes. value (base + distance steps indexes)))) ≡ map value (picked slabs steps base)

-- and so those at the positions of a plan that picks these places, in order
abbrev pub PlansCut : Type 0
PlansCut = (plan : Plan) (slabs : List Slab) (sizes steps : List ℕ) (base : ℕ) (value : ℕ → Value) → AreWithin slabs sizes → length slabs ≡ length steps → places plan ≡ picked slabs steps base →
    values_in (cut slabs (indexed_tree sizes (λ indexes. value (base + distance steps indexes)))) ≡ map (λ p. value (place_of plan p)) (range_with_len 0 (total_of plan))

-- Every element of an array of some sizes stands within so many bytes.
abbrev pub AllWithin : List ℕ → List ℕ → ℕ → ℕ → ℕ → Type 0
AllWithin sizes steps base size file_len = (indexes : List ℕ) → AreIndexes sizes indexes → base + distance steps indexes + size ≤ file_len

-- where each element of an array stands in its file, so do those that hyperslabs pick
abbrev pub PickedAreWithin : Type 0
PickedAreWithin = (slabs : List Slab) (sizes steps : List ℕ) (base size file_len : ℕ) → AreWithin slabs sizes → length slabs ≡ length steps → AllWithin sizes steps base size file_len →
    All (λ place. place + size ≤ file_len) (picked slabs steps base)

-- and their places are those of a plan
abbrev pub PickedAreBelow : Type 0
PickedAreBelow = (slabs : List Slab) (sizes steps : List ℕ) (base size file_len : ℕ) → AreWithin slabs sizes → length slabs ≡ length steps → AllWithin sizes steps base size file_len →
    0 < size → file_len ≤ 2 ^ 63 → All (λ place. place < 2 ^ 63) (picked slabs steps base)

-- so they are where the array's last element stands below some place
abbrev pub LastIsHighest : Type 0
LastIsHighest = (slabs : List Slab) (sizes steps : List ℕ) (base most : ℕ) → AreWithin slabs sizes → length slabs ≡ length steps → base + reach sizes steps < most →
    All (λ place. place < most) (picked slabs steps base)

-- the element at each position of a plan stands in the file where each element of the array does
abbrev pub PlansAreWithin : Type 0
PlansAreWithin = (plan : Plan) (slabs : List Slab) (sizes steps : List ℕ) (base size file_len : ℕ) → AreWithin slabs sizes → length slabs ≡ length steps → AllWithin sizes steps base size file_len →
    places plan ≡ picked slabs steps base → (p : ℕ) → p < total_of plan → place_of plan p + size ≤ file_len

-- every element of a batch stands in one of its runs, within its raw bytes
abbrev pub BatchHolds : Type 0
BatchHolds = (plan : Plan) (b : Batch) → IsBatch plan b → (j : ℕ) → j < b.count → Held plan b j × (place_in plan j + size_in plan ≤ b.raw_len)

-- what was fetched holds the bytes of all elements of a batch, in order, as they stand in the file
abbrev pub BatchIsFetched : Type 0
BatchIsFetched = (plan : Plan) (b : Batch) (file raw : List ℕ) → IsBatch plan b → Fetched plan b file raw →
    map (λ j. take (size_in plan) (drop (place_in plan j) raw)) (range_with_len 0 b.count) ≡ map (λ p. take (size_in plan) (drop (place_of plan p) file)) (range_with_len b.first b.count)

-- batches in turn have all positions between two, each once and in order
abbrev pub TurnsAreWhole : Type 0
TurnsAreWhole = (plan : Plan) (batches : List Batch) (from upto : ℕ) → InTurn plan batches from upto →
    (from ≤ upto) × (flat_map (λ b. range_with_len b.first b.count) batches ≡ range_with_len from (upto - from))
