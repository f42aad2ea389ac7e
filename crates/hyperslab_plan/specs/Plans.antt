-- What a plan says of an array's picked elements: how many, where each stands in the file, and where
-- in the bytes that were read together with it.
use Rattle.std.specs.Prelude.{◌≡◌, ℕ, ◌+◌, ◌-◌, ◌*◌, ◌/◌, ◌%◌, List, map}
use Rattle.std.specs.List.{range_with_len}
use Rattle.dap_types.specs.declared.declarations.BaseType.{BaseType}
use Rattle.hyperslab_plan.specs.Numbers.{width_of}
use Rattle.hyperslab_plan.specs.Shapes.{rel_at}
use Rattle.hyperslab_plan.specs.declared.plan.Plan.{Plan}

-- how many elements there are
abbrev pub total_of : Plan → ℕ
total_of plan = plan.total

-- the type of an element, its bytes in the file, and those of its XDR form
abbrev pub base_in : Plan → BaseType
base_in plan = plan.base

abbrev pub size_in : Plan → ℕ
size_in plan = plan.size

abbrev pub width_in : Plan → ℕ
width_in plan = width_of plan.base

-- the elements of a row, and the bytes from one to the next
abbrev pub per_row_in : Plan → ℕ
per_row_in plan = plan.shape.per_row

abbrev pub jump_in : Plan → ℕ
jump_in plan = plan.shape.jump

-- the bytes from the first one of n elements of a row to the last byte of the last one
abbrev pub row_bytes : Plan → ℕ → ℕ
row_bytes plan n = (n - 1) * plan.shape.jump + plan.size

-- the elements of a row stand end to end
abbrev pub IsDense : Plan → Type 0
IsDense plan = jump_in plan ≡ size_in plan

-- where the element at position p stands in the file
abbrev pub place_of : Plan → ℕ → ℕ
place_of plan p = plan.origin + rel_at plan.shape p

-- the places of all elements in row-major order
unfoldable pub places : Plan → List ℕ
places plan = map (place_of plan) (range_with_len 0 plan.total)

-- where the element j of a batch stands in its raw bytes: equally spaced in each row, row after row
unfoldable pub place_in : Plan → ℕ → ℕ
place_in plan j = j / plan.shape.per_row * plan.row_len + j % plan.shape.per_row * plan.shape.jump
