-- What reading the marked leaves of a netCDF file may cost, by its header and the marks (this project's).
use Rattle.std.specs.Prelude.{ℕ, ◌+◌, List, [], ◌∷◌, if◌then◌else◌, Option, option_and_then, slice_get}
use Rattle.std.specs.Option.{option_map_or}
use Rattle.dap_types.specs.declared.slabs.Slab.{Slab}
use Rattle.dap_model.specs.Filter.{Marks}
use Rattle.hyperslab_plan.specs.Picked.{cost_of}
use Rattle.netcdf_source.specs.Mapping.{element_dimensions, element_size, is_empty, leaves_from}
use Rattle.netcdf_source.specs.declared.header.Contents.{Contents}
use Rattle.netcdf_source.specs.declared.header.Variable.{Variable}

-- a scalar is not cut
abbrev pub own_slabs : Contents → Variable → List Slab → List Slab
own_slabs c v slabs = if is_empty (element_dimensions c v) then [] else slabs

-- of leaf n, which is that variable: the bytes that its hyperslabs span
abbrev pub variable_cost : Contents → Marks → ℕ → Variable → ℕ
variable_cost c marks n v = option_map_or (λ slabs. cost_of (own_slabs c v slabs) (element_size c v)) (marks n) 0

-- of member n, which is that variable's leaf, or no leaf
abbrev pub slot_cost : Contents → Marks → ℕ → Option ℕ → ℕ
slot_cost c marks n slot = option_map_or (variable_cost c marks n) (option_and_then (slice_get c.variables) slot) 0

unfoldable pub slots_cost : Contents → Marks → ℕ → List (Option ℕ) → ℕ
slots_cost c marks n [] = 0
slots_cost c marks n (slot ∷ slots) = slot_cost c marks n slot + slots_cost c marks (n + 1) slots

-- of all marked leaves
abbrev pub marks_cost : Contents → Marks → ℕ
marks_cost c marks = slots_cost c marks 1 (leaves_from c 0 c.variables)
