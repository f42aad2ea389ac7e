-- What reading the marked leaves of joined files may cost, by their headers and the marks (this project's).
use Rattle.std.specs.Prelude.{ℕ, ◌+◌, List, [], ◌∷◌, map, if◌then◌else◌, Option, option_and_then, slice_get}
use Rattle.std.specs.List.{sum_by}
use Rattle.std.specs.Option.{option_map_or}
use Rattle.dap_types.specs.declared.slabs.Slab.{Slab}
use Rattle.dap_model.specs.Filter.{Marks}
use Rattle.hyperslab_plan.specs.Picked.{cost_of}
use Rattle.netcdf_source.specs.Mapping.{element_size, is_over_records, leaves_from}
use Rattle.netcdf_source.specs.declared.header.Contents.{Contents}
use Rattle.netcdf_source.specs.declared.header.Variable.{Variable}
use Rattle.xdr_encode.specs.Costs.{own_slabs}
use Rattle.join_source.specs.Cutting.{parts_of}
use Rattle.join_source.specs.Members.{joined_contents}

abbrev pub records_each : List Contents → List ℕ
records_each cs = map (λ c. c.records) cs

-- of a record variable: in each file the bytes that the hyperslabs of its own records span
abbrev pub record_cost : List Contents → List Slab → ℕ → ℕ
record_cost cs [] size = 0
record_cost cs (s ∷ rest) size = sum_by (λ part. cost_of (part ∷ rest) size) (parts_of s (records_each cs))

-- of leaf n, which is that variable
abbrev pub variable_cost : List Contents → Marks → ℕ → Variable → ℕ
variable_cost cs marks n v =
    option_map_or (λ slabs. if is_over_records (joined_contents cs) v then record_cost cs slabs (element_size (joined_contents cs) v) else cost_of (own_slabs (joined_contents cs) v slabs) (element_size (joined_contents cs) v)) (marks n) 0

-- of member n, which is that variable's leaf, or no leaf
abbrev pub slot_cost : List Contents → Marks → ℕ → Option ℕ → ℕ
slot_cost cs marks n slot = option_map_or (variable_cost cs marks n) (option_and_then (slice_get (joined_contents cs).variables) slot) 0

unfoldable pub slots_cost : List Contents → Marks → ℕ → List (Option ℕ) → ℕ
slots_cost cs marks n [] = 0
slots_cost cs marks n (slot ∷ slots) = slot_cost cs marks n slot + slots_cost cs marks (n + 1) slots

-- of all marked leaves
abbrev pub joined_cost : List Contents → Marks → ℕ
joined_cost cs marks = slots_cost cs marks 1 (leaves_from (joined_contents cs) 0 (joined_contents cs).variables)
