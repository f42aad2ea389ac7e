-- The elements of a batch out of its raw bytes, and their XDR forms.
use Rattle.std.specs.Prelude.{ℕ, ◌/◌, ◌%◌, List, map, take, drop, slice_index}
use Rattle.std.specs.List.{flat_map, range_with_len}
use Rattle.dap_types.specs.declared.declarations.BaseType.{BaseType}
use Rattle.dap_types.specs.declared.values.Value.{Value}
use Rattle.dap_model.specs.Raw.{value_of}
use Rattle.dap_model.specs.Xdr.{bytes_of}
pub use Rattle.dap_model.specs.Xdr.{element_fields}
use Rattle.hyperslab_plan.specs.Numbers.{number_size, width_of}
use Rattle.hyperslab_plan.specs.Plans.{base_in, size_in, width_in, place_in}
use Rattle.hyperslab_plan.specs.declared.batch.Batch.{Batch}
use Rattle.hyperslab_plan.specs.declared.plan.Plan.{Plan}
use Rattle.slab_fill.specs.Spots.{spot}

-- the values of a batch's elements, in order
unfoldable pub values_of : Plan → Batch → List ℕ → List Value
values_of plan batch raw = map (λ j. value_of (base_in plan) (take (size_in plan) (drop (place_in plan j) raw))) (range_with_len 0 batch.count)

-- their XDR forms, one after the other
unfoldable pub xdr_of : Plan → Batch → List ℕ → List ℕ
xdr_of plan batch raw = bytes_of (flat_map (element_fields (base_in plan)) (values_of plan batch raw))

-- the XDR form of the element that some bytes are
unfoldable pub form_of : BaseType → List ℕ → List ℕ
form_of base bytes = bytes_of (element_fields base (value_of base bytes))

-- byte k of what is written for elements that stand `step` bytes apart from `at` on
unfoldable pub row_byte : BaseType → List ℕ → ℕ → ℕ → ℕ → ℕ
row_byte base raw at step k = slice_index (form_of base (take (number_size base) (drop (spot at step (k / width_of base)) raw))) (k % width_of base)

-- byte i of what is written for the elements of a batch
unfoldable pub batch_byte : Plan → List ℕ → ℕ → ℕ
batch_byte plan raw i =
    slice_index (form_of (base_in plan) (take (size_in plan) (drop (place_in plan (i / width_in plan)) raw))) (i % width_in plan)
