-- What may have been asked of a netCDF file where its body was put in part, by the file's header and the
-- marks of a constraint (this project's). The marked leaves are read one after the other, each in the
-- batches of a plan from its first element on, and no batch before all was put that stands in the body
-- before the form of the batch's first element.
use Rattle.std.specs.Prelude.{◌≡◌, ℕ, ◌+◌, ◌≤◌, Bool, List, [], ◌∷◌, All, length, take, if◌then◌else◌, MatchOption, Option, option_and_then, slice_get}
use Rattle.std.specs.List.{flat_map}
use Rattle.dap_types.specs.declared.declarations.BaseType.{BaseType}
use Rattle.dap_types.specs.declared.slabs.Slab.{Slab}
use Rattle.dap_types.specs.declared.values.Value.{Value}
use Rattle.dap_model.specs.Filter.{Marks, cut}
use Rattle.dap_model.specs.Fits.{values_in}
use Rattle.dap_model.specs.Xdr.{bytes_of}
use Rattle.hyperslab_plan.specs.Batches.{InTurn, read_by, spent}
use Rattle.hyperslab_plan.specs.Picked.{cost_of}
use Rattle.hyperslab_plan.specs.Plans.{total_of}
use Rattle.hyperslab_plan.specs.declared.batch.Batch.{Batch}
use Rattle.hyperslab_plan.specs.declared.plan.Plan.{Plan}
use Rattle.netcdf_source.specs.Mapping.{base_of, element_dimensions, element_size, is_empty, leaves_from}
use Rattle.netcdf_source.specs.Values.{tree_of}
use Rattle.netcdf_source.specs.declared.header.Contents.{Contents}
use Rattle.netcdf_source.specs.declared.header.Variable.{Variable}
use Rattle.slab_fill.specs.Elements.{element_fields}
use Rattle.xdr_encode.specs.CdfSent.{slot_sent}
use Rattle.xdr_encode.specs.Costs.{own_slabs}
use Rattle.xdr_encode.specs.Leaves.{counts_of}
use Rattle.xdr_encode.specs.Placed.{IsPlanOf}

-- where the form of an element begins in the XDR of its variable: in that of an array behind the counts
-- and the forms before it
abbrev pub begins_among : Bool → BaseType → List Value → ℕ → ℕ
begins_among is_scalar base values p =
    if is_scalar then 0 else length (counts_of base (length values)) + length (bytes_of (flat_map (element_fields base) (take p values)))

abbrev pub element_begins : Contents → List ℕ → Variable → List Slab → ℕ → ℕ
element_begins c file v slabs p = begins_among (is_empty (element_dimensions c v)) (base_of v.external_type) (values_in (cut slabs (tree_of c file v))) p

-- Of a variable whose XDR begins at a place in the body: so many bytes are those of the first batches of
-- a plan for it, all of which read no more than it costs, as far as each begins in the body at or before
-- the end of what was put.
pub record VariableAsks (c : Contents) (file : List ℕ) (v : Variable) (slabs : List Slab) (at put asked : ℕ) : Type 0 where
  pub plan : Plan
  pub is_plan : IsPlanOf c v slabs plan
  pub cost : spent plan (total_of plan) ≤ cost_of slabs (element_size c v)
  pub batches : List Batch
  pub upto : ℕ
  pub in_turn : InTurn plan batches 0 upto
  pub begun : All (λ b. at + element_begins c file v slabs b.first ≤ put) batches
  pub read : asked ≡ read_by plan batches

-- of leaf n, which is that variable: nothing where it is not marked
abbrev pub LeafAsks : Contents → List ℕ → Marks → ℕ → Variable → ℕ → ℕ → ℕ → Type 0
LeafAsks c file marks n v at put asked = MatchOption (marks n) (asked ≡ 0) (λ slabs. VariableAsks c file v (own_slabs c v slabs) at put asked)

-- of member n, which is that variable's leaf, or no leaf
abbrev pub SlotAsks : Contents → List ℕ → Marks → ℕ → Option ℕ → ℕ → ℕ → ℕ → Type 0
SlotAsks c file marks n slot at put asked =
    MatchOption (option_and_then (slice_get c.variables) slot) (asked ≡ 0) (λ v. LeafAsks c file marks n v at put asked)

abbrev pub SlotsAsk : Contents → List ℕ → Marks → ℕ → List (Option ℕ) → ℕ → ℕ → ℕ → Type 0
SlotsAsk c file marks n [] at put asked = asked ≡ 0
SlotsAsk c file marks n (slot ∷ slots) at put asked =
    (own : ℕ) × (others : ℕ) × SlotAsks c file marks n slot at put own
    × SlotsAsk c file marks (n + 1) slots (at + length (bytes_of (slot_sent c file marks n slot))) put others × (asked ≡ own + others)

-- of all marked leaves, whose XDR begins at that place in the body: so many bytes may have been asked
-- where so many of the body were put
abbrev pub MarksAsk : Contents → Marks → List ℕ → ℕ → ℕ → ℕ → Type 0
MarksAsk c marks file at put asked = SlotsAsk c file marks 1 (leaves_from c 0 c.variables) at put asked
