-- What may have been asked of joined files where their body was put in part, by their headers and the marks of a
-- constraint (this project's). The marked leaves are read one after the other, a record variable in each file in turn,
-- in the batches of a plan from its first element on, and no batch before all was put that stands in the body before
-- the form of the batch's first element.
use Rattle.std.specs.Prelude.{◌≡◌, ℕ, ◌+◌, ◌≤◌, Bool, true, false, List, [], ◌∷◌, All, Some, length, take, MatchOption, Option, slice_get}
use Rattle.std.specs.List.{flat_map}
use Rattle.dap_types.specs.declared.declarations.BaseType.{BaseType}
use Rattle.dap_types.specs.declared.slabs.Slab.{Slab}
use Rattle.dap_types.specs.declared.values.Value.{Value}
use Rattle.dap_model.specs.Filter.{Marks, cut}
use Rattle.dap_model.specs.Fits.{values_in}
use Rattle.dap_model.specs.Xdr.{bytes_of}
use Rattle.hyperslab_plan.specs.Batches.{InTurn, read_by, spent}
use Rattle.hyperslab_plan.specs.Picked.{cost_of, count_of}
use Rattle.hyperslab_plan.specs.Plans.{total_of}
use Rattle.hyperslab_plan.specs.declared.batch.Batch.{Batch}
use Rattle.hyperslab_plan.specs.declared.plan.Plan.{Plan}
use Rattle.netcdf_source.specs.Mapping.{base_of, element_size, is_over_records, leaves_from}
use Rattle.netcdf_source.specs.Values.{tree_of}
use Rattle.netcdf_source.specs.declared.header.Contents.{Contents}
use Rattle.netcdf_source.specs.declared.header.Variable.{Variable}
use Rattle.slab_fill.specs.Elements.{element_fields}
use Rattle.xdr_encode.specs.Asked.{VariableAsks}
use Rattle.xdr_encode.specs.Costs.{own_slabs}
use Rattle.xdr_encode.specs.Leaves.{counts_of}
use Rattle.xdr_encode.specs.Placed.{IsPlanOf}
use Rattle.join_source.specs.Cutting.{behind, front_of}
use Rattle.join_source.specs.Members.{joined_contents}
use Rattle.join_source.specs.Sent.{slot_sent}
use Rattle.join_source.specs.Trees.{joined_tree}

-- the XDR forms of some elements
abbrev pub forms_of : BaseType → List Value → List ℕ
forms_of base values = bytes_of (flat_map (element_fields base) values)

-- Of what hyperslabs pick of a variable of one file, the forms of whose elements begin at a place in the body: so many
-- bytes are those of the first batches of a plan for it, all of which read no more than it costs, as far as each begins
-- in the body at or before the end of what was put.
pub record PartAsks (c : Contents) (file : List ℕ) (v : Variable) (slabs : List Slab) (at put asked : ℕ) : Type 0 where
  pub plan : Plan
  pub is_plan : IsPlanOf c v slabs plan
  pub cost : spent plan (total_of plan) ≤ cost_of slabs (element_size c v)
  pub batches : List Batch
  pub upto : ℕ
  pub in_turn : InTurn plan batches 0 upto
  pub begun : All (λ b. at + length (forms_of (base_of v.external_type) (take b.first (values_in (cut slabs (tree_of c file v))))) ≤ put) batches
  pub read : asked ≡ read_by plan batches

-- of variable number p, a record variable, in one file after the other: of each what is left of the first hyperslab in
-- its own records
abbrev pub RecordsAsk : ℕ → List Contents → List (List ℕ) → Slab → List Slab → ℕ → ℕ → ℕ → Type 0
RecordsAsk p [] files left rest at put asked = asked ≡ 0
RecordsAsk p (c ∷ cs) [] left rest at put asked = asked ≡ 0
RecordsAsk p (c ∷ cs) (file ∷ files) left rest at put asked =
    (v : Variable) × (own : ℕ) × (others : ℕ) × (slice_get c.variables p ≡ Some v) × PartAsks c file v (front_of left c.records ∷ rest) at put own
    × RecordsAsk p cs files (behind left c.records) rest (at + length (forms_of (base_of v.external_type) (values_in (cut (front_of left c.records ∷ rest) (tree_of c file v))))) put others × (asked ≡ own + others)

-- of variable number p in the first file
abbrev pub FirstAsks : ℕ → List Contents → List (List ℕ) → List Slab → ℕ → ℕ → ℕ → Type 0
FirstAsks p [] files slabs at put asked = asked ≡ 0
FirstAsks p (c ∷ cs) [] slabs at put asked = asked ≡ 0
FirstAsks p (c ∷ cs) (file ∷ files) slabs at put asked = (v : Variable) × (slice_get c.variables p ≡ Some v) × VariableAsks c file v slabs at put asked

-- of variable number p, whose XDR begins at a place in the body: that of a record variable begins with the counts
abbrev pub VariablesAsk : Bool → BaseType → ℕ → List Contents → List (List ℕ) → List Slab → ℕ → ℕ → ℕ → Type 0
VariablesAsk true base p cs files [] at put asked = asked ≡ 0
VariablesAsk true base p cs files (s ∷ rest) at put asked = RecordsAsk p cs files s rest (at + length (counts_of base (count_of (s ∷ rest)))) put asked
VariablesAsk false base p cs files slabs at put asked = FirstAsks p cs files slabs at put asked

-- of leaf n, which is that variable: nothing where it is not marked
abbrev pub LeafAsks : List Contents → List (List ℕ) → Marks → ℕ → ℕ → Variable → ℕ → ℕ → ℕ → Type 0
LeafAsks cs files marks n p v at put asked =
    MatchOption (marks n) (asked ≡ 0) (λ slabs. VariablesAsk (is_over_records (joined_contents cs) v) (base_of v.external_type) p cs files (own_slabs (joined_contents cs) v slabs) at put asked)

-- of member n, which is that variable's leaf, or no leaf
abbrev pub PlaceAsks : List Contents → List (List ℕ) → Marks → ℕ → ℕ → ℕ → ℕ → ℕ → Type 0
PlaceAsks cs files marks n p at put asked = MatchOption (slice_get (joined_contents cs).variables p) (asked ≡ 0) (λ v. LeafAsks cs files marks n p v at put asked)

abbrev pub SlotAsks : List Contents → List (List ℕ) → Marks → ℕ → Option ℕ → ℕ → ℕ → ℕ → Type 0
SlotAsks cs files marks n slot at put asked = MatchOption slot (asked ≡ 0) (λ p. PlaceAsks cs files marks n p at put asked)

abbrev pub SlotsAsk : List Contents → List (List ℕ) → Marks → ℕ → List (Option ℕ) → ℕ → ℕ → ℕ → Type 0
SlotsAsk cs files marks n [] at put asked = asked ≡ 0
SlotsAsk cs files marks n (slot ∷ slots) at put asked =
    (own : ℕ) × (others : ℕ) × SlotAsks cs files marks n slot at put own
    × SlotsAsk cs files marks (n + 1) slots (at + length (bytes_of (slot_sent (joined_contents cs) (joined_tree cs files) marks n slot))) put others × (asked ≡ own + others)

-- of all marked leaves, whose XDR begins at that place in the body: so many bytes may have been asked where so many of
-- the body were put
abbrev pub JoinedAsk : List Contents → Marks → List (List ℕ) → ℕ → ℕ → ℕ → Type 0
JoinedAsk cs marks files at put asked = SlotsAsk cs files marks 1 (leaves_from (joined_contents cs) 0 (joined_contents cs).variables) at put asked
