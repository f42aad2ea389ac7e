-- What is asked of the marked leaves of a netCDF file.
use Rattle.std.specs.Prelude.{◌≡◌, ℕ, ◌+◌, ◌≤◌, ◌<◌, ◌^◌, ◌⊎◌, List, ◌++◌, drop, length, All, Option, Some, None}
use Rattle.dap_types.specs.Limits.{most_elements}
use Rattle.dap_types.specs.declared.declarations.BaseType.{BaseType}
use Rattle.dap_types.specs.declared.slabs.Layout.{Layout}
use Rattle.dap_types.specs.declared.slabs.Slab.{Slab}
use Rattle.dap_model.specs.Cutting.{AreWithin}
use Rattle.dap_model.specs.Filter.{Marks}
use Rattle.dap_model.specs.Xdr.{bytes_of}
use Rattle.hyperslab_plan.specs.Picked.{count_of, cost_of}
use Rattle.netcdf_source.specs.Laws.{HasHeader}
use Rattle.netcdf_source.specs.Layouts.{element_sizes, layout_of, IsPlaced, IsShaped}
use Rattle.netcdf_source.specs.Mapping.{base_of, element_size, leaf_variable, leaves_from}
use Rattle.netcdf_source.specs.declared.header.Contents.{Contents}
use Rattle.netcdf_source.specs.declared.header.Variable.{Variable}
use Rattle.xdr_encode.specs.CdfSent.{slots_sent}
use Rattle.xdr_encode.specs.Asked.{SlotsAsk}
use Rattle.xdr_encode.specs.Begun.{HaveBegun}
use Rattle.xdr_encode.specs.Costs.{marks_cost, own_slabs, slots_cost}
use Rattle.xdr_encode.specs.Counts.{first_large, slots_counts}
use Rattle.xdr_encode.specs.Placed.{IsLeafOf}
use Rattle.xdr_encode.specs.Sent.{IsInside, leaf_cost, leaves_cost, leaves_xdr}
use Rattle.xdr_encode.specs.declared.leaf.Leaf.{Leaf}

-- the hyperslabs of each marked leaf pick within it
unfoldable pub AreSuited : Contents → Marks → Type 0
AreSuited c marks = (n : ℕ) (v : Variable) (slabs : List Slab) → leaf_variable c n ≡ Some v → marks n ≡ Some slabs → AreWithin (own_slabs c v slabs) (element_sizes c v)

-- member n is a marked leaf, with that layout, type and hyperslabs
pub record IsWanted (c : Contents) (file_len : ℕ) (marks : Marks) (n : ℕ) (layout : Layout) (base : BaseType) (slabs : List Slab) : Type 0 where
  pub variable : Variable
  pub is : leaf_variable c n ≡ Some variable
  pub marked_by : List Slab
  pub marked : marks n ≡ Some marked_by
  pub layout_is : layout ≡ layout_of c variable
  pub base_is : base ≡ base_of variable.external_type
  pub slabs_are : slabs ≡ own_slabs c variable marked_by
  pub placed : IsPlaced c file_len variable layout
  pub shaped : IsShaped c variable layout
  pub below : file_len < 2 ^ 63

-- it is no leaf, or not marked
abbrev pub IsUnmarked : Contents → Marks → ℕ → Type 0
IsUnmarked c marks n = (leaf_variable c n ≡ None) ⊎ (marks n ≡ None)

-- this is what is sent of member n, a marked leaf
pub record IsMarkedLeaf (c : Contents) (file_len : ℕ) (marks : Marks) (n : ℕ) (leaf : Leaf) : Type 0 where
  pub variable : Variable
  pub is : leaf_variable c n ≡ Some variable
  pub marked_by : List Slab
  pub marked : marks n ≡ Some marked_by
  pub within : AreWithin (own_slabs c variable marked_by) (element_sizes c variable)
  pub of_variable : IsLeafOf c variable (own_slabs c variable marked_by) leaf
  pub placed : IsPlaced c file_len variable (layout_of c variable)
  pub cost : leaf_cost leaf ≤ cost_of (own_slabs c variable marked_by) (element_size c variable)
  pub few : count_of (own_slabs c variable marked_by) ≤ most_elements

-- what is sent of member n, if anything is
abbrev pub IsFound : Contents → ℕ → Marks → ℕ → Option Leaf → Type 0
IsFound c file_len marks n None = IsUnmarked c marks n
IsFound c file_len marks n (Some leaf) = IsMarkedLeaf c file_len marks n leaf

-- member n is a marked leaf with too many elements
pub record IsLarge (c : Contents) (marks : Marks) (n : ℕ) : Type 0 where
  pub variable : Variable
  pub is : leaf_variable c n ≡ Some variable
  pub marked_by : List Slab
  pub marked : marks n ≡ Some marked_by
  pub within : AreWithin (own_slabs c variable marked_by) (element_sizes c variable)
  pub many : most_elements < count_of (own_slabs c variable marked_by)

-- the leaves of the first k members
pub record Gathered (c : Contents) (file_len : ℕ) (marks : Marks) (leaves : List Leaf) (k : ℕ) : Type 0 where
  pub text : (file : List ℕ) → HasHeader c file →
      leaves_xdr leaves file ++ bytes_of (slots_sent c file marks (k + 1) (drop k (leaves_from c 0 c.variables))) ≡ bytes_of (slots_sent c file marks 1 (leaves_from c 0 c.variables))
  pub inside : All (IsInside file_len) leaves
  pub cost : leaves_cost leaves + slots_cost c marks (k + 1) (drop k (leaves_from c 0 c.variables)) ≤ marks_cost c marks
  pub counts : first_large (length leaves + 1) (slots_counts c marks (k + 1) (drop k (leaves_from c 0 c.variables))) ≡ first_large 1 (slots_counts c marks 1 (leaves_from c 0 c.variables))
  pub few : length leaves ≤ k
  pub asks : (file : List ℕ) → HasHeader c file → (at put asked more : ℕ) → HaveBegun leaves file at put asked →
      SlotsAsk c file marks (k + 1) (drop k (leaves_from c 0 c.variables)) (at + length (leaves_xdr leaves file)) put more → SlotsAsk c file marks 1 (leaves_from c 0 c.variables) at put (asked + more)
