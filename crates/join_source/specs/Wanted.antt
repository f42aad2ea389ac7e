-- What is put of the marked leaves of joined files, piece by piece.
use Rattle.std.specs.Prelude.{◌≡◌, ℕ, ⊤, ◌+◌, ◌<◌, ◌≤◌, Bool, true, false, List, [], ◌∷◌, ◌++◌, All, drop, length, Option, Some, None}
use Rattle.dap_types.specs.Limits.{most_elements}
use Rattle.dap_types.specs.declared.declarations.BaseType.{BaseType}
use Rattle.dap_types.specs.declared.slabs.Slab.{Slab}
use Rattle.dap_model.specs.Cutting.{AreWithin, IsWithin}
use Rattle.dap_model.specs.Filter.{Marks}
use Rattle.dap_model.specs.Xdr.{bytes_of}
use Rattle.hyperslab_plan.specs.Batches.{spent}
use Rattle.hyperslab_plan.specs.Picked.{count_of, cost_of}
use Rattle.hyperslab_plan.specs.Plans.{total_of}
use Rattle.hyperslab_plan.specs.declared.plan.Plan.{Plan}
use Rattle.netcdf_source.specs.File.{FileHeader}
use Rattle.netcdf_source.specs.Layouts.{element_sizes}
use Rattle.netcdf_source.specs.Mapping.{base_of, element_dimensions, element_size, is_over_records, leaf_variable, leaves_from, records_of}
use Rattle.netcdf_source.specs.Parts.{inner, lengths}
use Rattle.netcdf_source.specs.declared.header.Contents.{Contents}
use Rattle.netcdf_source.specs.declared.header.Variable.{Variable}
use Rattle.xdr_encode.specs.Costs.{own_slabs}
use Rattle.xdr_encode.specs.Counts.{first_large, slots_counts}
use Rattle.xdr_encode.specs.Elements.{AreInside}
use Rattle.xdr_encode.specs.Leaves.{counts_of, filler_of, zeros_before}
use Rattle.xdr_encode.specs.Placed.{IsPlanOf}
use Rattle.xdr_encode.specs.Wanted.{IsUnmarked}
use Rattle.join_source.specs.Cutting.{behind, front_of}
use Rattle.join_source.specs.Asked.{JoinedAsk, SlotsAsk}
use Rattle.join_source.specs.Begun.{HaveBegun}
use Rattle.join_source.specs.Costs.{joined_cost, slots_cost}
use Rattle.join_source.specs.Members.{CanJoin, HaveHeaders, contents_of, joined_contents, lengths_of}
use Rattle.join_source.specs.Pieces.{IsInside, pieces_cost, pieces_xdr}
use Rattle.join_source.specs.Sent.{slots_sent}
use Rattle.join_source.specs.Trees.{joined_tree}
use Rattle.join_source.specs.declared.piece.Piece.{Piece}
use Rattle.join_source.specs.declared.piece.Piece.TheVariants.{Text, Elements}

-- the member with that number is this variable of the files together, marked with hyperslabs within it that pick few
-- enough elements
pub record IsMarkedVariable (cs : List Contents) (leaf : ℕ) (v : Variable) (slabs : List Slab) : Type 0 where
  pub can_join : CanJoin cs
  pub is : leaf_variable (joined_contents cs) leaf ≡ Some v
  pub within : AreWithin slabs (element_sizes (joined_contents cs) v)
  pub few : count_of slabs ≤ most_elements

-- the plan of what hyperslabs pick of that leaf in one of the files
pub record IsOwnPlan (header : FileHeader) (leaf : ℕ) (slabs : List Slab) (plan : Plan) : Type 0 where
  pub variable : Variable
  pub is : leaf_variable header.contents leaf ≡ Some variable
  pub within : AreWithin slabs (element_sizes header.contents variable)
  pub of_plan : IsPlanOf header.contents variable slabs plan
  pub inside : AreInside plan header.length
  pub cost : spent plan (total_of plan) ≤ cost_of slabs (element_size header.contents variable)

-- The leaf is a record variable of one of the files, in which these hyperslabs pick few enough elements, the first of
-- them among its own records.
pub record IsOverOwn (header : FileHeader) (leaf : ℕ) (first : Slab) (rest : List Slab) : Type 0 where
  pub variable : Variable
  pub is : leaf_variable header.contents leaf ≡ Some variable
  pub over_records : is_over_records header.contents variable ≡ true
  pub records : records_of header.contents ≡ Some header.contents.records
  pub few_records : header.contents.records ≤ most_elements
  pub within : IsWithin first header.contents.records
  pub rest_within : AreWithin rest (inner (lengths header.contents.dimensions (element_dimensions header.contents variable)))
  pub few : count_of (first ∷ rest) ≤ most_elements

-- so it is in each of some files, with what is left of the first hyperslab in its own records
abbrev pub AreOverOwn : List FileHeader → ℕ → Slab → List Slab → Type 0
AreOverOwn [] leaf left rest = ⊤
AreOverOwn (h ∷ headers) leaf left rest =
    IsOverOwn h leaf (front_of left h.contents.records) rest × ((size : ℕ) × IsWithin left size × (size ≤ most_elements)) × AreOverOwn headers leaf (behind left h.contents.records) rest

-- the pieces of a record variable, a file after the other from number `member` on: each has what is left of the first
-- hyperslab in its own records
abbrev pub AreRecords : ℕ → List FileHeader → ℕ → Slab → List Slab → List Piece → Type 0
AreRecords member [] leaf left rest [] = ⊤
AreRecords member [] leaf left rest (piece ∷ pieces) = ⊥
AreRecords member (h ∷ headers) leaf left rest [] = ⊥
AreRecords member (h ∷ headers) leaf left rest (Text text ∷ pieces) = ⊥
AreRecords member (h ∷ headers) leaf left rest (Elements number plan ∷ pieces) =
    (number ≡ member) × IsOwnPlan h leaf (front_of left h.contents.records ∷ rest) plan × AreRecords (member + 1) headers leaf (behind left h.contents.records) rest pieces

-- those of a whole record variable, with its counts and its filler
pub record AreOverRecords (headers : List FileHeader) (leaf : ℕ) (base : BaseType) (slabs : List Slab) (own : List Piece) : Type 0 where
  pub first : Slab
  pub rest : List Slab
  pub slabs_are : slabs ≡ first ∷ rest
  pub inner : List Piece
  pub each : AreRecords 0 headers leaf first rest inner
  pub parts : own ≡ Text (counts_of base (count_of slabs)) ∷ inner ++ Text (filler_of base (count_of slabs)) ∷ []

-- those of a variable that one file has whole: of an array, or of a scalar
abbrev pub whole_pieces : BaseType → List Slab → Plan → List Piece
whole_pieces base [] plan = Text (zeros_before base) ∷ Elements 0 plan ∷ []
whole_pieces base (s ∷ slabs) plan = Text (counts_of base (count_of (s ∷ slabs))) ∷ Elements 0 plan ∷ Text (filler_of base (count_of (s ∷ slabs))) ∷ []

pub record AreFirst (header : FileHeader) (leaf : ℕ) (base : BaseType) (slabs : List Slab) (own : List Piece) : Type 0 where
  pub plan : Plan
  pub is_plan : IsOwnPlan header leaf slabs plan
  pub parts : own ≡ whole_pieces base slabs plan

-- the first file of some
abbrev pub first_header : List FileHeader → Option FileHeader
first_header [] = None
first_header (h ∷ headers) = Some h

abbrev pub AreOf : Bool → List FileHeader → ℕ → BaseType → List Slab → List Piece → Type 0
AreOf true headers leaf base slabs own = AreOverRecords headers leaf base slabs own
AreOf false headers leaf base slabs own = (h : FileHeader) × (first_header headers ≡ Some h) × AreFirst h leaf base slabs own

-- these are the pieces of member n, a marked leaf
pub record IsMarkedLeaf (headers : List FileHeader) (marks : Marks) (n : ℕ) (own : List Piece) : Type 0 where
  pub variable : Variable
  pub marked_by : List Slab
  pub marked : marks n ≡ Some marked_by
  pub asked : IsMarkedVariable (contents_of headers) n variable (own_slabs (joined_contents (contents_of headers)) variable marked_by)
  pub pieces : AreOf (is_over_records (joined_contents (contents_of headers)) variable) headers n (base_of variable.external_type) (own_slabs (joined_contents (contents_of headers)) variable marked_by) own

-- member n is a marked leaf with too many elements
pub record IsLarge (cs : List Contents) (marks : Marks) (n : ℕ) : Type 0 where
  pub variable : Variable
  pub is : leaf_variable (joined_contents cs) n ≡ Some variable
  pub marked_by : List Slab
  pub marked : marks n ≡ Some marked_by
  pub within : AreWithin (own_slabs (joined_contents cs) variable marked_by) (element_sizes (joined_contents cs) variable)
  pub many : most_elements < count_of (own_slabs (joined_contents cs) variable marked_by)

-- what is put of member n, if it is a marked leaf
abbrev pub IsFound : List FileHeader → Marks → ℕ → Bool → List Piece → Type 0
IsFound headers marks leaf false own = IsUnmarked (joined_contents (contents_of headers)) marks leaf × (own ≡ [])
IsFound headers marks leaf true own = IsMarkedLeaf headers marks leaf own

-- the variables of all members, by number
abbrev pub joined_slots : List Contents → List (Option ℕ)
joined_slots cs = leaves_from (joined_contents cs) 0 (joined_contents cs).variables

-- the pieces of the first k members, among them so many marked leaves
pub record Gathered (headers : List FileHeader) (marks : Marks) (pieces : List Piece) (k sent : ℕ) : Type 0 where
  pub text : (files : List (List ℕ)) → HaveHeaders (contents_of headers) files →
      pieces_xdr pieces files ++ bytes_of (slots_sent (joined_contents (contents_of headers)) (joined_tree (contents_of headers) files) marks (k + 1) (drop k (joined_slots (contents_of headers))))
      ≡ bytes_of (slots_sent (joined_contents (contents_of headers)) (joined_tree (contents_of headers) files) marks 1 (joined_slots (contents_of headers)))
  pub inside : All (IsInside (lengths_of headers)) pieces
  pub cost : pieces_cost pieces + slots_cost (contents_of headers) marks (k + 1) (drop k (joined_slots (contents_of headers))) ≤ joined_cost (contents_of headers) marks
  pub counts : first_large (sent + 1) (slots_counts (joined_contents (contents_of headers)) marks (k + 1) (drop k (joined_slots (contents_of headers)))) ≡ first_large 1 (slots_counts (joined_contents (contents_of headers)) marks 1 (joined_slots (contents_of headers)))
  pub few : sent ≤ k
  pub asks : (files : List (List ℕ)) → HaveHeaders (contents_of headers) files → (at put asked more : ℕ) → HaveBegun pieces files at put asked →
      SlotsAsk (contents_of headers) files marks (k + 1) (drop k (joined_slots (contents_of headers))) (at + length (pieces_xdr pieces files)) put more → JoinedAsk (contents_of headers) marks files at put (asked + more)
