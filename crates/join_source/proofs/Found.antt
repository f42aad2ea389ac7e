-- The pieces that are found of a member of joined files.
use Rattle.std.proofs.Common.{◌≡◌, ℕ, ◌+◌, ◌*◌, ◌≤◌, Bool, true, false, cond, List, [], ◌∷◌, All, Option, Some, None, refl, sym, ap, ◌∙◌, subst, arith, inl, inr}
use Rattle.std.proofs.lemmas.List.Elements.{All-head}
use Rattle.std.proofs.lemmas.List.Sums.{sum_by-cons}
use Rattle.std.specs.Option.{option_map_or}
use Rattle.std.specs.Prelude.{option_and_then, slice_get}
use Rattle.dap_types.specs.Model.{Tree}
use Rattle.dap_types.specs.declared.slabs.Slab.{Slab}
use Rattle.dap_model.specs.Cutting.{AreWithin, IsWithin, cut}
use Rattle.dap_model.specs.Filter.{Marks}
use Rattle.dap_model.specs.Fits.{values_in}
use Rattle.dap_model.specs.Xdr.{array_fields, bytes_of, scalar_fields}
use Rattle.hyperslab_plan.specs.Picked.{count_of}
use Rattle.netcdf_source.proofs.Placed.{element_record}
use Rattle.netcdf_source.specs.File.{FileHeader}
use Rattle.netcdf_source.specs.Laws.{HasHeader}
use Rattle.netcdf_source.specs.Layouts.{element_sizes}
use Rattle.netcdf_source.specs.Mapping.{base_of, element_dimensions, is_empty, is_over_records, leaf_in, leaf_variable, leaves_from, HaveSameShape}
use Rattle.netcdf_source.specs.Values.{tree_of}
use Rattle.netcdf_source.specs.declared.header.Contents.{Contents}
use Rattle.netcdf_source.specs.declared.header.Variable.{Variable}
use Rattle.xdr_encode.specs.Costs.{own_slabs}
use Rattle.join_source.proofs.PickParts.{joined_cuts}
use Rattle.join_source.proofs.Records.{RecordsSent, each_value, records-sent}
use Rattle.join_source.proofs.Twins.{Twin, same-base, same-empty, sizes-first, tree-at, twin}
use Rattle.join_source.proofs.Walk.{pieces-none}
use Rattle.join_source.proofs.Whole.{array-sent, fields_of, whole-sent}
use Rattle.join_source.specs.Cutting.{joined_along}
use Rattle.join_source.specs.Members.{HaveHeaders, all_records, contents_of, first_of, joined_contents}
use Rattle.join_source.specs.Pieces.{pieces_xdr}
use Rattle.join_source.specs.Sent.{place_sent, slot_sent, variable_sent}
use Rattle.join_source.specs.Trees.{first_tree, is_over_records_at, joined_tree, tree_at, trees_at}
use Rattle.join_source.specs.Wanted.{AreFirst, AreOf, AreOverRecords, IsMarkedVariable, IsFound, first_header}
use Rattle.join_source.specs.declared.piece.Piece.{Piece}

-- the number of the variable of a member
abbrev pub slot_of : Contents → ℕ → Option ℕ
slot_of c n = leaf_in (leaves_from c 0 c.variables) n

pub record Placed (c : Contents) (n : ℕ) (v : Variable) : Type 0 where
  pub p : ℕ
  pub place : leaf_in (leaves_from c 0 c.variables) n ≡ Some p
  pub at : slice_get c.variables p ≡ Some v

pub placed : (c : Contents) (n : ℕ) (v : Variable) → leaf_variable c n ≡ Some v → Placed c n v
unfolding leaf_variable
placed c n v is = go (leaf_in (leaves_from c 0 c.variables) n) refl is
  where
    go : (o : Option ℕ) → leaf_in (leaves_from c 0 c.variables) n ≡ o → option_and_then (slice_get c.variables) o ≡ Some v → Placed c n v
    go None e q = absurd cc
    go (Some p) e q = record { p = p; place = e; at = q }

pub joined-shape : (cs : List Contents) → All (HaveSameShape (first_of cs)) cs → All (HaveSameShape (joined_contents cs)) cs
unfolding joined_contents
joined-shape cs all = λ k d lt. record { dimensions = (all k d lt).dimensions; variables = (all k d lt).variables }

pub joined-records : (cs : List Contents) → (joined_contents cs).records ≡ all_records cs
unfolding joined_contents
joined-records cs = refl

-- hyperslabs of a leaf that has some are those of its mark
pub is-cut : (b : Bool) (marked_by : List Slab) (s : Slab) (rest : List Slab) → cond b [] marked_by ≡ s ∷ rest → (b ≡ false) × (marked_by ≡ s ∷ rest)
is-cut true marked_by s rest e = absurd cc
is-cut false marked_by s rest e = (refl, e)

within-records : (c : Contents) (v : Variable) (slabs : List Slab) (s : Slab) (rest : List Slab) → is_over_records c v ≡ true → AreWithin slabs (element_sizes c v) → slabs ≡ s ∷ rest → IsWithin s c.records
within-records c v slabs s rest over within e =
    let sizes = sizes-first c (element_dimensions c v) (element_record c v ∙ over) in
    (subst (AreWithin (s ∷ rest)) sizes.1 (subst (λ ss. AreWithin ss (element_sizes c v)) e within)).0

-- ---- what is sent of it

sent-as : (c : Contents) (marks : Marks) (t : Tree) (n : ℕ) (v : Variable) (marked_by : List Slab) → marks n ≡ Some marked_by → variable_sent c marks t n v ≡ fields_of (is_empty (element_dimensions c v)) (base_of v.external_type) (own_slabs c v marked_by) t
sent-as c marks t n v marked_by marked =
    ap (λ o. option_map_or (λ slabs. cond (is_empty (element_dimensions c v)) (scalar_fields (base_of v.external_type) t) (array_fields (base_of v.external_type) (values_in (cut slabs t)))) o []) marked
    ∙ by-rank (is_empty (element_dimensions c v))
  where
    by-rank : (b : Bool) → fields_of b (base_of v.external_type) marked_by t ≡ fields_of b (base_of v.external_type) (cond b [] marked_by) t
    by-rank true = refl
    by-rank false = refl

slot-as : (c : Contents) (tree : ℕ → Tree) (marks : Marks) (n p : ℕ) (v : Variable) → leaf_in (leaves_from c 0 c.variables) n ≡ Some p → slice_get c.variables p ≡ Some v → slot_sent c tree marks n (slot_of c n) ≡ variable_sent c marks (tree p) n v
slot-as c tree marks n p v place at =
    ap (λ o. option_map_or (place_sent c tree marks n) o []) place ∙ ap (λ o. option_map_or (variable_sent c marks (tree p) n) o []) at

over-sent : (headers : List FileHeader) (n p : ℕ) (v : Variable) (slabs : List Slab) (own : List Piece) (files : List (List ℕ)) → HaveHeaders (contents_of headers) files → IsMarkedVariable (contents_of headers) n v slabs
    → leaf_in (leaves_from (joined_contents (contents_of headers)) 0 (joined_contents (contents_of headers)).variables) n ≡ Some p → slice_get (joined_contents (contents_of headers)).variables p ≡ Some v
    → is_over_records (joined_contents (contents_of headers)) v ≡ true → AreOverRecords headers n (base_of v.external_type) slabs own
    → pieces_xdr own files ≡ bytes_of (array_fields (base_of v.external_type) (values_in (cut slabs (joined_tree (contents_of headers) files p))))
unfolding joined_tree
over-sent headers n p v slabs own files have asked place at over o =
    ap (λ ps. pieces_xdr ps files) o.parts
    ∙ array-sent (base_of v.external_type) (each_value p o.first o.rest (contents_of headers) files) (count_of slabs) o.inner files (all.long ∙ sym (ap count_of o.slabs_are)) all.text
    ∙ ap (λ vs. bytes_of (array_fields (base_of v.external_type) vs)) (sym (joined_cuts o.first o.rest (trees_at p (contents_of headers) files) within.0))
    ∙ ap (λ ss. bytes_of (array_fields (base_of v.external_type) (values_in (cut ss (joined_along (trees_at p (contents_of headers) files)))))) (sym o.slabs_are)
    ∙ sym (ap (λ b. bytes_of (array_fields (base_of v.external_type) (values_in (cut slabs (cond b (joined_along (trees_at p (contents_of headers) files)) (first_tree (trees_at p (contents_of headers) files))))))) over-at)
  where
    over-at : is_over_records_at (joined_contents (contents_of headers)) p ≡ true
    over-at = ap (λ o. option_map_or (is_over_records (joined_contents (contents_of headers))) o false) at ∙ over

    within : IsWithin o.first (all_records (contents_of headers))
    within = subst (IsWithin o.first) (joined-records (contents_of headers)) (within-records (joined_contents (contents_of headers)) v slabs o.first o.rest over asked.within o.slabs_are)

    few : (joined_contents (contents_of headers)).records ≤ 2147483647
    few = subst (λ m. m ≤ 2147483647) (sym (joined-records (contents_of headers))) asked.can_join.few

    all : RecordsSent o.inner files (each_value p o.first o.rest (contents_of headers) files) (base_of v.external_type) (o.first.count * count_of o.rest)
    all = records-sent (joined_contents (contents_of headers)) few n p v asked.is place over o.rest headers 0 o.first o.inner files files (joined-shape (contents_of headers) asked.can_join.same) asked.can_join.few within have refl o.each

first-sent : (headers : List FileHeader) (n p : ℕ) (v : Variable) (slabs : List Slab) (own : List Piece) (files : List (List ℕ)) (h : FileHeader) → HaveHeaders (contents_of headers) files → IsMarkedVariable (contents_of headers) n v slabs
    → leaf_in (leaves_from (joined_contents (contents_of headers)) 0 (joined_contents (contents_of headers)).variables) n ≡ Some p → slice_get (joined_contents (contents_of headers)).variables p ≡ Some v
    → is_over_records (joined_contents (contents_of headers)) v ≡ false → first_header headers ≡ Some h → AreFirst h n (base_of v.external_type) slabs own
    → pieces_xdr own files ≡ bytes_of (fields_of (is_empty (element_dimensions (joined_contents (contents_of headers)) v)) (base_of v.external_type) slabs (joined_tree (contents_of headers) files p))
unfolding joined_tree
first-sent [] n p v slabs own files h have asked place at fixed first o = absurd cc
first-sent (x ∷ headers) n p v slabs own [] h have asked place at fixed first o = absurd have
first-sent (x ∷ headers) n p v slabs own (f ∷ files) h have asked place at fixed first o =
    ap (λ ps. pieces_xdr ps (f ∷ files)) o.parts
    ∙ whole-sent h n (base_of v.external_type) slabs o.plan f files own-header o.is_plan (same-base v w same.alike)
    ∙ ap (λ b. bytes_of (fields_of b (base_of v.external_type) slabs (tree_of h.contents f w))) (sym (same-empty j h.contents v w shape same.alike))
    ∙ ap (λ t. bytes_of (fields_of (is_empty (element_dimensions j v)) (base_of v.external_type) slabs t))
    (sym (tree-at h.contents p w f same.at) ∙ ap (λ y. tree_at p y.contents f) (sym one))
    ∙ sym (ap (λ b. bytes_of (fields_of (is_empty (element_dimensions j v)) (base_of v.external_type) slabs (cond b (joined_along (trees_at p (contents_of (x ∷ headers)) (f ∷ files))) (first_tree (trees_at p (contents_of (x ∷ headers)) (f ∷ files)))))) over-at)
  where
    j : Contents
    j = joined_contents (contents_of (x ∷ headers))

    w : Variable
    w = o.is_plan.variable

    one : x ≡ h
    one = go first
      where
        go : ◌≡◌ {A = Option FileHeader} (Some x) (Some h) → x ≡ h
        go e = cc

    own-header : HasHeader h.contents f
    own-header = subst (λ y. HasHeader y.contents f) one have.0

    shape : HaveSameShape (joined_contents (contents_of (x ∷ headers))) h.contents
    shape = subst (λ y. HaveSameShape (joined_contents (contents_of (x ∷ headers))) y.contents) one (All-head (HaveSameShape (joined_contents (contents_of (x ∷ headers)))) x.contents (contents_of headers) (joined-shape (contents_of (x ∷ headers)) asked.can_join.same))

    sum : all_records (contents_of (x ∷ headers)) ≡ x.contents.records + all_records (contents_of headers)
    sum = sum_by-cons (λ c. c.records) x.contents (contents_of headers)

    small : x.contents.records ≤ 2147483647
    small = omega (arith, sum, asked.can_join.few)

    few : (joined_contents (contents_of (x ∷ headers))).records ≤ 2147483647
    few = subst (λ m. m ≤ 2147483647) (sym (joined-records (contents_of (x ∷ headers)))) asked.can_join.few

    same : Twin h.contents p v o.is_plan.variable
    same = twin (joined_contents (contents_of (x ∷ headers))) h.contents n p v o.is_plan.variable shape few (subst (λ y. y.contents.records ≤ 2147483647) one small) asked.is place o.is_plan.is

    over-at : is_over_records_at (joined_contents (contents_of (x ∷ headers))) p ≡ false
    over-at = ap (λ o. option_map_or (is_over_records (joined_contents (contents_of (x ∷ headers)))) o false) at ∙ fixed

none-sent : (c : Contents) (tree : ℕ → Tree) (marks : Marks) (n : ℕ) → leaf_variable c n ≡ None → slot_sent c tree marks n (slot_of c n) ≡ []
unfolding leaf_variable
none-sent c tree marks n none = go (leaf_in (leaves_from c 0 c.variables) n) none
  where
    go : (o : Option ℕ) → option_and_then (slice_get c.variables) o ≡ None → slot_sent c tree marks n o ≡ []
    go None e = refl
    go (Some p) e = ap (λ o. option_map_or (variable_sent c marks (tree p) n) o []) e

unmarked-sent : (c : Contents) (tree : ℕ → Tree) (marks : Marks) (n : ℕ) → marks n ≡ None → slot_sent c tree marks n (slot_of c n) ≡ []
unmarked-sent c tree marks n none = go (leaf_in (leaves_from c 0 c.variables) n)
  where
    at : (p : ℕ) (o : Option Variable) → option_map_or (variable_sent c marks (tree p) n) o [] ≡ []
    at p None = refl
    at p (Some v) = ap (λ o. option_map_or (λ slabs. cond (is_empty (element_dimensions c v)) (scalar_fields (base_of v.external_type) (tree p)) (array_fields (base_of v.external_type) (values_in (cut slabs (tree p))))) o []) none

    go : (o : Option ℕ) → slot_sent c tree marks n o ≡ []
    go None = refl
    go (Some p) = at p (slice_get c.variables p)

pub sent-of : (headers : List FileHeader) (marks : Marks) (n : ℕ) (found : Bool) (own : List Piece) (files : List (List ℕ)) → HaveHeaders (contents_of headers) files → IsFound headers marks n found own
    → pieces_xdr own files ≡ bytes_of (slot_sent (joined_contents (contents_of headers)) (joined_tree (contents_of headers) files) marks n (slot_of (joined_contents (contents_of headers)) n))
unfolding bytes_of
sent-of headers marks n false own files have (unmarked, none) = ap (λ ps. pieces_xdr ps files) none ∙ pieces-none files ∙ ap bytes_of (sym (elim unmarked [
  | inl e ↦ none-sent (joined_contents (contents_of headers)) (joined_tree (contents_of headers) files) marks n e
  | inr e ↦ unmarked-sent (joined_contents (contents_of headers)) (joined_tree (contents_of headers) files) marks n e
]))
sent-of headers marks n true own files have m = go (is_over_records (joined_contents (contents_of headers)) m.variable) refl m.pieces
    ∙ ap bytes_of (sym (slot-as (joined_contents (contents_of headers)) (joined_tree (contents_of headers) files) marks n at.p m.variable at.place at.at
    ∙ sent-as (joined_contents (contents_of headers)) marks (joined_tree (contents_of headers) files at.p) n m.variable m.marked_by m.marked))
  where
    at : Placed (joined_contents (contents_of headers)) n m.variable
    at = placed (joined_contents (contents_of headers)) n m.variable m.asked.is

    go : (b : Bool) → is_over_records (joined_contents (contents_of headers)) m.variable ≡ b
        → AreOf b headers n (base_of m.variable.external_type) (own_slabs (joined_contents (contents_of headers)) m.variable m.marked_by) own
        → pieces_xdr own files ≡ bytes_of (fields_of (is_empty (element_dimensions (joined_contents (contents_of headers)) m.variable)) (base_of m.variable.external_type) (own_slabs (joined_contents (contents_of headers)) m.variable m.marked_by)
        (joined_tree (contents_of headers) files at.p))
    go true over o =
        over-sent headers n at.p m.variable (own_slabs (joined_contents (contents_of headers)) m.variable m.marked_by) own files have m.asked at.place at.at over o
        ∙ sym (ap (λ b. bytes_of (fields_of b (base_of m.variable.external_type) (own_slabs (joined_contents (contents_of headers)) m.variable m.marked_by) (joined_tree (contents_of headers) files at.p)))
        (is-cut (is_empty (element_dimensions (joined_contents (contents_of headers)) m.variable)) m.marked_by o.first o.rest o.slabs_are).0)
    go false fixed (h, first, o) = first-sent headers n at.p m.variable (own_slabs (joined_contents (contents_of headers)) m.variable m.marked_by) own files h have m.asked at.place at.at fixed first o
