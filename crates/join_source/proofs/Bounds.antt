-- What the pieces of a member cost, and where they stand.
use Rattle.std.proofs.Common.{◌≡◌, ℕ, ◌+◌, ◌≤◌, Bool, true, false, cond, List, [], ◌∷◌, ◌++◌, All, Option, Some, refl, sym, ap, ◌∙◌, subst, arith}
use Rattle.std.proofs.lemmas.List.Elements.{All-append, All-cons, All-head, All-nil}
use Rattle.std.proofs.lemmas.List.Sums.{sum_by-append, sum_by-cons}
use Rattle.std.specs.List.{sum_by}
use Rattle.std.specs.Option.{option_map_or}
use Rattle.dap_types.specs.Model.{sizes}
use Rattle.dap_types.specs.declared.declarations.BaseType.{BaseType}
use Rattle.dap_types.specs.declared.slabs.Slab.{Slab}
use Rattle.dap_model.specs.Filter.{Marks}
use Rattle.hyperslab_plan.specs.Picked.{count_of, cost_of}
use Rattle.hyperslab_plan.specs.declared.plan.Plan.{Plan}
use Rattle.netcdf_source.specs.File.{FileHeader}
use Rattle.netcdf_source.specs.Mapping.{base_of, element_dimensions, element_size, is_empty, is_over_records, leaf_in, leaf_variable, leaves_from, HaveSameShape}
use Rattle.netcdf_source.specs.declared.header.Contents.{Contents}
use Rattle.netcdf_source.specs.declared.header.Variable.{Variable}
use Rattle.xdr_encode.specs.Costs.{own_slabs}
use Rattle.xdr_encode.specs.Elements.{AreInside}
use Rattle.xdr_encode.specs.Leaves.{counts_of, filler_of, zeros_before}
use Rattle.join_source.proofs.Found.{Placed, is-cut, joined-records, joined-shape, placed, slot_of}
use Rattle.join_source.proofs.Records.{records-cost, records-inside}
use Rattle.join_source.proofs.Twins.{same-size, twin}
use Rattle.join_source.specs.Costs.{record_cost, slot_cost, variable_cost}
use Rattle.join_source.specs.Members.{all_records, contents_of, joined_contents, lengths_of}
use Rattle.join_source.specs.Pieces.{IsInside, piece_cost, pieces_cost}
use Rattle.join_source.specs.Wanted.{AreOf, IsMarkedVariable, IsFound, IsOwnPlan, first_header, whole_pieces}
use Rattle.join_source.specs.declared.piece.Piece.{Piece}
use Rattle.join_source.specs.declared.piece.Piece.TheVariants.{Text, Elements}

-- ---- what it costs

text-cost : (text : List ℕ) → piece_cost (Text text) ≡ 0
unfolding piece_cost
text-cost text = refl

no-cost : pieces_cost [] ≡ 0
unfolding pieces_cost
no-cost = refl

around-cost : (before behind : List ℕ) (inner : List Piece) → pieces_cost (Text before ∷ inner ++ Text behind ∷ []) ≡ pieces_cost inner
unfolding pieces_cost
around-cost before behind inner =
    let one : sum_by piece_cost (Text before ∷ inner ++ Text behind ∷ []) ≡ piece_cost (Text before) + sum_by piece_cost (inner ++ Text behind ∷ []) = sum_by-cons piece_cost (Text before) (inner ++ Text behind ∷ []) in
    let two : sum_by piece_cost (inner ++ Text behind ∷ []) ≡ sum_by piece_cost inner + sum_by piece_cost (Text behind ∷ []) = sum_by-append piece_cost inner (Text behind ∷ []) in
    let three : sum_by piece_cost (Text behind ∷ []) ≡ piece_cost (Text behind) + 0 = sum_by-cons piece_cost (Text behind) [] in
    omega (arith, one, two, three, text-cost before, text-cost behind)

whole-cost : (h : FileHeader) (leaf : ℕ) (base : BaseType) (slabs : List Slab) (plan : Plan) (planned : IsOwnPlan h leaf slabs plan) → pieces_cost (whole_pieces base slabs plan) ≤ cost_of slabs (element_size h.contents planned.variable)
unfolding pieces_cost piece_cost
whole-cost h leaf base [] plan planned = omega (arith, planned.cost)
whole-cost h leaf base (s ∷ slabs) plan planned = omega (arith, planned.cost)

slot-cost : (cs : List Contents) (marks : Marks) (n : ℕ) → slot_cost cs marks n (slot_of (joined_contents cs) n) ≡ option_map_or (variable_cost cs marks n) (leaf_variable (joined_contents cs) n) 0
unfolding leaf_variable
slot-cost cs marks n = refl

cost-as : (cs : List Contents) (marks : Marks) (n : ℕ) (v : Variable) (marked_by : List Slab) (b : Bool) → leaf_variable (joined_contents cs) n ≡ Some v → marks n ≡ Some marked_by → is_over_records (joined_contents cs) v ≡ b
    → slot_cost cs marks n (slot_of (joined_contents cs) n) ≡ cond b (record_cost cs marked_by (element_size (joined_contents cs) v)) (cost_of (own_slabs (joined_contents cs) v marked_by) (element_size (joined_contents cs) v))
cost-as cs marks n v marked_by b is marked over =
    slot-cost cs marks n ∙ ap (λ o. option_map_or (variable_cost cs marks n) o 0) is
    ∙ ap (λ o. option_map_or (λ slabs. cond (is_over_records (joined_contents cs) v) (record_cost cs slabs (element_size (joined_contents cs) v)) (cost_of (own_slabs (joined_contents cs) v slabs) (element_size (joined_contents cs) v))) o 0) marked
    ∙ ap (λ x. cond x (record_cost cs marked_by (element_size (joined_contents cs) v)) (cost_of (own_slabs (joined_contents cs) v marked_by) (element_size (joined_contents cs) v))) over

first-records : (x : FileHeader) (headers : List FileHeader) → all_records (contents_of (x ∷ headers)) ≤ 2147483647 → x.contents.records ≤ 2147483647
first-records x headers few =
    let sum : all_records (contents_of (x ∷ headers)) ≡ x.contents.records + all_records (contents_of headers) = sum_by-cons (λ c. c.records) x.contents (contents_of headers) in
    omega (arith, sum, few)

-- the first file has a variable of that size
first-size : (headers : List FileHeader) (n p : ℕ) (v w : Variable) (slabs : List Slab) (h : FileHeader) → IsMarkedVariable (contents_of headers) n v slabs
    → leaf_in (leaves_from (joined_contents (contents_of headers)) 0 (joined_contents (contents_of headers)).variables) n ≡ Some p → first_header headers ≡ Some h → leaf_variable h.contents n ≡ Some w
    → element_size h.contents w ≡ element_size (joined_contents (contents_of headers)) v
first-size [] n p v w slabs h asked place first is = absurd cc
first-size (x ∷ headers) n p v w slabs h asked place first is =
    let few : (joined_contents (contents_of (x ∷ headers))).records ≤ 2147483647 = subst (λ m. m ≤ 2147483647) (sym (joined-records (contents_of (x ∷ headers)))) asked.can_join.few in
    let shape : HaveSameShape (joined_contents (contents_of (x ∷ headers))) h.contents
    = subst (λ y. HaveSameShape (joined_contents (contents_of (x ∷ headers))) y.contents) (one first) (All-head (HaveSameShape (joined_contents (contents_of (x ∷ headers)))) x.contents (contents_of headers) (joined-shape (contents_of (x ∷ headers)) asked.can_join.same)) in
    let same = twin (joined_contents (contents_of (x ∷ headers))) h.contents n p v w shape few (subst (λ y. y.contents.records ≤ 2147483647) (one first) (first-records x headers asked.can_join.few)) asked.is place is in
    sym (same-size (joined_contents (contents_of (x ∷ headers))) h.contents v w shape same.alike)
  where
    one : ◌≡◌ {A = Option FileHeader} (Some x) (Some h) → x ≡ h
    one e = cc

pub cost-of : (headers : List FileHeader) (marks : Marks) (n : ℕ) (found : Bool) (own : List Piece) → IsFound headers marks n found own → pieces_cost own ≤ slot_cost (contents_of headers) marks n (slot_of (joined_contents (contents_of headers)) n)
cost-of headers marks n false own (unmarked, none) = let nothing : pieces_cost own ≡ 0 = ap pieces_cost none ∙ no-cost in omega (arith, nothing)
cost-of headers marks n true own m = go (is_over_records j m.variable) refl m.pieces
  where
    j : Contents
    j = joined_contents (contents_of headers)

    at : Placed (joined_contents (contents_of headers)) n m.variable
    at = placed (joined_contents (contents_of headers)) n m.variable m.asked.is

    few : (joined_contents (contents_of headers)).records ≤ 2147483647
    few = subst (λ m. m ≤ 2147483647) (sym (joined-records (contents_of headers))) m.asked.can_join.few

    go : (b : Bool) → is_over_records (joined_contents (contents_of headers)) m.variable ≡ b
        → AreOf b headers n (base_of m.variable.external_type) (own_slabs (joined_contents (contents_of headers)) m.variable m.marked_by) own
        → pieces_cost own ≤ slot_cost (contents_of headers) marks n (slot_of (joined_contents (contents_of headers)) n)
    go true over o =
        let uncut = is-cut (is_empty (element_dimensions (joined_contents (contents_of headers)) m.variable)) m.marked_by o.first o.rest o.slabs_are in
        let asked : slot_cost (contents_of headers) marks n (slot_of (joined_contents (contents_of headers)) n) ≡ record_cost (contents_of headers) (o.first ∷ o.rest) (element_size (joined_contents (contents_of headers)) m.variable)
        = cost-as (contents_of headers) marks n m.variable m.marked_by true m.asked.is m.marked over ∙ ap (λ ss. record_cost (contents_of headers) ss (element_size (joined_contents (contents_of headers)) m.variable)) uncut.1 in
        let own-cost : pieces_cost own ≡ pieces_cost o.inner = ap pieces_cost o.parts ∙ around-cost _ _ o.inner in
        let each : pieces_cost o.inner ≤ record_cost (contents_of headers) (o.first ∷ o.rest) (element_size (joined_contents (contents_of headers)) m.variable)
        = records-cost (joined_contents (contents_of headers)) few n at.p m.variable m.asked.is at.place over o.rest headers 0 o.first o.inner (joined-shape (contents_of headers) m.asked.can_join.same) m.asked.can_join.few o.each in
        omega (arith, asked, own-cost, each)
    go false fixed (h, first, o) =
        let slabs = own_slabs (joined_contents (contents_of headers)) m.variable m.marked_by in
        let asked = cost-as (contents_of headers) marks n m.variable m.marked_by false m.asked.is m.marked fixed in
        let size = first-size headers n at.p m.variable o.is_plan.variable slabs h m.asked at.place first o.is_plan.is in
        let whole = whole-cost h n (base_of m.variable.external_type) slabs o.plan o.is_plan in
        subst (λ ps. pieces_cost ps ≤ slot_cost (contents_of headers) marks n (slot_of (joined_contents (contents_of headers)) n)) (sym o.parts)
        (subst (λ x. pieces_cost (whole_pieces (base_of m.variable.external_type) slabs o.plan) ≤ x) (sym asked)
        (subst (λ x. pieces_cost (whole_pieces (base_of m.variable.external_type) slabs o.plan) ≤ cost_of slabs x) size whole))

-- ---- where it stands

text-inside : (sizes : List ℕ) (text : List ℕ) → IsInside sizes (Text text)
unfolding IsInside
text-inside sizes text = tt

first-inside : (headers : List FileHeader) (h : FileHeader) (leaf : ℕ) (slabs : List Slab) (plan : Plan) → first_header headers ≡ Some h → IsOwnPlan h leaf slabs plan → IsInside (lengths_of headers) (Elements 0 plan)
unfolding IsInside
first-inside [] h leaf slabs plan first planned = absurd cc
first-inside (x ∷ headers) h leaf slabs plan first planned = (omega arith, subst (λ y. AreInside plan y.length) (sym (one first)) planned.inside)
  where
    one : ◌≡◌ {A = Option FileHeader} (Some x) (Some h) → x ≡ h
    one e = cc

around-inside : (sizes before behind : List ℕ) (inner : List Piece) → All (IsInside sizes) inner → All (IsInside sizes) (Text before ∷ inner ++ Text behind ∷ [])
around-inside sizes before behind inner all =
    All-cons (IsInside sizes) (Text before) (inner ++ Text behind ∷ []) (text-inside sizes before)
    (All-append (IsInside sizes) inner (Text behind ∷ []) all (All-cons (IsInside sizes) (Text behind) [] (text-inside sizes behind) (All-nil (IsInside sizes))))

whole-inside : (headers : List FileHeader) (h : FileHeader) (leaf : ℕ) (base : BaseType) (slabs : List Slab) (plan : Plan) → first_header headers ≡ Some h → IsOwnPlan h leaf slabs plan → All (IsInside (lengths_of headers)) (whole_pieces base slabs plan)
whole-inside headers h leaf base [] plan first planned =
    All-cons (IsInside (lengths_of headers)) (Text (zeros_before base)) (Elements 0 plan ∷ []) (text-inside (lengths_of headers) (zeros_before base))
    (All-cons (IsInside (lengths_of headers)) (Elements 0 plan) [] (first-inside headers h leaf [] plan first planned) (All-nil (IsInside (lengths_of headers))))
whole-inside headers h leaf base (s ∷ slabs) plan first planned =
    All-cons (IsInside (lengths_of headers)) (Text (counts_of base (count_of (s ∷ slabs)))) (Elements 0 plan ∷ Text (filler_of base (count_of (s ∷ slabs))) ∷ []) (text-inside (lengths_of headers) (counts_of base (count_of (s ∷ slabs))))
    (All-cons (IsInside (lengths_of headers)) (Elements 0 plan) (Text (filler_of base (count_of (s ∷ slabs))) ∷ []) (first-inside headers h leaf (s ∷ slabs) plan first planned)
    (All-cons (IsInside (lengths_of headers)) (Text (filler_of base (count_of (s ∷ slabs)))) [] (text-inside (lengths_of headers) (filler_of base (count_of (s ∷ slabs)))) (All-nil (IsInside (lengths_of headers)))))

pub inside-of : (headers : List FileHeader) (marks : Marks) (n : ℕ) (found : Bool) (own : List Piece) → IsFound headers marks n found own → All (IsInside (lengths_of headers)) own
inside-of headers marks n false own (unmarked, none) = subst (All (IsInside (lengths_of headers))) (sym none) (All-nil (IsInside (lengths_of headers)))
inside-of headers marks n true own m = go (is_over_records (joined_contents (contents_of headers)) m.variable) m.pieces
  where
    go : (b : Bool) → AreOf b headers n (base_of m.variable.external_type) (own_slabs (joined_contents (contents_of headers)) m.variable m.marked_by) own → All (IsInside (lengths_of headers)) own
    go true o = subst (All (IsInside (lengths_of headers))) (sym o.parts) (around-inside (lengths_of headers) (counts_of (base_of m.variable.external_type) (count_of (own_slabs (joined_contents (contents_of headers)) m.variable m.marked_by)))
        (filler_of (base_of m.variable.external_type) (count_of (own_slabs (joined_contents (contents_of headers)) m.variable m.marked_by))) o.inner (records-inside headers 0 n o.first o.rest o.inner (lengths_of headers) refl o.each))
    go false (h, first, o) =
        subst (All (IsInside (lengths_of headers))) (sym o.parts)
        (whole-inside headers h n (base_of m.variable.external_type) (own_slabs (joined_contents (contents_of headers)) m.variable m.marked_by) o.plan first o.is_plan)
