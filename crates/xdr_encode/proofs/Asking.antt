-- The batches of a body's leaves that have begun are batches of the marked variables that have.
use Rattle.std.proofs.Common.{◌≡◌, ℕ, zero, suc, ◌+◌, ◌<◌, ◌≤◌, Bool, true, false, cond, List, [], ◌∷◌, ◌++◌, length, get_or, Option, Some, None, refl, sym, ap, ◌∙◌, subst, arith, length-append}
use Rattle.std.proofs.lemmas.List.FromFn.{length-map-range_with_len, take-map-range_with_len}
use Rattle.std.specs.List.{flat_map}
use Rattle.std.specs.Prelude.{MatchOption}
use Rattle.dap_types.specs.declared.slabs.Slab.{Slab}
use Rattle.dap_model.specs.Cutting.{AreWithin}
use Rattle.dap_model.specs.Filter.{Marks}
use Rattle.dap_model.specs.Xdr.{bytes_of}
use Rattle.hyperslab_plan.specs.Batches.{InTurn}
use Rattle.hyperslab_plan.specs.Picked.{cost_of}
use Rattle.hyperslab_plan.specs.declared.batch.Batch.{Batch}
use Rattle.hyperslab_plan.specs.declared.plan.Plan.{Plan}
use Rattle.netcdf_source.specs.Laws.{HasHeader}
use Rattle.netcdf_source.specs.Layouts.{element_sizes}
use Rattle.netcdf_source.specs.Mapping.{base_of, element_dimensions, element_size, is_empty, leaf_variable}
use Rattle.netcdf_source.specs.declared.header.Contents.{Contents}
use Rattle.netcdf_source.specs.declared.header.Variable.{Variable}
use Rattle.slab_fill.specs.Elements.{element_fields}
use Rattle.xdr_encode.proofs.Placing.{plans_cut}
use Rattle.xdr_encode.specs.Asked.{LeafAsks, VariableAsks, begins_among, element_begins}
use Rattle.xdr_encode.specs.Begun.{HasBegun, HaveBegun}
use Rattle.xdr_encode.specs.Costs.{own_slabs}
use Rattle.xdr_encode.specs.Elements.{forms_from, value_in, values_from}
use Rattle.xdr_encode.specs.Leaves.{begins_in, counts_of}
use Rattle.xdr_encode.specs.Placed.{IsLeafOf}
use Rattle.xdr_encode.specs.Sent.{kind_begins, leaf_begins, leaf_cost, leaf_xdr, leaves_xdr}
use Rattle.xdr_encode.specs.declared.leaf.Kind.TheVariants.{Scalar, Array}
use Rattle.xdr_encode.specs.declared.leaf.Leaf.{Leaf}

-- ---- where an element begins

array-begins : (plan : Plan) (file : List ℕ) (p : ℕ) → p ≤ plan.total → begins_in plan file p ≡ begins_among false plan.base (values_from plan file 0 plan.total) p
unfolding begins_in forms_from
array-begins plan file p le =
    ap (λ n. length (counts_of plan.base n) + length (bytes_of (flat_map (element_fields plan.base) (values_from plan file 0 p)))) (sym (length-map-range_with_len (value_in plan file) 0 plan.total))
    ∙ ap (λ vs. length (counts_of plan.base (length (values_from plan file 0 plan.total))) + length (bytes_of (flat_map (element_fields plan.base) vs))) (sym (take-map-range_with_len (value_in plan file) 0 plan.total p le))

kind-begins : (b : Bool) (plan : Plan) (file : List ℕ) (p : ℕ) → p ≤ plan.total → kind_begins (cond b Scalar Array) plan file p ≡ begins_among b plan.base (values_from plan file 0 plan.total) p
kind-begins true plan file p le = refl
kind-begins false plan file p le = array-begins plan file p le

begins-there : (c : Contents) (file : List ℕ) (n : ℕ) (v : Variable) (slabs : List Slab) (leaf : Leaf) → HasHeader c file → leaf_variable c n ≡ Some v → AreWithin slabs (element_sizes c v) → IsLeafOf c v slabs leaf
    → (p : ℕ) → p ≤ leaf.plan.total → leaf_begins leaf file p ≡ element_begins c file v slabs p
unfolding leaf_begins
begins-there c file n v slabs leaf h is within of_leaf p le =
    ap (λ k. kind_begins k leaf.plan file p) of_leaf.kind
    ∙ kind-begins (is_empty (element_dimensions c v)) leaf.plan file p le
    ∙ ap (λ base. begins_among (is_empty (element_dimensions c v)) base (values_from leaf.plan file 0 leaf.plan.total) p) of_leaf.plan.base
    ∙ ap (λ vs. begins_among (is_empty (element_dimensions c v)) (base_of v.external_type) vs p) (plans_cut c file n v slabs leaf.plan h is within of_leaf.plan)

pub batch-inside : (plan : Plan) (bs : List Batch) (from upto : ℕ) → InTurn plan bs from upto → (k : ℕ) (d : Batch) → k < length bs → (get_or bs k d).first < plan.total
batch-inside plan [] from upto turn k d lt = absurd (omega (arith, lt))
batch-inside plan (b ∷ bs) from upto turn zero d lt = turn.0.inside
batch-inside plan (b ∷ bs) from upto turn (suc k) d lt = batch-inside plan bs (from + b.count) upto turn.2 k d (omega (arith, lt))

-- ---- one member

pub variable-asks : (c : Contents) (file : List ℕ) (n : ℕ) (v : Variable) (slabs : List Slab) (leaf : Leaf) (at put asked : ℕ) → HasHeader c file → leaf_variable c n ≡ Some v → AreWithin slabs (element_sizes c v) → IsLeafOf c v slabs leaf
    → leaf_cost leaf ≤ cost_of slabs (element_size c v) → HasBegun leaf file at put asked → VariableAsks c file v slabs at put asked
variable-asks c file n v slabs leaf at put asked h is within of_leaf costs has = record {
  plan = leaf.plan;
  is_plan = of_leaf.plan;
  cost = costs;
  batches = has.batches;
  upto = has.upto;
  in_turn = has.in_turn;
  begun = λ k d lt.
      let b = get_or has.batches k d in
      let inside : b.first < leaf.plan.total = batch-inside leaf.plan has.batches 0 has.upto has.in_turn k d lt in
      let one : at + leaf_begins leaf file b.first ≤ put = has.begun k d lt in
      let same : leaf_begins leaf file b.first ≡ element_begins c file v slabs b.first = begins-there c file n v slabs leaf h is within of_leaf b.first (omega (arith, inside)) in
      subst (λ x. at + x ≤ put) same one;
  read = has.read;
}

-- by the leaf of the member, if it is a marked one
pub marked-asks : (c : Contents) (file : List ℕ) (marks : Marks) (n : ℕ) (v : Variable) (slabs : List Slab) (leaf : Leaf) (at put asked : ℕ) → HasHeader c file → leaf_variable c n ≡ Some v → marks n ≡ Some slabs
    → AreWithin (own_slabs c v slabs) (element_sizes c v) → IsLeafOf c v (own_slabs c v slabs) leaf → leaf_cost leaf ≤ cost_of (own_slabs c v slabs) (element_size c v) → HaveBegun (leaf ∷ []) file at put asked
    → MatchOption (leaf_variable c n) (asked ≡ 0) (λ w. LeafAsks c file marks n w at put asked)
marked-asks c file marks n v slabs leaf at put asked h is marked within of_leaf costs have =
    let all : asked ≡ have.0 = omega (arith, have.3, have.4) in
    subst (λ o. MatchOption o (asked ≡ 0) (λ w. LeafAsks c file marks n w at put asked)) (sym is)
    (subst (λ o. MatchOption o (asked ≡ 0) (λ ss. VariableAsks c file v (own_slabs c v ss) at put asked)) (sym marked)
    (subst (λ x. VariableAsks c file v (own_slabs c v slabs) at put x) (sym all) (variable-asks c file n v (own_slabs c v slabs) leaf at put have.0 h is within of_leaf costs have.2)))

pub unknown-asks : (c : Contents) (file : List ℕ) (marks : Marks) (n at put asked : ℕ) → leaf_variable c n ≡ None → asked ≡ 0 → MatchOption (leaf_variable c n) (asked ≡ 0) (λ v. LeafAsks c file marks n v at put asked)
unknown-asks c file marks n at put asked none nothing = subst (λ o. MatchOption o (asked ≡ 0) (λ v. LeafAsks c file marks n v at put asked)) (sym none) nothing

pub unmarked-asks : (c : Contents) (file : List ℕ) (marks : Marks) (n at put asked : ℕ) → marks n ≡ None → asked ≡ 0 → MatchOption (leaf_variable c n) (asked ≡ 0) (λ v. LeafAsks c file marks n v at put asked)
unmarked-asks c file marks n at put asked none nothing = go (leaf_variable c n)
  where
    go : (o : Option Variable) → MatchOption o (asked ≡ 0) (λ v. LeafAsks c file marks n v at put asked)
    go None = nothing
    go (Some v) = subst (λ o. MatchOption o (asked ≡ 0) (λ ss. VariableAsks c file v (own_slabs c v ss) at put asked)) (sym none) nothing

-- ---- some leaves, and those of one member more

pub record Parted (leaves more : List Leaf) (file : List ℕ) (at put asked : ℕ) : Type 0 where
  pub own : ℕ
  pub others : ℕ
  pub front : HaveBegun leaves file at put own
  pub back : HaveBegun more file (at + length (leaves_xdr leaves file)) put others
  pub sum : asked ≡ own + others

pub parted : (leaves more : List Leaf) (file : List ℕ) (at put asked : ℕ) → HaveBegun (leaves ++ more) file at put asked → Parted leaves more file at put asked
unfolding leaves_xdr
parted [] more file at put asked have =
    let here : at ≡ at + 0 = omega arith in
    record { own = 0; others = asked; front = refl; back = subst (λ x. HaveBegun more file x put asked) here have; sum = omega arith }
parted (leaf ∷ leaves) more file at put asked have =
    let rest = parted leaves more file (at + length (leaf_xdr leaf file)) put have.1 have.3 in
    let there : at + length (leaf_xdr leaf file) + length (leaves_xdr leaves file) ≡ at + length (leaf_xdr leaf file ++ leaves_xdr leaves file)
    = along at (length (leaf_xdr leaf file)) (length (leaves_xdr leaves file)) ∙ ap (λ x. at + x) (sym (length-append (leaf_xdr leaf file) (leaves_xdr leaves file))) in
    record {
      own = have.0 + rest.own;
      others = rest.others;
      front = (have.0, rest.own, have.2, rest.front, refl);
      back = subst (λ x. HaveBegun more file x put rest.others) there rest.back;
      sum = omega (arith, have.4, rest.sum);
    }
  where
    along : (a x y : ℕ) → a + x + y ≡ a + (x + y)
    along a x y = omega arith
