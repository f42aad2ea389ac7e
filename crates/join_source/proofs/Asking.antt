-- The batches of a body's pieces that have begun are batches of the marked variables that have.
use Rattle.std.proofs.Common.{◌≡◌, ℕ, ◌+◌, ◌<◌, ◌≤◌, Bool, true, false, List, [], ◌∷◌, ◌++◌, All, length, take, drop, get_or, Option, Some, None, refl, sym, ap, ◌∙◌, subst, arith, length-append, inl, inr}
use Rattle.std.proofs.lemmas.List.Elements.{All-head, All-tail}
use Rattle.std.proofs.lemmas.List.FromFn.{take-map-range_with_len}
use Rattle.std.proofs.lemmas.List.Sums.{sum_by-cons}
use Rattle.std.specs.List.{AllZip}
use Rattle.std.specs.Prelude.{MatchOption, option_and_then, slice_get}
use Rattle.dap_types.specs.declared.declarations.BaseType.{BaseType}
use Rattle.dap_types.specs.declared.slabs.Slab.{Slab}
use Rattle.dap_types.specs.declared.values.Value.{Value}
use Rattle.dap_model.specs.Cutting.{AreWithin}
use Rattle.dap_model.specs.Filter.{Marks, cut}
use Rattle.dap_model.specs.Fits.{values_in}
use Rattle.hyperslab_plan.specs.Batches.{InTurn}
use Rattle.hyperslab_plan.specs.Picked.{count_of}
use Rattle.hyperslab_plan.specs.Plans.{total_of}
use Rattle.hyperslab_plan.specs.declared.batch.Batch.{Batch}
use Rattle.hyperslab_plan.specs.declared.plan.Plan.{Plan}
use Rattle.netcdf_source.specs.File.{FileHeader}
use Rattle.netcdf_source.specs.Laws.{HasHeader}
use Rattle.netcdf_source.specs.Layouts.{element_sizes}
use Rattle.netcdf_source.specs.Mapping.{base_of, element_dimensions, is_empty, is_over_records, leaf_in, leaf_variable, leaves_from, HaveSameShape}
use Rattle.netcdf_source.specs.Values.{tree_of}
use Rattle.netcdf_source.specs.declared.header.Contents.{Contents}
use Rattle.netcdf_source.specs.declared.header.Variable.{Variable}
use Rattle.xdr_encode.proofs.Asking.{batch-inside}
use Rattle.xdr_encode.proofs.Placing.{plans_cut}
use Rattle.xdr_encode.specs.Asked.{VariableAsks, begins_among}
use Rattle.xdr_encode.specs.Costs.{own_slabs}
use Rattle.xdr_encode.specs.Elements.{forms_from, value_in, values_from}
use Rattle.xdr_encode.specs.Leaves.{counts_of, filler_of, zeros_before}
use Rattle.xdr_encode.specs.Placed.{IsPlanOf}
use Rattle.join_source.proofs.Found.{Placed, joined-records, joined-shape, placed, slot_of}
use Rattle.join_source.proofs.Records.{at-front}
use Rattle.join_source.proofs.Twins.{forms-are, same-base, twin, values-are}
use Rattle.join_source.proofs.Whole.{no-dimensions, some-dimensions, text-piece}
use Rattle.join_source.specs.Asked.{FirstAsks, LeafAsks, PartAsks, RecordsAsk, SlotAsks, VariablesAsk, forms_of}
use Rattle.join_source.specs.Begun.{HasBegun, HaveBegun, PieceHasBegun}
use Rattle.join_source.specs.Cutting.{behind, front_of}
use Rattle.join_source.specs.Members.{HaveHeaders, all_records, contents_of, joined_contents}
use Rattle.join_source.specs.Pieces.{file_in, piece_xdr, pieces_xdr}
use Rattle.join_source.specs.Wanted.{AreFirst, AreOf, AreOverRecords, AreRecords, IsMarkedVariable, IsFound, IsOwnPlan, first_header, whole_pieces}
use Rattle.join_source.specs.declared.piece.Piece.{Piece}
use Rattle.join_source.specs.declared.piece.Piece.TheVariants.{Text, Elements}

-- ---- some pieces, and those behind them

pub record Parted (pieces more : List Piece) (files : List (List ℕ)) (at put asked : ℕ) : Type 0 where
  pub own : ℕ
  pub others : ℕ
  pub front : HaveBegun pieces files at put own
  pub back : HaveBegun more files (at + length (pieces_xdr pieces files)) put others
  pub sum : asked ≡ own + others

pub parted : (pieces more : List Piece) (files : List (List ℕ)) (at put asked : ℕ) → HaveBegun (pieces ++ more) files at put asked → Parted pieces more files at put asked
unfolding pieces_xdr
parted [] more files at put asked have =
    let here : at ≡ at + 0 = omega arith in
    record { own = 0; others = asked; front = refl; back = subst (λ x. HaveBegun more files x put asked) here have; sum = omega arith }
parted (piece ∷ pieces) more files at put asked have =
    let rest = parted pieces more files (at + length (piece_xdr piece files)) put have.1 have.3 in
    let there : at + length (piece_xdr piece files) + length (pieces_xdr pieces files) ≡ at + length (piece_xdr piece files ++ pieces_xdr pieces files)
    = along at (length (piece_xdr piece files)) (length (pieces_xdr pieces files)) ∙ ap (λ x. at + x) (sym (length-append (piece_xdr piece files) (pieces_xdr pieces files))) in
    record {
      own = have.0 + rest.own;
      others = rest.others;
      front = (have.0, rest.own, have.2, rest.front, refl);
      back = subst (λ x. HaveBegun more files x put rest.others) there rest.back;
      sum = omega (arith, have.4, rest.sum);
    }
  where
    along : (a x y : ℕ) → a + x + y ≡ a + (x + y)
    along a x y = omega arith

-- ---- one plan

forms-front : (c : Contents) (file : List ℕ) (leaf : ℕ) (v : Variable) (slabs : List Slab) (plan : Plan) (p : ℕ) → HasHeader c file → leaf_variable c leaf ≡ Some v → AreWithin slabs (element_sizes c v) → IsPlanOf c v slabs plan → p ≤ total_of plan
    → forms_from plan file 0 p ≡ forms_of (base_of v.external_type) (take p (values_in (cut slabs (tree_of c file v))))
unfolding forms_from
forms-front c file leaf v slabs plan p h is within of-plan le =
    ap (λ b. forms_of b (values_from plan file 0 p)) of-plan.base
    ∙ ap (forms_of (base_of v.external_type)) (sym (take-map-range_with_len (value_in plan file) 0 (total_of plan) p le) ∙ ap (take p) (plans_cut c file leaf v slabs plan h is within of-plan))

part-asks : (h : FileHeader) (file : List ℕ) (leaf : ℕ) (slabs : List Slab) (plan : Plan) (at put asked : ℕ) → HasHeader h.contents file → (planned : IsOwnPlan h leaf slabs plan) → HasBegun plan file at put asked → PartAsks h.contents file planned.variable slabs at put asked
part-asks h file leaf slabs plan at put asked have planned begun = record {
  plan = plan;
  is_plan = planned.of_plan;
  cost = planned.cost;
  batches = begun.batches;
  upto = begun.upto;
  in_turn = begun.in_turn;
  begun = λ k d lt.
      let b = get_or begun.batches k d in
      let inside : b.first < total_of plan = batch-inside plan begun.batches 0 begun.upto begun.in_turn k d lt in
      subst (λ bs. at + length bs ≤ put) (forms-front h.contents file leaf planned.variable slabs plan b.first have planned.is planned.within planned.of_plan (omega (arith, inside))) (begun.begun k d lt);
  read = begun.read;
}

-- ---- a record variable

module _ (c : Contents) (few : c.records ≤ 2147483647) (leaf p : ℕ) (v : Variable) (is : leaf_variable c leaf ≡ Some v) (place : leaf_in (leaves_from c 0 c.variables) leaf ≡ Some p) (rest : List Slab) where
  records-ask : (headers : List FileHeader) (member : ℕ) (left : Slab) (pieces : List Piece) (files own : List (List ℕ)) (at put asked : ℕ) → All (HaveSameShape c) (contents_of headers) → all_records (contents_of headers) ≤ 2147483647
      → AllZip HasHeader (contents_of headers) own → drop member files ≡ own → AreRecords member headers leaf left rest pieces → HaveBegun pieces files at put asked → RecordsAsk p (contents_of headers) own left rest at put asked
  unfolding PieceHasBegun piece_xdr
  records-ask [] member left [] files own at put asked all sum have front are begun = begun
  records-ask [] member left (piece ∷ pieces) files own at put asked all sum have front are begun = absurd are
  records-ask (h ∷ headers) member left pieces files [] at put asked all sum have front are begun = absurd have
  records-ask (h ∷ headers) member left [] files (f ∷ own) at put asked all sum have front are begun = absurd are
  records-ask (h ∷ headers) member left (Text text ∷ pieces) files (f ∷ own) at put asked all sum have front are begun = absurd are
  records-ask (h ∷ headers) member left (Elements number plan ∷ pieces) files (f ∷ own) at put asked all sum have front (number-is, planned, others) begun =
      let parts : all_records (contents_of (h ∷ headers)) ≡ h.contents.records + all_records (contents_of headers) = sum_by-cons (λ c. c.records) h.contents (contents_of headers) in
      let shape : HaveSameShape c h.contents = All-head (HaveSameShape c) h.contents (contents_of headers) all in
      let w = planned.variable in
      let same = twin c h.contents leaf p v w shape few (omega (arith, parts, sum)) is place planned.is in
      let first = at-front files member [] f own front in
      let file-is : file_in files number ≡ f = ap (file_in files) number-is ∙ first.is in
      let slabs = front_of left h.contents.records ∷ rest in
      let here : forms_from plan (file_in files number) 0 (total_of plan) ≡ forms_of (base_of w.external_type) (values_in (cut slabs (tree_of h.contents f w)))
      = ap (λ g. forms_from plan g 0 (total_of plan)) file-is ∙ forms-are h.contents f leaf w slabs plan have.0 planned.is planned.within planned.of_plan in
      let more = records-ask headers (member + 1) (behind left h.contents.records) pieces files own (at + length (forms_from plan (file_in files number) 0 (total_of plan))) put begun.1 (All-tail (HaveSameShape c) h.contents (contents_of headers) all) (omega (arith, parts, sum))
      have.1 first.behind others begun.3 in (
        w,
        begun.0,
        begun.1,
        same.at,
        part-asks h f leaf slabs plan at put begun.0 have.0 planned (subst (λ g. HasBegun plan g at put begun.0) file-is begun.2),
        subst (λ bs. RecordsAsk p (contents_of headers) own (behind left h.contents.records) rest (at + length bs) put begun.1) here more,
        begun.4,
      )

text-begun : (text : List ℕ) (files : List (List ℕ)) (at put asked : ℕ) → PieceHasBegun (Text text) files at put asked → asked ≡ 0
unfolding PieceHasBegun
text-begun text files at put asked begun = begun

-- behind a text, and before one
behind-text : (text : List ℕ) (pieces : List Piece) (files : List (List ℕ)) (at put asked : ℕ) → HaveBegun (Text text ∷ pieces) files at put asked → HaveBegun pieces files (at + length text) put asked
behind-text text pieces files at put asked begun =
    let none : begun.0 ≡ 0 = text-begun text files at put begun.0 begun.2 in
    let all : begun.1 ≡ asked = omega (arith, none, begun.4) in
    subst (λ x. HaveBegun pieces files (at + length text) put x) all (subst (λ bs. HaveBegun pieces files (at + length bs) put begun.1) (text-piece text files) begun.3)

before-text : (text : List ℕ) (pieces : List Piece) (files : List (List ℕ)) (at put asked : ℕ) → HaveBegun (pieces ++ Text text ∷ []) files at put asked → HaveBegun pieces files at put asked
before-text text pieces files at put asked begun =
    let apart = parted pieces (Text text ∷ []) files at put asked begun in
    let none : apart.back.0 ≡ 0 = text-begun text files (at + length (pieces_xdr pieces files)) put apart.back.0 apart.back.2 in
    let all : apart.own ≡ asked = omega (arith, none, apart.back.3, apart.back.4, apart.sum) in
    subst (HaveBegun pieces files at put) all apart.front

over-asks : (headers : List FileHeader) (n p : ℕ) (v : Variable) (slabs : List Slab) (own : List Piece) (files : List (List ℕ)) (at put asked : ℕ) → HaveHeaders (contents_of headers) files → IsMarkedVariable (contents_of headers) n v slabs
    → leaf_in (leaves_from (joined_contents (contents_of headers)) 0 (joined_contents (contents_of headers)).variables) n ≡ Some p → AreOverRecords headers n (base_of v.external_type) slabs own → HaveBegun own files at put asked
    → VariablesAsk true (base_of v.external_type) p (contents_of headers) files slabs at put asked
over-asks headers n p v slabs own files at put asked have is-asked place o begun =
    let few : (joined_contents (contents_of headers)).records ≤ 2147483647 = subst (λ m. m ≤ 2147483647) (sym (joined-records (contents_of headers))) is-asked.can_join.few in
    let counts = counts_of (base_of v.external_type) (count_of slabs) in
    let filler = filler_of (base_of v.external_type) (count_of slabs) in
    let inner = before-text filler o.inner files (at + length counts) put asked (behind-text counts (o.inner ++ Text filler ∷ []) files at put asked (subst (λ ps. HaveBegun ps files at put asked) o.parts begun)) in
    let all : RecordsAsk p (contents_of headers) files o.first o.rest (at + length counts) put asked
    = records-ask (joined_contents (contents_of headers)) few n p v is-asked.is place o.rest headers 0 o.first o.inner files files (at + length counts) put asked (joined-shape (contents_of headers) is-asked.can_join.same) is-asked.can_join.few have refl o.each inner in
    subst (λ ss. VariablesAsk true (base_of v.external_type) p (contents_of headers) files ss at put asked) (sym o.slabs_are)
    (subst (λ ss. RecordsAsk p (contents_of headers) files o.first o.rest (at + length (counts_of (base_of v.external_type) (count_of ss))) put asked) o.slabs_are all)

-- ---- another one, which the first file has

one-begun : (plan : Plan) (file : List ℕ) (files : List (List ℕ)) (at put asked : ℕ) → HaveBegun (Elements 0 plan ∷ []) (file ∷ files) at put asked → HasBegun plan file at put asked
unfolding PieceHasBegun
one-begun plan file files at put asked begun =
    let all : begun.0 ≡ asked = omega (arith, begun.3, begun.4) in
    subst (HasBegun plan file at put) all begun.2

whole-asks : (h : FileHeader) (leaf : ℕ) (base : BaseType) (slabs : List Slab) (plan : Plan) (file : List ℕ) (files : List (List ℕ)) (at put asked : ℕ) → HasHeader h.contents file → (planned : IsOwnPlan h leaf slabs plan) → base ≡ base_of planned.variable.external_type
    → HaveBegun (whole_pieces base slabs plan) (file ∷ files) at put asked → VariableAsks h.contents file planned.variable slabs at put asked
whole-asks h leaf base [] plan file files at put asked have planned base-is begun =
    let has = one-begun plan file files (at + length (zeros_before base)) put asked (behind-text (zeros_before base) (Elements 0 plan ∷ []) (file ∷ files) at put asked begun) in
    let v = planned.variable in
    record {
      plan = plan;
      is_plan = planned.of_plan;
      cost = planned.cost;
      batches = has.batches;
      upto = has.upto;
      in_turn = has.in_turn;
      begun = λ k d lt.
          let b = get_or has.batches k d in
          let late : at + length (zeros_before base) + length (forms_from plan file 0 b.first) ≤ put = has.begun k d lt in
          let soon : at + 0 ≤ put = omega (arith, late) in
          subst (λ x. at + begins_among x (base_of v.external_type) (values_in (cut [] (tree_of h.contents file v))) b.first ≤ put) (sym (no-dimensions h.contents (element_dimensions h.contents v) planned.within)) soon;
      read = has.read;
    }
whole-asks h leaf base (s ∷ slabs) plan file files at put asked have planned base-is begun =
    let v = planned.variable in
    let counts = counts_of base (count_of (s ∷ slabs)) in
    let filler = filler_of base (count_of (s ∷ slabs)) in
    let has = one-begun plan file files (at + length counts) put asked (before-text filler (Elements 0 plan ∷ []) (file ∷ files) (at + length counts) put asked (behind-text counts (Elements 0 plan ∷ Text filler ∷ []) (file ∷ files) at put asked begun)) in
    let values = values_in (cut (s ∷ slabs) (tree_of h.contents file v)) in
    let long : length values ≡ count_of (s ∷ slabs) = values-are h.contents file leaf v (s ∷ slabs) plan have planned.is planned.within planned.of_plan in
    let same : counts ≡ counts_of (base_of v.external_type) (length values) = ap (λ b. counts_of b (count_of (s ∷ slabs))) base-is ∙ sym (ap (counts_of (base_of v.external_type)) long) in
    record {
      plan = plan;
      is_plan = planned.of_plan;
      cost = planned.cost;
      batches = has.batches;
      upto = has.upto;
      in_turn = has.in_turn;
      begun = λ k d lt. array-soon at counts v values (get_or has.batches k d).first put same (is_empty (element_dimensions h.contents v)) (some-dimensions h.contents (element_dimensions h.contents v) s slabs planned.within)
          (subst (λ bs. at + length counts + length bs ≤ put) (forms-front h.contents file leaf v (s ∷ slabs) plan (get_or has.batches k d).first have planned.is planned.within planned.of_plan (below has.batches has.upto has.in_turn k d lt)) (has.begun k d lt));
      read = has.read;
    }
  where
    below : (bs : List Batch) (upto : ℕ) → InTurn plan bs 0 upto → (k : ℕ) (d : Batch) → k < length bs → (get_or bs k d).first ≤ total_of plan
    below bs upto turn k d lt = let inside : (get_or bs k d).first < total_of plan = batch-inside plan bs 0 upto turn k d lt in omega (arith, inside)

    array-soon : (at : ℕ) (counts : List ℕ) (v : Variable) (values : List Value) (first put : ℕ) → counts ≡ counts_of (base_of v.external_type) (length values) → (b : Bool) → b ≡ false
        → at + length counts + length (forms_of (base_of v.external_type) (take first values)) ≤ put → at + begins_among b (base_of v.external_type) values first ≤ put
    array-soon at counts v values first put same b not-scalar le =
        let here : at + length (counts_of (base_of v.external_type) (length values)) + length (forms_of (base_of v.external_type) (take first values)) ≤ put = subst (λ bs. at + length bs + length (forms_of (base_of v.external_type) (take first values)) ≤ put) same le in
        let along : at + (length (counts_of (base_of v.external_type) (length values)) + length (forms_of (base_of v.external_type) (take first values))) ≤ put = omega (arith, here) in
        subst (λ x. at + begins_among x (base_of v.external_type) values first ≤ put) (sym not-scalar) along

first-asks : (headers : List FileHeader) (n p : ℕ) (v : Variable) (slabs : List Slab) (own : List Piece) (files : List (List ℕ)) (h : FileHeader) (at put asked : ℕ) → HaveHeaders (contents_of headers) files → IsMarkedVariable (contents_of headers) n v slabs
    → leaf_in (leaves_from (joined_contents (contents_of headers)) 0 (joined_contents (contents_of headers)).variables) n ≡ Some p → first_header headers ≡ Some h → AreFirst h n (base_of v.external_type) slabs own → HaveBegun own files at put asked
    → FirstAsks p (contents_of headers) files slabs at put asked
first-asks [] n p v slabs own files h at put asked have is-asked place first o begun = absurd cc
first-asks (x ∷ headers) n p v slabs own [] h at put asked have is-asked place first o begun = absurd have
first-asks (x ∷ headers) n p v slabs own (f ∷ files) h at put asked have is-asked place first o begun =
    let few : (joined_contents (contents_of (x ∷ headers))).records ≤ 2147483647 = subst (λ m. m ≤ 2147483647) (sym (joined-records (contents_of (x ∷ headers)))) is-asked.can_join.few in
    let sum : all_records (contents_of (x ∷ headers)) ≡ x.contents.records + all_records (contents_of headers) = sum_by-cons (λ c. c.records) x.contents (contents_of headers) in
    let small : x.contents.records ≤ 2147483647 = omega (arith, sum, is-asked.can_join.few) in
    let shape : HaveSameShape (joined_contents (contents_of (x ∷ headers))) h.contents
    = subst (λ y. HaveSameShape (joined_contents (contents_of (x ∷ headers))) y.contents) (one first) (All-head (HaveSameShape (joined_contents (contents_of (x ∷ headers)))) x.contents (contents_of headers) (joined-shape (contents_of (x ∷ headers)) is-asked.can_join.same)) in
    let same = twin (joined_contents (contents_of (x ∷ headers))) h.contents n p v o.is_plan.variable shape few (subst (λ y. y.contents.records ≤ 2147483647) (one first) small) is-asked.is place o.is_plan.is in
    let asks = whole-asks h n (base_of v.external_type) slabs o.plan f files at put asked (subst (λ y. HasHeader y.contents f) (one first) have.0) o.is_plan (same-base v o.is_plan.variable same.alike)
    (subst (λ ps. HaveBegun ps (f ∷ files) at put asked) o.parts begun) in
    subst (λ y. FirstAsks p (y.contents ∷ contents_of headers) (f ∷ files) slabs at put asked) (sym (one first)) (o.is_plan.variable, same.at, asks)
  where
    one : ◌≡◌ {A = Option FileHeader} (Some x) (Some h) → x ≡ h
    one e = cc

-- ---- a member

unknown-asks : (cs : List Contents) (files : List (List ℕ)) (marks : Marks) (n at put asked : ℕ) → leaf_variable (joined_contents cs) n ≡ None → asked ≡ 0 → SlotAsks cs files marks n (slot_of (joined_contents cs) n) at put asked
unfolding leaf_variable
unknown-asks cs files marks n at put asked none nothing = go (slot_of (joined_contents cs) n) none
  where
    go : (o : Option ℕ) → option_and_then (slice_get (joined_contents cs).variables) o ≡ None → SlotAsks cs files marks n o at put asked
    go None e = nothing
    go (Some p) e = subst (λ o. MatchOption o (asked ≡ 0) (λ v. LeafAsks cs files marks n p v at put asked)) (sym e) nothing

unmarked-asks : (cs : List Contents) (files : List (List ℕ)) (marks : Marks) (n at put asked : ℕ) → marks n ≡ None → asked ≡ 0 → SlotAsks cs files marks n (slot_of (joined_contents cs) n) at put asked
unmarked-asks cs files marks n at put asked none nothing = go (slot_of (joined_contents cs) n)
  where
    leaf : (p : ℕ) (o : Option Variable) → MatchOption o (asked ≡ 0) (λ v. LeafAsks cs files marks n p v at put asked)
    leaf p None = nothing
    leaf p (Some v) = subst (λ o. MatchOption o (asked ≡ 0) (λ slabs. VariablesAsk (is_over_records (joined_contents cs) v) (base_of v.external_type) p cs files (own_slabs (joined_contents cs) v slabs) at put asked)) (sym none) nothing

    go : (o : Option ℕ) → SlotAsks cs files marks n o at put asked
    go None = nothing
    go (Some p) = leaf p (slice_get (joined_contents cs).variables p)

pub asks-of : (headers : List FileHeader) (marks : Marks) (n : ℕ) (found : Bool) (own : List Piece) (files : List (List ℕ)) (at put asked : ℕ) → HaveHeaders (contents_of headers) files → IsFound headers marks n found own → HaveBegun own files at put asked
    → SlotAsks (contents_of headers) files marks n (slot_of (joined_contents (contents_of headers)) n) at put asked
asks-of headers marks n false own files at put asked have (unmarked, none) begun =
    let nothing : asked ≡ 0 = subst (λ ps. HaveBegun ps files at put asked) none begun in
    elim unmarked [
      | inl e ↦ unknown-asks (contents_of headers) files marks n at put asked e nothing
      | inr e ↦ unmarked-asks (contents_of headers) files marks n at put asked e nothing
    ]
asks-of headers marks n true own files at put asked have m begun =
    subst (λ o. SlotAsks (contents_of headers) files marks n o at put asked) (sym spot.place)
    (subst (λ o. MatchOption o (asked ≡ 0) (λ v. LeafAsks (contents_of headers) files marks n spot.p v at put asked)) (sym spot.at)
    (subst (λ o. MatchOption o (asked ≡ 0) (λ slabs. VariablesAsk (is_over_records (joined_contents (contents_of headers)) m.variable) (base_of m.variable.external_type) spot.p (contents_of headers) files
    (own_slabs (joined_contents (contents_of headers)) m.variable slabs) at put asked)) (sym m.marked) (go (is_over_records (joined_contents (contents_of headers)) m.variable) m.pieces)))
  where
    spot : Placed (joined_contents (contents_of headers)) n m.variable
    spot = placed (joined_contents (contents_of headers)) n m.variable m.asked.is

    go : (b : Bool) → AreOf b headers n (base_of m.variable.external_type) (own_slabs (joined_contents (contents_of headers)) m.variable m.marked_by) own
        → VariablesAsk b (base_of m.variable.external_type) spot.p (contents_of headers) files (own_slabs (joined_contents (contents_of headers)) m.variable m.marked_by) at put asked
    go true o = over-asks headers n spot.p m.variable (own_slabs (joined_contents (contents_of headers)) m.variable m.marked_by) own files at put asked have m.asked spot.place o begun
    go false (h, first, o) = first-asks headers n spot.p m.variable (own_slabs (joined_contents (contents_of headers)) m.variable m.marked_by) own files h at put asked have m.asked spot.place first o begun
