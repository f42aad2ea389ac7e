-- The pieces of a record variable of joined files are the values of all its records.
use Rattle.std.proofs.Common.{◌≡◌, ℕ, zero, suc, ◌+◌, ◌-◌, ◌*◌, ◌<◌, ◌≤◌, true, List, [], ◌∷◌, ◌++◌, All, length, drop, get_or, Some, refl, sym, ap, ◌∙◌, subst, arith, length-append}
use Rattle.std.proofs.lemmas.Grind.{flat_map-append}
use Rattle.std.proofs.lemmas.List.{drop_more, length-drop}
use Rattle.std.proofs.lemmas.List.Elements.{All-cons, All-head, All-nil, All-tail}
use Rattle.std.proofs.lemmas.List.Sums.{sum_by-cons}
use Rattle.std.specs.List.{flat_map, sum_by, zip, AllZip}
use Rattle.hyperslab_plan.proofs.PickedLemmas.{index-within}
use Rattle.dap_types.specs.Model.{kids}
use Rattle.dap_types.specs.declared.declarations.BaseType.{BaseType}
use Rattle.dap_types.specs.declared.slabs.Slab.{Slab}
use Rattle.dap_types.specs.declared.values.Value.{Value}
use Rattle.dap_model.proofs.Values.{bytes_of-append}
use Rattle.dap_model.specs.Cutting.{IsWithin, cut}
use Rattle.dap_model.specs.Fits.{values_in}
use Rattle.dap_model.specs.Xdr.{bytes_of}
use Rattle.hyperslab_plan.specs.Picked.{count_of, cost_of}
use Rattle.hyperslab_plan.specs.Plans.{total_of}
use Rattle.hyperslab_plan.specs.declared.plan.Plan.{Plan}
use Rattle.netcdf_source.specs.File.{FileHeader}
use Rattle.netcdf_source.specs.Laws.{HasHeader}
use Rattle.netcdf_source.specs.Mapping.{base_of, element_size, is_over_records, leaf_in, leaf_variable, leaves_from, HaveSameShape}
use Rattle.netcdf_source.specs.Values.{tree_of}
use Rattle.netcdf_source.specs.declared.header.Contents.{Contents}
use Rattle.netcdf_source.specs.declared.header.Variable.{Variable}
use Rattle.slab_fill.specs.Elements.{element_fields}
use Rattle.xdr_encode.specs.Elements.{AreInside, forms_from}
use Rattle.join_source.proofs.Leaves.{same-over}
use Rattle.join_source.proofs.Twins.{forms-are, record-kids, same-base, same-size, tree-at, twin, values-are}
use Rattle.join_source.proofs.Walk.{pieces-cons, pieces-none}
use Rattle.join_source.proofs.Within.{behind-within}
use Rattle.join_source.proofs.PickParts.{few-below}
use Rattle.join_source.specs.Costs.{records_each}
use Rattle.join_source.specs.Cutting.{behind, count_below, front_of, parts_of}
use Rattle.join_source.specs.Cutting as cutting
use Rattle.join_source.specs.Members.{all_records, contents_of, lengths_of}
use Rattle.join_source.specs.Pieces.{IsInside, file_in, piece_cost, piece_xdr, pieces_cost, pieces_xdr}
use Rattle.join_source.specs.Trees.{trees_at}
use Rattle.join_source.specs.Wanted.{AreRecords, IsOwnPlan}
use Rattle.join_source.specs.declared.piece.Piece.{Piece}
use Rattle.join_source.specs.declared.piece.Piece.TheVariants.{Text, Elements}

-- the item at the front of what is left of a list
pub record AtFront {X : Type 0} (xs : List X) (m : ℕ) (d x : X) (rest : List X) : Type 0 where
  pub below : m < length xs
  pub is : get_or xs m d ≡ x
  pub behind : drop (m + 1) xs ≡ rest

pub at-front : {X : Type 0} (xs : List X) (m : ℕ) (d x : X) (rest : List X) → drop m xs ≡ x ∷ rest → AtFront xs m d x rest
at-front {X = X} xs m d x rest e = record { below = here; is = head parts; behind = tail parts }
  where
    here : m < length xs
    here = omega (arith, length-drop m xs, ap length e)

    parts : get_or xs m d ∷ drop (m + 1) xs ≡ x ∷ rest
    parts = sym (drop_more xs m d here) ∙ e

    head : {y z : X} {ys zs : List X} → y ∷ ys ≡ z ∷ zs → y ≡ z
    head p = cc

    tail : {y z : X} {ys zs : List X} → y ∷ ys ≡ z ∷ zs → ys ≡ zs
    tail p = cc

-- the values that are picked of each of some files
abbrev pub each_value : ℕ → Slab → List Slab → List Contents → List (List ℕ) → List Value
each_value p left rest cs own = flat_map (λ q. values_in (cut (q.0 ∷ rest) q.1)) (zip (parts_of left (cutting.indexes_of (trees_at p cs own))) (trees_at p cs own))

pub record RecordsSent (pieces : List Piece) (files : List (List ℕ)) (values : List Value) (base : BaseType) (count : ℕ) : Type 0 where
  pub text : pieces_xdr pieces files ≡ bytes_of (flat_map (element_fields base) values)
  pub long : length values ≡ count

spread : (n a k : ℕ) → a ≤ n → a * k + (n - a) * k ≡ n * k
spread n a k le =
    let whole : n ≡ a + (n - a) = omega (arith, le) in
    sym (ap (λ m. m * k) whole ∙ apart a (n - a) k)
  where
    apart : (a b k : ℕ) → (a + b) * k ≡ a * k + b * k
    apart a b k = omega arith

no-times : (k : ℕ) → 0 ≡ 0 * k
no-times k = omega arith

nothing : (s : Slab) → IsWithin s 0 → s.count ≡ 0
nothing s within = go s.count refl
  where
    go : (n : ℕ) → s.count ≡ n → n ≡ 0
    go zero e = refl
    go (suc n) e = let lt : s.start + 0 * s.stride < 0 = index-within s 0 0 within (omega (arith, e)) in absurd (omega (arith, lt))

-- one file more
record-put : (base : BaseType) (plan : Plan) (pieces : List Piece) (number member : ℕ) (files own : List (List ℕ)) (file : List ℕ) (values others : List Value) (count more all : ℕ) → number ≡ member → AtFront files member [] file own
    → forms_from plan file 0 (total_of plan) ≡ bytes_of (flat_map (element_fields base) values) → length values ≡ count → RecordsSent pieces files others base more → count + more ≡ all → RecordsSent (Elements number plan ∷ pieces) files (values ++ others) base all
unfolding piece_xdr
record-put base plan pieces number member files own file values others count more all number-is front forms long back sum = record {
  text = pieces-cons (Elements number plan) pieces files
      ∙ ap (λ bs. bs ++ pieces_xdr pieces files) (ap (λ m. forms_from plan (file_in files m) 0 (total_of plan)) number-is ∙ ap (λ g. forms_from plan g 0 (total_of plan)) front.is ∙ forms)
      ∙ ap (λ bs. bytes_of (flat_map (element_fields base) values) ++ bs) back.text
      ∙ sym (bytes_of-append (flat_map (element_fields base) values) (flat_map (element_fields base) others))
      ∙ ap bytes_of (sym (flat_map-append (element_fields base) values others));
  long = length-append values others ∙ ap (λ n. n + length others) long ∙ ap (λ n. count + n) back.long ∙ sum;
}

module _ (c : Contents) (few : c.records ≤ 2147483647) (leaf p : ℕ) (v : Variable) (is : leaf_variable c leaf ≡ Some v) (place : leaf_in (leaves_from c 0 c.variables) leaf ≡ Some p) (over : is_over_records c v ≡ true) (rest : List Slab) where
  one-file : (h : FileHeader) (cs : List Contents) (number member : ℕ) (left : Slab) (plan : Plan) (pieces : List Piece) (files own : List (List ℕ)) (f : List ℕ) → HaveSameShape c h.contents → h.contents.records ≤ 2147483647 → 1 ≤ left.stride → HasHeader h.contents f
      → AtFront files member [] f own → number ≡ member → IsOwnPlan h leaf (front_of left h.contents.records ∷ rest) plan
      → RecordsSent pieces files (each_value p (behind left h.contents.records) rest cs own) (base_of v.external_type) ((left.count - count_below left h.contents.records) * count_of rest)
      → RecordsSent (Elements number plan ∷ pieces) files (each_value p left rest (h.contents ∷ cs) (f ∷ own)) (base_of v.external_type) (left.count * count_of rest)
  one-file h cs number member left plan pieces files own f shape small strided have front number-is planned more =
      let w = planned.variable in
      let same = twin c h.contents leaf p v w shape few small is place planned.is in
      let slabs = front_of left h.contents.records ∷ rest in
      let forms : forms_from plan f 0 (total_of plan) ≡ bytes_of (flat_map (element_fields (base_of v.external_type)) (values_in (cut slabs (tree_of h.contents f w))))
      = forms-are h.contents f leaf w slabs plan have planned.is planned.within planned.of_plan ∙ ap (λ b. bytes_of (flat_map (element_fields b) (values_in (cut slabs (tree_of h.contents f w))))) (sym (same-base v w same.alike)) in
      let sent : RecordsSent (Elements number plan ∷ pieces) files (values_in (cut slabs (tree_of h.contents f w)) ++ each_value p (behind left h.contents.records) rest cs own) (base_of v.external_type) (left.count * count_of rest)
      = record-put (base_of v.external_type) plan pieces number member files own f (values_in (cut slabs (tree_of h.contents f w))) (each_value p (behind left h.contents.records) rest cs own) (count_below left h.contents.records * count_of rest)
      ((left.count - count_below left h.contents.records) * count_of rest) (left.count * count_of rest) number-is front forms (values-are h.contents f leaf w slabs plan have planned.is planned.within planned.of_plan) more
      (spread left.count (count_below left h.contents.records) (count_of rest) (few-below left h.contents.records strided)) in
      subst (λ t. RecordsSent (Elements number plan ∷ pieces) files (values_in (cut (front_of left (length (kids t)) ∷ rest) t) ++ each_value p (behind left (length (kids t))) rest cs own) (base_of v.external_type) (left.count * count_of rest)) (sym (tree-at h.contents p w f same.at))
      (subst (λ n. RecordsSent (Elements number plan ∷ pieces) files (values_in (cut (front_of left n ∷ rest) (tree_of h.contents f w)) ++ each_value p (behind left n) rest cs own) (base_of v.external_type) (left.count * count_of rest))
      (sym (record-kids h.contents f w (sym (same-over c h.contents v w shape same.alike) ∙ over))) sent)

  pub records-sent : (headers : List FileHeader) (member : ℕ) (left : Slab) (pieces : List Piece) (files own : List (List ℕ)) → All (HaveSameShape c) (contents_of headers) → all_records (contents_of headers) ≤ 2147483647
      → IsWithin left (all_records (contents_of headers)) → AllZip HasHeader (contents_of headers) own → drop member files ≡ own → AreRecords member headers leaf left rest pieces
      → RecordsSent pieces files (each_value p left rest (contents_of headers) own) (base_of v.external_type) (left.count * count_of rest)
  unfolding bytes_of
  records-sent [] member left [] files [] all sum within have at are = record { text = pieces-none files; long = no-times (count_of rest) ∙ ap (λ n. n * count_of rest) (sym (nothing left within)) }
  records-sent [] member left pieces files (f ∷ own) all sum within have at are = absurd have
  records-sent [] member left (piece ∷ pieces) files own all sum within have at are = absurd are
  records-sent (h ∷ headers) member left pieces files [] all sum within have at are = absurd have
  records-sent (h ∷ headers) member left [] files own all sum within have at are = absurd are
  records-sent (h ∷ headers) member left (Text text ∷ pieces) files own all sum within have at are = absurd are
  records-sent (h ∷ headers) member left (Elements number plan ∷ pieces) files (f ∷ own) all sum within have at (number-is, planned, others) =
      let parts : all_records (contents_of (h ∷ headers)) ≡ h.contents.records + all_records (contents_of headers) = sum_by-cons (λ c. c.records) h.contents (contents_of headers) in
      let front = at-front files member [] f own at in
      let back : all_records (contents_of (h ∷ headers)) - h.contents.records ≡ all_records (contents_of headers) = omega (arith, parts) in
      let more = records-sent headers (member + 1) (behind left h.contents.records) pieces files own (All-tail (HaveSameShape c) h.contents (contents_of headers) all) (omega (arith, parts, sum))
      (subst (IsWithin (behind left h.contents.records)) back (behind-within left (all_records (contents_of (h ∷ headers))) h.contents.records within)) have.1 front.behind others in
      one-file h (contents_of headers) number member left plan pieces files own f (All-head (HaveSameShape c) h.contents (contents_of headers) all) (omega (arith, parts, sum)) within.0 have.0 front number-is planned more

  pub records-cost : (headers : List FileHeader) (member : ℕ) (left : Slab) (pieces : List Piece) → All (HaveSameShape c) (contents_of headers) → all_records (contents_of headers) ≤ 2147483647 → AreRecords member headers leaf left rest pieces
      → pieces_cost pieces ≤ sum_by (λ part. cost_of (part ∷ rest) (element_size c v)) (parts_of left (records_each (contents_of headers)))
  unfolding pieces_cost piece_cost
  records-cost [] member left [] all sum are = omega arith
  records-cost [] member left (piece ∷ pieces) all sum are = absurd are
  records-cost (h ∷ headers) member left [] all sum are = absurd are
  records-cost (h ∷ headers) member left (Text text ∷ pieces) all sum are = absurd are
  records-cost (h ∷ headers) member left (Elements number plan ∷ pieces) all sum (number-is, planned, others) =
      let parts : all_records (contents_of (h ∷ headers)) ≡ h.contents.records + all_records (contents_of headers) = sum_by-cons (λ c. c.records) h.contents (contents_of headers) in
      let shape : HaveSameShape c h.contents = All-head (HaveSameShape c) h.contents (contents_of headers) all in
      let same = twin c h.contents leaf p v planned.variable shape few (omega (arith, parts, sum)) is place planned.is in
      let size : element_size h.contents planned.variable ≡ element_size c v = sym (same-size c h.contents v planned.variable shape same.alike) in
      let own : piece_cost (Elements number plan) ≤ cost_of (front_of left h.contents.records ∷ rest) (element_size c v) = subst (λ n. piece_cost (Elements number plan) ≤ cost_of (front_of left h.contents.records ∷ rest) n) size planned.cost in
      let more = records-cost headers (member + 1) (behind left h.contents.records) pieces (All-tail (HaveSameShape c) h.contents (contents_of headers) all) (omega (arith, parts, sum)) others in
      let one : pieces_cost (Elements number plan ∷ pieces) ≡ piece_cost (Elements number plan) + pieces_cost pieces = sum_by-cons piece_cost (Elements number plan) pieces in
      let two : sum_by (λ part. cost_of (part ∷ rest) (element_size c v)) (parts_of left (records_each (contents_of (h ∷ headers))))
      ≡ cost_of (front_of left h.contents.records ∷ rest) (element_size c v) + sum_by (λ part. cost_of (part ∷ rest) (element_size c v)) (parts_of (behind left h.contents.records) (records_each (contents_of headers)))
      = sum_by-cons (λ part. cost_of (part ∷ rest) (element_size c v)) (front_of left h.contents.records) (parts_of (behind left h.contents.records) (records_each (contents_of headers))) in
      omega (arith, own, more, one, two)

-- each stands in its file
pub records-inside : (headers : List FileHeader) (member leaf : ℕ) (left : Slab) (rest : List Slab) (pieces : List Piece) (sizes : List ℕ) → drop member sizes ≡ lengths_of headers → AreRecords member headers leaf left rest pieces → All (IsInside sizes) pieces
unfolding IsInside
records-inside [] member leaf left rest [] sizes at are = All-nil (IsInside sizes)
records-inside [] member leaf left rest (piece ∷ pieces) sizes at are = absurd are
records-inside (h ∷ headers) member leaf left rest [] sizes at are = absurd are
records-inside (h ∷ headers) member leaf left rest (Text text ∷ pieces) sizes at are = absurd are
records-inside (h ∷ headers) member leaf left rest (Elements number plan ∷ pieces) sizes at (number-is, planned, others) =
    let front = at-front sizes member 0 h.length (lengths_of headers) at in
    All-cons (IsInside sizes) (Elements number plan) pieces
    (subst (λ m. m < length sizes) (sym number-is) front.below, subst (AreInside plan) (sym (ap (λ m. get_or sizes m 0) number-is ∙ front.is)) planned.inside)
    (records-inside headers (member + 1) leaf (behind left h.contents.records) rest pieces sizes front.behind others)
