-- The pieces of joined files, gathered one member after the other.
use Rattle.std.proofs.Common.{◌≡◌, ℕ, zero, suc, ◌+◌, ◌-◌, ◌<◌, ◌≤◌, Bool, true, false, cond, eqb, List, [], ◌∷◌, ◌++◌, length, drop, get_or, Option, Some, None, refl, sym, ap, ◌∙◌, subst, arith, append-nil, append_assoc, length-append, inl, inr}
use Rattle.std.proofs.lemmas.Bool.{eqb-true}
use Rattle.std.proofs.lemmas.List.{drop_all, drop_more}
use Rattle.std.proofs.lemmas.List.Elements.{All-append, All-nil}
use Rattle.std.proofs.lemmas.List.Sums.{sum_by-append}
use Rattle.std.specs.Option.{option_map_or}
use Rattle.std.specs.Prelude.{option_and_then, slice_get}
use Rattle.dap_types.specs.Model.{product, sizes}
use Rattle.dap_model.proofs.Values.{bytes_of-append}
use Rattle.dap_model.specs.Filter.{Marks, counted}
use Rattle.dap_model.specs.Xdr.{bytes_of}
use Rattle.hyperslab_plan.specs.Picked.{count_of}
use Rattle.netcdf_source.specs.File.{FileHeader}
use Rattle.netcdf_source.specs.Mapping.{array_of, element_dimensions, is_empty, leaf_in, leaf_variable}
use Rattle.netcdf_source.specs.declared.header.Contents.{Contents}
use Rattle.netcdf_source.specs.declared.header.Variable.{Variable}
use Rattle.xdr_encode.proofs.Gathering.{counts-of, large-first, not-large}
use Rattle.xdr_encode.specs.Costs.{own_slabs}
use Rattle.xdr_encode.specs.Counts.{first_large, slot_counts, slots_counts, variable_counts}
use Rattle.join_source.proofs.Asking.{asks-of, parted}
use Rattle.join_source.proofs.Bounds.{cost-of, inside-of}
use Rattle.join_source.proofs.Found.{sent-of, slot_of}
use Rattle.join_source.proofs.Walk.{pieces-append}
use Rattle.join_source.specs.Asked.{JoinedAsk, SlotsAsk}
use Rattle.join_source.specs.Begun.{HaveBegun}
use Rattle.join_source.specs.Costs.{joined_cost, slot_cost, slots_cost}
use Rattle.join_source.specs.Members.{HaveHeaders, contents_of, joined_contents, lengths_of}
use Rattle.join_source.specs.Pieces.{IsInside, piece_cost, pieces_cost, pieces_xdr}
use Rattle.join_source.specs.Sent.{slot_sent, slots_sent}
use Rattle.join_source.specs.Trees.{joined_tree}
use Rattle.join_source.specs.Wanted.{Gathered, IsFound, IsLarge, joined_slots}
use Rattle.join_source.specs.declared.piece.Piece.{Piece}

-- ---- counts

slot-counts : (c : Contents) (marks : Marks) (n : ℕ) → slot_counts c marks n (slot_of c n) ≡ option_map_or (variable_counts c marks n) (leaf_variable c n) []
unfolding leaf_variable
slot-counts c marks n = refl

large-of : (headers : List FileHeader) (marks : Marks) (n m : ℕ) (found : Bool) (own : List Piece) (counts : List ℕ) → IsFound headers marks n found own
    → first_large (m + 1) (slot_counts (joined_contents (contents_of headers)) marks n (slot_of (joined_contents (contents_of headers)) n) ++ counts) ≡ first_large (m + cond found 1 0 + 1) counts
large-of headers marks n m false own counts (unmarked, none) =
    ap (λ xs. first_large (m + 1) (xs ++ counts)) (slot-counts j marks n ∙ elim unmarked [
      | inl e ↦ ap (λ o. option_map_or (variable_counts j marks n) o []) e
      | inr e ↦ nothing (leaf_variable j n) e
    ])
    ∙ ap (λ k. first_large k counts) (same m)
  where
    j : Contents
    j = joined_contents (contents_of headers)

    same : (m : ℕ) → m + 1 ≡ m + 0 + 1
    same m = omega arith

    nothing : (o : Option Variable) → marks n ≡ None → option_map_or (variable_counts (joined_contents (contents_of headers)) marks n) o [] ≡ []
    nothing None e = refl
    nothing (Some v) e = ap (λ p. option_map_or (λ ss. cond (is_empty (element_dimensions (joined_contents (contents_of headers)) v)) 1 (product (sizes (counted ss (array_of (joined_contents (contents_of headers)) v)))) ∷ []) p []) e
large-of headers marks n m true own counts is =
    ap (λ xs. first_large (m + 1) (xs ++ counts)) (slot-counts (joined_contents (contents_of headers)) marks n ∙ counts-of (joined_contents (contents_of headers)) marks n is.variable is.marked_by is.asked.is is.marked is.asked.within)
    ∙ not-large (count_of (own_slabs (joined_contents (contents_of headers)) is.variable is.marked_by)) (m + 1) counts is.asked.few

-- ---- all members

slot-at : (xs : List (Option ℕ)) (k : ℕ) → k < length xs → leaf_in xs (k + 1) ≡ get_or xs k None
slot-at xs k lt = go (eqb (k + 1) 0) refl
  where
    nth : (xs : List (Option ℕ)) (k : ℕ) → k < length xs → option_and_then (λ leaf. leaf) (slice_get xs k) ≡ get_or xs k None
    nth [] k lt = absurd (omega arith)
    nth (x ∷ xs) zero lt = refl
    nth (x ∷ xs) (suc k) lt = nth xs k (omega arith)

    back : (k : ℕ) → k + 1 - 1 ≡ k
    back k = omega arith

    go : (b : Bool) → eqb (k + 1) 0 ≡ b → cond b None (option_and_then (λ leaf. leaf) (slice_get xs (k + 1 - 1))) ≡ get_or xs k None
    go true e = absurd (omega (arith, eqb-true (k + 1) 0 e))
    go false e = ap (λ i. option_and_then (λ leaf. leaf) (slice_get xs i)) (back k) ∙ nth xs k lt

pub nothing-yet : (headers : List FileHeader) (marks : Marks) → Gathered headers marks [] 0 0
unfolding pieces_xdr pieces_cost
nothing-yet headers marks = record {
  text = λ files have. refl;
  inside = All-nil (IsInside (lengths_of headers));
  cost = omega arith;
  counts = refl;
  few = omega arith;
  asks = λ files have at put asked more none slots.
      let here : at + 0 ≡ at = omega arith in
      let same : more ≡ asked + more = omega (arith, none) in
      subst (JoinedAsk (contents_of headers) marks files at put) same (subst (λ x. JoinedAsk (contents_of headers) marks files x put more) here slots);
}

module _ (headers : List FileHeader) (marks : Marks) (pieces : List Piece) (k sent : ℕ) (lt : k < length (joined_slots (contents_of headers))) (so-far : Gathered headers marks pieces k sent) where
  front : drop k (joined_slots (contents_of headers)) ≡ slot_of (joined_contents (contents_of headers)) (k + 1) ∷ drop (k + 1) (joined_slots (contents_of headers))
  front = drop_more (joined_slots (contents_of headers)) k None lt ∙ sym (ap (λ o. o ∷ drop (k + 1) (joined_slots (contents_of headers))) (slot-at (joined_slots (contents_of headers)) k lt))

  counts-here : first_large (sent + 1) (slot_counts (joined_contents (contents_of headers)) marks (k + 1) (slot_of (joined_contents (contents_of headers)) (k + 1))
      ++ slots_counts (joined_contents (contents_of headers)) marks (k + 1 + 1) (drop (k + 1) (joined_slots (contents_of headers))))
      ≡ first_large 1 (slots_counts (joined_contents (contents_of headers)) marks 1 (joined_slots (contents_of headers)))
  unfolding slots_counts
  counts-here = sym (ap (λ slots. first_large (sent + 1) (slots_counts (joined_contents (contents_of headers)) marks (k + 1) slots)) front) ∙ so-far.counts

  more-long : (found : Bool) (own : List Piece) → IsFound headers marks (k + 1) found own → (files : List (List ℕ)) → HaveHeaders (contents_of headers) files
      → length (pieces_xdr (pieces ++ own) files) ≡ length (pieces_xdr pieces files) + length (bytes_of (slot_sent (joined_contents (contents_of headers)) (joined_tree (contents_of headers) files) marks (k + 1) (slot_of (joined_contents (contents_of headers)) (k + 1))))
  more-long found own is files have =
      ap length (pieces-append pieces own files)
      ∙ length-append (pieces_xdr pieces files) (pieces_xdr own files)
      ∙ ap (λ bs. length (pieces_xdr pieces files) + length bs) (sent-of headers marks (k + 1) found own files have is)

  asks-more : (found : Bool) (own : List Piece) → IsFound headers marks (k + 1) found own → (files : List (List ℕ)) → HaveHeaders (contents_of headers) files → (at put asked more : ℕ) → HaveBegun (pieces ++ own) files at put asked
      → SlotsAsk (contents_of headers) files marks (k + 1 + 1) (drop (k + 1) (joined_slots (contents_of headers))) (at + length (pieces_xdr (pieces ++ own) files)) put more → JoinedAsk (contents_of headers) marks files at put (asked + more)
  asks-more found own is files have at put asked more begun slots =
      let apart = parted pieces own files at put asked begun in
      let from = at + length (pieces_xdr pieces files) in
      let here = asks-of headers marks (k + 1) found own files from put apart.others have is apart.back in
      let sent = bytes_of (slot_sent (joined_contents (contents_of headers)) (joined_tree (contents_of headers) files) marks (k + 1) (slot_of (joined_contents (contents_of headers)) (k + 1))) in
      let next : at + length (pieces_xdr (pieces ++ own) files) ≡ from + length sent = ap (λ x. at + x) (more-long found own is files have) ∙ along at (length (pieces_xdr pieces files)) (length sent) in
      let all : SlotsAsk (contents_of headers) files marks (k + 1) (slot_of (joined_contents (contents_of headers)) (k + 1) ∷ drop (k + 1) (joined_slots (contents_of headers))) from put (apart.others + more)
      = (apart.others, more, here, subst (λ x. SlotsAsk (contents_of headers) files marks (k + 1 + 1) (drop (k + 1) (joined_slots (contents_of headers))) x put more) next slots, refl) in
      let sum : apart.own + (apart.others + more) ≡ asked + more = omega (arith, apart.sum) in
      subst (JoinedAsk (contents_of headers) marks files at put) sum
      (so-far.asks files have at put apart.own (apart.others + more) apart.front (subst (λ xs. SlotsAsk (contents_of headers) files marks (k + 1) xs from put (apart.others + more)) (sym front) all))
    where
      along : (a x y : ℕ) → a + (x + y) ≡ a + x + y
      along a x y = omega arith

  pub one-more : (found : Bool) (own : List Piece) → IsFound headers marks (k + 1) found own → Gathered headers marks (pieces ++ own) (k + 1) (sent + cond found 1 0)
  unfolding bytes_of slots_cost pieces_cost
  one-more found own is =
      let j = joined_contents (contents_of headers) in
      let slot = slot_of j (k + 1) in
      let behind = drop (k + 1) (joined_slots (contents_of headers)) in
      record {
        text = λ files have.
            let tree = joined_tree (contents_of headers) files in
            ap (λ bs. bs ++ bytes_of (slots_sent j tree marks (k + 1 + 1) behind)) (pieces-append pieces own files)
            ∙ append_assoc (pieces_xdr pieces files) (pieces_xdr own files) (bytes_of (slots_sent j tree marks (k + 1 + 1) behind))
            ∙ ap (λ bs. pieces_xdr pieces files ++ (bs ++ bytes_of (slots_sent j tree marks (k + 1 + 1) behind))) (sent-of headers marks (k + 1) found own files have is)
            ∙ ap (λ bs. pieces_xdr pieces files ++ bs) (sym (bytes_of-append (slot_sent j tree marks (k + 1) slot) (slots_sent j tree marks (k + 1 + 1) behind)) ∙ sym (ap (λ slots. bytes_of (slots_sent j tree marks (k + 1) slots)) front))
            ∙ so-far.text files have;
        inside = All-append (IsInside (lengths_of headers)) pieces own so-far.inside (inside-of headers marks (k + 1) found own is);
        cost =
            let more : slots_cost (contents_of headers) marks (k + 1) (drop k (joined_slots (contents_of headers))) ≡ slot_cost (contents_of headers) marks (k + 1) slot + slots_cost (contents_of headers) marks (k + 1 + 1) behind
            = ap (slots_cost (contents_of headers) marks (k + 1)) front in
            let all : pieces_cost (pieces ++ own) ≡ pieces_cost pieces + pieces_cost own = sum_by-append piece_cost pieces own in
            omega (arith, more, all, cost-of headers marks (k + 1) found own is, so-far.cost);
        counts = sym (large-of headers marks (k + 1) sent found own (slots_counts j marks (k + 1 + 1) behind) is) ∙ counts-here;
        few = few-more found;
        asks = λ files have at put asked more begun slots. asks-more found own is files have at put asked more begun slots;
      }
    where
      few-more : (found : Bool) → sent + cond found 1 0 ≤ k + 1
      few-more true = omega (arith, so-far.few)
      few-more false = omega (arith, so-far.few)

  pub too-large : IsLarge (contents_of headers) marks (k + 1) → first_large 1 (slots_counts (joined_contents (contents_of headers)) marks 1 (joined_slots (contents_of headers))) ≡ Some (sent + 1)
  too-large is =
      sym counts-here
      ∙ ap (λ xs. first_large (sent + 1) (xs ++ slots_counts (joined_contents (contents_of headers)) marks (k + 1 + 1) (drop (k + 1) (joined_slots (contents_of headers)))))
      (slot-counts (joined_contents (contents_of headers)) marks (k + 1) ∙ counts-of (joined_contents (contents_of headers)) marks (k + 1) is.variable is.marked_by is.is is.marked is.within)
      ∙ large-first (count_of (own_slabs (joined_contents (contents_of headers)) is.variable is.marked_by)) (sent + 1) (slots_counts (joined_contents (contents_of headers)) marks (k + 1 + 1) (drop (k + 1) (joined_slots (contents_of headers)))) is.many

module _ (headers : List FileHeader) (marks : Marks) (pieces : List Piece) (k sent : ℕ) (le : length (joined_slots (contents_of headers)) ≤ k) (so-far : Gathered headers marks pieces k sent) where
  none-left : drop k (joined_slots (contents_of headers)) ≡ []
  none-left = drop_all k (joined_slots (contents_of headers)) le

  pub all-text : (files : List (List ℕ)) → HaveHeaders (contents_of headers) files
      → pieces_xdr pieces files ≡ bytes_of (slots_sent (joined_contents (contents_of headers)) (joined_tree (contents_of headers) files) marks 1 (joined_slots (contents_of headers)))
  unfolding bytes_of
  all-text files have =
      sym (append-nil (pieces_xdr pieces files))
      ∙ sym (ap (λ slots. pieces_xdr pieces files ++ bytes_of (slots_sent (joined_contents (contents_of headers)) (joined_tree (contents_of headers) files) marks (k + 1) slots)) none-left)
      ∙ so-far.text files have

  pub all-small : first_large 1 (slots_counts (joined_contents (contents_of headers)) marks 1 (joined_slots (contents_of headers))) ≡ None
  unfolding slots_counts
  all-small = sym so-far.counts ∙ ap (λ slots. first_large (sent + 1) (slots_counts (joined_contents (contents_of headers)) marks (k + 1) slots)) none-left

  pub all-cost : pieces_cost pieces ≤ joined_cost (contents_of headers) marks
  all-cost = omega (arith, so-far.cost)

  pub all-asked : (files : List (List ℕ)) → HaveHeaders (contents_of headers) files → (at put asked : ℕ) → HaveBegun pieces files at put asked → JoinedAsk (contents_of headers) marks files at put asked
  all-asked files have at put asked begun =
      let none : SlotsAsk (contents_of headers) files marks (k + 1) (drop k (joined_slots (contents_of headers))) (at + length (pieces_xdr pieces files)) put 0
      = subst (λ slots. SlotsAsk (contents_of headers) files marks (k + 1) slots (at + length (pieces_xdr pieces files)) put 0) (sym none-left) refl in
      let same : asked + 0 ≡ asked = omega arith in
      subst (JoinedAsk (contents_of headers) marks files at put) same (so-far.asks files have at put asked 0 begun none)
