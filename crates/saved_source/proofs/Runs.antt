-- A hyperslab of stride 1 with all that stands behind its indexes: one run of elements.
use Rattle.std.proofs.Common.{◌≡◌, ℕ, zero, suc, ◌+◌, ◌-◌, ◌*◌, ◌<◌, ◌≤◌, ◌^◌, List, [], ◌∷◌, ◌++◌, length, take, drop, get_or, All, refl, sym, ap, ◌∙◌, subst, arith, drop-cons, length-drop}
use Rattle.std.specs.Prelude.{min}
use Rattle.std.specs.List.{flat_map}
use Rattle.std.proofs.lemmas.List.Elements.{All-nil}
use Rattle.hyperslab_plan.proofs.PickedLemmas.{index-within}
use Rattle.dap_types.specs.Model.{Tree, kids, product}
use Rattle.dap_types.specs.declared.declarations.BaseType.{BaseType}
use Rattle.dap_types.specs.declared.slabs.Slab.{Slab}
use Rattle.dap_types.specs.declared.values.Value.{Value}
use Rattle.dap_model.proofs.Values.{all_first, all_rest}
use Rattle.dap_model.proofs.Whole.{cut_whole}
use Rattle.dap_model.specs.Cutting.{cut, whole_slabs}
use Rattle.dap_model.specs.Fits.{FitsArray, IsOf, values_in}
use Rattle.saved_source.proofs.Cutting.{IsAt, IsNested, all_drop, all_take, cut_run, first_stand, inner_small, long, picked_all, picks_from, picks_next, step_small, take_long, values_of}
use Rattle.xdr_values.proofs.ElementRuns.{run}
use Rattle.xdr_values.proofs.ElementRuns.{no_bytes}
use Rattle.xdr_values.specs.Walked.{StandElements}

next_to_next : (s : Slab) (us : List Tree) (k m : ℕ) (d : Tree) → s.stride ≡ 1 → s.start + k + m ≤ length us → picks_from s us k m ≡ take m (drop (s.start + k) us)
next_to_next s us k zero d one le = refl
next_to_next s us k (suc m) d one le =
    let at : s.start + k * s.stride ≡ s.start + k = ap (λ j. s.start + k * j) one ∙ omega arith in
    let here : s.start + k < length us = omega arith in
    let lt : s.start + k * s.stride < length us = omega (arith, at, here) in
    let more : s.start + (k + 1) ≡ suc (s.start + k) = omega arith in
    picks_next s us k m d lt
    ∙ ap (λ i. get_or us i d ∷ picks_from s us (k + 1) m) at
    ∙ ap (λ l. get_or us (s.start + k) d ∷ l) (next_to_next s us (k + 1) m d one (omega arith) ∙ ap (λ i. take m (drop i us)) more)
    ∙ ap (take (suc m)) (sym (drop-cons us (s.start + k) d here))

whole_each : (base : BaseType) (ns : List ℕ) (us : List Tree) → All (FitsArray base ns) us → flat_map (λ u. values_in (cut (whole_slabs ns) u)) us ≡ values_of us
whole_each base ns [] all = refl
whole_each base ns (u ∷ us) all =
    ap (λ v. values_in v ++ flat_map (λ w. values_in (cut (whole_slabs ns) w)) us) (cut_whole base ns u (all_first (FitsArray base ns) u us all))
    ∙ ap (λ vs. values_in u ++ vs) (whole_each base ns us (all_rest (FitsArray base ns) u us all))

pub record IsRun (base : BaseType) (ns : List ℕ) (s : Slab) (t : Tree) (left : List ℕ) (total : ℕ) : Type 0 where
  pub values : List Value
  pub rest : List ℕ
  pub long : length values ≡ total
  pub small : total * 8 < 2 ^ 64
  pub stand : StandElements base values left rest
  pub are_cut : run base values ≡ run base (values_in (cut (s ∷ whole_slabs ns) t))

pub is_run : (base : BaseType) (n : ℕ) (ns : List ℕ) (s : Slab) (t : Tree) (bytes rest left : List ℕ) (inner total : ℕ) → IsNested base n ns s (whole_slabs ns) t bytes rest → s.stride ≡ 1 → inner ≡ min (product ns) 4294967296 → total ≡ s.count * inner
    → IsAt base s t rest 0 left → IsRun base ns s t left total
is_run base n ns s t bytes rest left inner total st one inner_is total_is at = go s.count refl
  where
    none : (c : ℕ) → s.count ≡ c → c ≡ 0 → IsRun base ns s t left total
    none c is zero_is =
        let nothing : s.count ≡ 0 = is ∙ zero_is in
        let of_none : s.count - 0 ≡ 0 = omega arith in
        let total_none : total ≡ 0 = total_is ∙ ap (λ k. k * inner) nothing ∙ omega arith in
        record {
          values = [];
          rest = left;
          long = sym total_none;
          small = omega (arith, total_none);
          stand = record { are_of = All-nil (IsOf base); parts = ap (λ l. l ++ left) (sym no_bytes) };
          are_cut = ap (λ j. cut_run base (whole_slabs ns) (picks_from s (kids t) 0 j)) (sym of_none) ∙ picked_all base s (whole_slabs ns) t;
        }

    go : (c : ℕ) → s.count ≡ c → IsRun base ns s t left total
    go zero is = none zero is refl
    go (suc c) is =
        let some : 0 < s.count = omega arith in
        let last : s.start + (s.count - 1) * s.stride < n = index-within s n (s.count - 1) st.within (omega arith) in
        let last_is : (s.count - 1) * s.stride ≡ s.count - 1 = ap (λ j. (s.count - 1) * j) one ∙ omega arith in
        let within : s.start + s.count ≤ n = omega (arith, last, last_is) in
        let us : List Tree = drop s.start (kids t) in
        let below : s.count ≤ length us = omega (arith, st.kids_long, length-drop s.start (kids t)) in
        let zero_at : s.start + 0 * s.stride ≡ s.start = omega arith in
        let left_is : left ≡ run base (values_of us) ++ rest = at some ∙ ap (λ j. run base (values_of (drop j (kids t))) ++ rest) zero_at in
        let fit : All (FitsArray base ns) us = all_drop (FitsArray base ns) (kids t) s.start st.kids_fit in
        let same : inner ≡ product ns = inner_small n (product ns) inner st.few (omega arith) inner_is in
        let all : total ≡ s.count * product ns = total_is ∙ ap (λ i. s.count * i) same in
        let whole : s.count - 0 ≡ s.count = omega arith in
        let first : s.start + 0 ≡ s.start = omega arith in
        let picked : picks_from s (kids t) 0 (s.count - 0) ≡ take s.count us =
        next_to_next s (kids t) 0 (s.count - 0) t one (omega (arith, st.kids_long)) ∙ ap (λ m. take m (drop (s.start + 0) (kids t))) whole ∙ ap (λ i. take s.count (drop i (kids t))) first in
        record {
          values = values_of (take s.count us);
          rest = run base (values_of (drop s.count us)) ++ rest;
          long = long base ns (take s.count us) (all_take (FitsArray base ns) us s.count fit) ∙ ap (λ l. l * product ns) (take_long us s.count below) ∙ sym all;
          small = subst (λ c. c * 8 < 2 ^ 64) (sym all) (step_small s.count n (product ns) (omega arith) st.few);
          stand = first_stand base ns us s.count left rest fit left_is;
          are_cut = ap (run base) (sym (whole_each base ns (take s.count us) (all_take (FitsArray base ns) us s.count fit))) ∙ ap (cut_run base (whole_slabs ns)) (sym picked) ∙ picked_all base s (whole_slabs ns) t;
        }
