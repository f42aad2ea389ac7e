-- A text's bad token, from a dataset whose text goes on behind it.
use Rattle.std.proofs.Common.{◌≡◌, ℕ, zero, suc, ◌+◌, ◌<◌, List, [], ◌∷◌, ◌++◌, length, take, drop, Bool, true, false, slice_get, ⊎_elim, inr, refl, ap, ◌∙◌, sym, subst, arith}
use Rattle.std.proofs.lemmas.Bool.{false≢true, or_parts}
use Rattle.std.specs.List.{list_any}
use Rattle.std.specs.Option.{option_map_or}
use Rattle.dap_types.specs.Model.{Dataset}
use Rattle.dap_model.proofs.OneDataset.{broken_by_front}
use Rattle.dap_model.specs.Grammar.{Judged, dataset_slots, StandsFor, IsBad, IsFirstBad}
use Rattle.dap_model.specs.Tokens.{Token}

abbrev broken_at : List Judged → ℕ → Bool
broken_at js k = option_map_or (λ j. j.broken) (slice_get js k) false

unbroken_before : (js : List Judged) (k j : ℕ) → j < k → list_any (λ i. i.broken) (take k js) ≡ false → broken_at js j ≡ false
unbroken_before [] k j lt none = refl
unbroken_before (i ∷ js) zero j lt none = absurd (omega arith)
unbroken_before (i ∷ js) (suc k) zero lt none = (or_parts i.broken (list_any (λ h. h.broken) (take k js)) none).0
unbroken_before (i ∷ js) (suc k) (suc j) lt none = unbroken_before js k j (omega arith) (or_parts i.broken (list_any (λ h. h.broken) (take k js)) none).1

-- a front of a front, and what stands behind it
split_front : (ts more : List Token) (j k : ℕ) → j < k → take (suc j) ts ++ (drop (suc j) (take (suc k) ts) ++ more) ≡ take (suc k) ts ++ more
split_front [] more j k lt = refl
split_front (t ∷ ts) more zero k lt = refl
split_front (t ∷ ts) more (suc j) zero lt = absurd (omega arith)
split_front (t ∷ ts) more (suc j) (suc k) lt = ap (λ us. t ∷ us) (split_front ts more j k (omega arith))

front_long : (ts : List Token) (j : ℕ) → j < length ts → j < length (take (suc j) ts)
front_long [] j lt = absurd (omega arith)
front_long (t ∷ ts) zero lt = omega arith
front_long (t ∷ ts) (suc j) lt = omega (arith, front_long ts j (omega arith))

-- some text goes on behind token k, which is the first to break a rule
pub first_bad : (ts more : List Token) (d : Dataset) (k : ℕ) → k < length ts → StandsFor (take (suc k) ts ++ more) d
    → broken_at (dataset_slots d) k ≡ true → list_any (λ j. j.broken) (take k (dataset_slots d)) ≡ false → IsFirstBad ts k
first_bad ts more d k within stands broken none =
    let one : suc k ≡ k + 1 = omega arith in
    record {
      within = within;
      bad = inr (more, d, subst (λ n. StandsFor (take n ts ++ more) d) one stands, broken);
      first = before;
    }
  where
    before : (j : ℕ) → j < k → ¬ (IsBad ts j)
    before j lt bad =
        let next : suc j ≡ j + 1 = omega arith in
        let whole : StandsFor (take (suc j) ts ++ (drop (suc j) (take (suc k) ts) ++ more)) d = subst (λ us. StandsFor us d) (sym (split_front ts more j k lt)) stands in
        ⊎_elim (λ never. never (drop (suc j) (take (suc k) ts) ++ more, d, subst (λ n. StandsFor (take n ts ++ (drop (suc j) (take (suc k) ts) ++ more)) d) next whole))
        (λ breaks. false≢true (sym (unbroken_before (dataset_slots d) k j lt none)
        ∙ broken_by_front (take (suc j) ts) (drop (suc j) (take (suc k) ts) ++ more) breaks.0 d breaks.1 j whole (subst (λ n. StandsFor (take n ts ++ breaks.0) breaks.1) (sym next) breaks.2) (front_long ts j (omega arith))
        ∙ breaks.3))
        bad
