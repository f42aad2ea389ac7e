-- A token list stands for at most one dataset, and whether a token breaks a rule does not depend on
-- what follows it.
use Rattle.std.proofs.Common.{◌≡◌, ℕ, zero, suc, ◌<◌, List, [], ◌∷◌, ◌++◌, length, map, Bool, true, false, slice_get, arith}
use Rattle.std.proofs.lemmas.Bool.{false≢true}
use Rattle.std.specs.Cmp.Lexicographic.{pointwise}
use Rattle.std.specs.Option.{option_map_or}
use Rattle.plain_lemmas.proofs.Truths.{both_true}
use Rattle.dap_types.specs.Model.{Dataset}
use Rattle.dap_model.proofs.Following.{dataset_same}
use Rattle.dap_model.specs.Grammar.{spells, Judged, dataset_slots, StandsFor}
use Rattle.dap_model.specs.Tokens.{Token}

abbrev Spelled : List Judged → List Token → Type 0
Spelled js ts = pointwise spells (map (λ j. j.slot) js) ts ≡ true

-- the same tokens spell both, so E
abbrev Forces : Type 0 → List Judged → List Judged → Type 0
Forces E js js' = (ts : List Token) → Spelled js ts → Spelled js' ts → E

forces_step : (E : Type 0) (j j' : Judged) (js js' : List Judged)
    → ((t : Token) → spells j.slot t ≡ true → spells j'.slot t ≡ true → (j.broken ≡ j'.broken) × Forces E js js') → Forces E (j ∷ js) (j' ∷ js')
forces_step E j j' js js' one [] a b = absurd (false≢true a)
forces_step E j j' js js' one (t ∷ ts) a b =
    let left = both_true (spells j.slot t) (pointwise spells (map (λ k. k.slot) js) ts) a in
    let right = both_true (spells j'.slot t) (pointwise spells (map (λ k. k.slot) js') ts) b in (one t left.0 right.0).1 ts left.1 right.1

pub one_dataset : (ts : List Token) (d d' : Dataset) → StandsFor ts d → StandsFor ts d' → d ≡ d'
one_dataset ts d d' stands stands' =
    dataset_same (Forces (d ≡ d')) (forces_step (d ≡ d')) d d' stands.0 stands'.0 (λ same us a b. same) ts stands.1 stands'.1

-- whether slot k is there and broken
abbrev broken_at : List Judged → ℕ → Bool
broken_at js k = option_map_or (λ j. j.broken) (slice_get js k) false

-- as far as the tokens are the same, the same slots are broken
abbrev Agree : List Judged → List Judged → Type 0
Agree js js' = (ts us us' : List Token) (k : ℕ) → Spelled js (ts ++ us) → Spelled js' (ts ++ us') → k < length ts → broken_at js k ≡ broken_at js' k

agree_step : (j j' : Judged) (js js' : List Judged)
    → ((t : Token) → spells j.slot t ≡ true → spells j'.slot t ≡ true → (j.broken ≡ j'.broken) × Agree js js') → Agree (j ∷ js) (j' ∷ js')
agree_step j j' js js' one [] us us' k a b lt = absurd (omega arith)
agree_step j j' js js' one (t ∷ ts) us us' zero a b lt =
    let left = both_true (spells j.slot t) (pointwise spells (map (λ i. i.slot) js) (ts ++ us)) a in
    let right = both_true (spells j'.slot t) (pointwise spells (map (λ i. i.slot) js') (ts ++ us')) b in (one t left.0 right.0).0
agree_step j j' js js' one (t ∷ ts) us us' (suc k) a b lt =
    let left = both_true (spells j.slot t) (pointwise spells (map (λ i. i.slot) js) (ts ++ us)) a in
    let right = both_true (spells j'.slot t) (pointwise spells (map (λ i. i.slot) js') (ts ++ us')) b in (one t left.0 right.0).1 ts us us' k left.1 right.1 (omega arith)

none_agree : Agree [] []
none_agree [] us us' k a b lt = absurd (omega arith)
none_agree (t ∷ ts) us us' k a b lt = absurd (false≢true a)

pub broken_by_front : (ts us us' : List Token) (d d' : Dataset) (k : ℕ) → StandsFor (ts ++ us) d → StandsFor (ts ++ us') d' → k < length ts
    → broken_at (dataset_slots d) k ≡ broken_at (dataset_slots d') k
broken_by_front ts us us' d d' k stands stands' lt =
    dataset_same Agree agree_step d d' stands.0 stands'.0 (λ same. none_agree) ts us us' k stands.1 stands'.1 lt
