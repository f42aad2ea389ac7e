-- The verdict on a body of which no trees are made.
use Rattle.std.proofs.Common.{◌≡◌, ℕ, ◌+◌, ◌-◌, ◌<◌, ◌≤◌, List, [], ◌∷◌, ◌++◌, length, take, drop, Result, Ok, Err, IfOk, IfErr, inl, inr, refl, sym, ap, ◌∙◌, subst, arith, length-append, length-drop}
use Rattle.std.proofs.lemmas.List.{drop_at, take_all, take-append-drop}
use Rattle.dap_types.specs.Model.{Dataset, Tree}
use Rattle.dap_types.specs.View.{dataset_view}
use Rattle.dap_types.specs.WellFormed.{IsWellFormed}
use Rattle.dap_model.specs.Received.{IsOpen}
use Rattle.dap_model.specs.Xdr.{Spells}
use Rattle.dds_text.specs.Reading.{IsDone}
use Rattle.xdr_decode.proofs.Decoded.{small_refusal}
use Rattle.xdr_decode.specs.After.{EndsBehind, HasFailed, IsFirstBad, Stands, DecoderStandsAfter}
use Rattle.xdr_decode.specs.declared.decoder.Decoder.{Decoder}
use Rattle.xdr_decode.proofs.OneVerdict.{one_verdict}
use Rattle.xdr_decode.specs.Checking.{IsChecked, IsGoodAt, Tells}
use Rattle.xdr_decode.specs.Verdict.{HasHeadOf, HasMore, IsRefusal, IsVerdict, Verdict, budget, good, wrong}
use Rattle.reply_faults.specs.declared.bad.Bad.TheVariants.{Cut, Trailing}
use Rattle.reply_faults.specs.declared.bad.BadField.{BadField}
use Rattle.xdr_decode.specs.declared.check.Checked.{Checked}
use Rattle.xdr_decode.specs.declared.filled.AllRefusal.{AllRefusal}
use Rattle.xdr_decode.specs.declared.filled.AllRefusal.TheVariants.{Memory, Refused}
use Rattle.xdr_decode.specs.inner.Deciding.{IsRefusalIn, IsValuesRefusal}

-- values that end before the last byte
first_of : (xs : List ℕ) → ¬ (length xs ≡ 0) → (x : ℕ) × (more : List ℕ) × (xs ≡ x ∷ more)
first_of [] some = absurd (some refl)
first_of (x ∷ xs) some = (x, xs, refl)

pub more_wrong : (d : Dataset) (values : List ℕ) (whole n place : ℕ) → length values ≤ whole → EndsBehind d values n → n < length values → place + length values ≡ whole + n
    → IsValuesRefusal d whole values (Refused (record { kind = Trailing; place = place }))
more_wrong d values whole n place le (ts, ends) lt is =
    let split : take n values ++ drop n values ≡ values = take-append-drop n values in
    let (x, more, at) = first_of (drop n values) (λ none. let l = length-drop n values in absurd (omega (arith, l, none, lt))) in
    let long : length (take n values) ≡ n = omega (arith, ap length split, length-append (take n values) (drop n values), length-drop n values, lt) in
    let m : HasMore d values n = record { trees = ts; whole = take n values; next = x; rest = more; parts = sym split ∙ ap (λ l. take n values ++ l) at; spelled = ends.1; is_place = sym long } in
    (n, inr (inl (m, refl)), is)

pub open_wrong : (d : Dataset) (values : List ℕ) (whole : ℕ) → IsOpen d values → IsValuesRefusal d whole values (Refused (record { kind = Cut; place = whole }))
open_wrong d values whole is = (length values, inr (inr (is, refl, refl)), refl)

pub bad_wrong : (d : Dataset) (values : List ℕ) (whole start : ℕ) (bad : BadField) → start + length values ≡ whole → IsFirstBad d start values bad → IsValuesRefusal d whole values (Refused bad)
bad_wrong d values whole start bad long (fault, place, is_bad, is) =
    let at : bad.place ≡ start + place = ap (λ b. b.place) is in
    (place, inl (fault, is_bad, ap (λ b. b.kind) is), omega (arith, at, long))

pub ended_whole : (d : Dataset) (values : List ℕ) (n : ℕ) → EndsBehind d values n → length values ≤ n → (ts : List Tree) × Spells d ts values
ended_whole d values n (ts, ends) le =
    let all : take n values ≡ values = take_all n values le in (ts, subst (Spells d ts) all ends.1)

pub done_well_formed : (body : List ℕ) (n : ℕ) (d : Dataset) → IsDone body n d → IsWellFormed d
done_well_formed body n d done = done.is_text.well_formed

-- a head, and the values from its end on
pub good_at : (body head values : List ℕ) (c : Checked) (d : Dataset) (at : ℕ) → HasHeadOf body d head values → dataset_view c.dataset ≡ d → c.values_at ≡ length body - length values → (ts : List Tree) × Spells d ts values
    → (ts : List Tree) × IsGoodAt body c ts
good_at body head values c d at h same at_is (ts, spells) =
    let long : length body ≡ length head + length values = ap length h.1 ∙ length-append head values in
    let here : length head ≡ c.values_at = omega (arith, long, at_is) in
    let rest : drop c.values_at body ≡ values = ap (drop c.values_at) h.1 ∙ drop_at head values c.values_at here in
    let own : Spells (dataset_view c.dataset) ts values = subst (λ e. Spells e ts values) (sym same) spells in
    let head_is : HasHeadOf body (dataset_view c.dataset) head values = subst (λ e. HasHeadOf body e head values) (sym same) h in
    (ts, record { is_good = (head, values, head_is, own); within = omega (arith, long, here); values = subst (Spells (dataset_view c.dataset) ts) (sym rest) own })

-- ---- the limit
pub small_checked : (body : List ℕ) (r : Result Checked AllRefusal) → length body < 1099511627776 → IfOk r (λ c. (ts : List Tree) × IsGoodAt body c ts) → IfOk r (λ c. (ts : List Tree) × IsChecked body c ts)
unfolding budget
small_checked body (Ok c) small (ts, g) = let (head, values, h, spells) = g.is_good in
    (ts, record { is_body = record { head = head; values = values; parts = h.1; is_head = h.0; is_values = spells; limit = small }; within = g.within; values = g.values })
small_checked body (Err e) small g = g

pub small_refused : (body : List ℕ) (r : Result Checked AllRefusal) → length body < 1099511627776 → IfErr r (IsRefusalIn body) → IfErr r (IsRefusal body)
small_refused body (Ok c) small refused = refused
small_refused body (Err e) small refused = small_refusal body e small refused

-- an answer that is the verdict is the only one
pub only_checked : (body : List ℕ) (r : Result Checked AllRefusal) → IfOk r (λ c. (ts : List Tree) × IsChecked body c ts) → IfErr r (IsRefusal body) → (v : Verdict) → IsVerdict body v → Tells r v
only_checked body (Ok c) (ts, checked) refused v is = (ts, one_verdict body v (good (dataset_view c.dataset) ts) is checked.is_body)
only_checked body (Err (Refused b)) checked refused v is = one_verdict body v (wrong b.kind b.place) is refused
only_checked body (Err Memory) checked refused v is = tt

-- a decoder that has read nothing has not failed
pub no_fault : (r : Decoder) → DecoderStandsAfter r [] [] → HasFailed r → ⊥
unfolding DecoderStandsAfter HasFailed
no_fault r stands failed = subst (λ s. Stands r s [] []) failed stands
