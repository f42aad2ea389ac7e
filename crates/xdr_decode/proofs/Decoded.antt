-- From the parts that were read to the verdict on a body.
use Rattle.std.proofs.Common.{◌≡◌, ℕ, ◌+◌, ◌-◌, ◌<◌, ◌≤◌, inl, inr, List, [], ◌∷◌, ◌++◌, length, take, drop, map, Result, Ok, Err, IfOk, IfErr, codes, refl, ap, ◌∙◌, sym, subst, arith, append_assoc, append-nil, length-append, length-take, length-drop, take-append-drop}
use Rattle.std.proofs.lemmas.List.{take-take, take_all}
use Rattle.dap_types.specs.Model.{Dataset, Tree}
use Rattle.dap_types.specs.View.{dataset_view, tree_view}
use Rattle.dap_model.specs.Body.{IsBody}
use Rattle.dap_model.specs.Fits.{FitsAll}
use Rattle.dap_model.specs.Grammar.{DdsOf}
use Rattle.dap_model.specs.Xdr.{Spells, SpellsFields, fields_all}
use Rattle.dds_text.specs.Reading.{IsBadText, IsDone, IsUnfinished, limit}
use Rattle.xdr_fields.proofs.Judged.{is_bad, is_open}
use Rattle.xdr_fields.specs.Wants.{wants_of}
use Rattle.xdr_decode.proofs.OneVerdict.{good_body, small_first}
use Rattle.xdr_decode.specs.Verdict.{HasHeadOf, HasMore, HasText, IsBadDataLine, IsDataLine, IsGood, IsRefusal, IsVerdict, IsWrong, IsWrongIn, budget, good_of}
use Rattle.reply_faults.specs.declared.bad.Bad.{Bad}
use Rattle.reply_faults.specs.declared.bad.Bad.TheVariants.{BadDataLine, BadDds, Cut, TooLong, Trailing}
use Rattle.xdr_decode.specs.declared.data_line.LineStop.TheVariants as line_stop
use Rattle.xdr_decode.specs.declared.filled.AllRefusal.{AllRefusal}
use Rattle.xdr_decode.specs.declared.filled.AllRefusal.TheVariants.{Refused, Memory}
use Rattle.xdr_decode.specs.declared.filled.Filled.{Filled}
use Rattle.xdr_decode.specs.declared.values.Stop.TheVariants as stop
use Rattle.xdr_decode.specs.inner.Deciding.{IsRefusalIn, IsValuesRefusal, RanOut}
use Rattle.xdr_decode.specs.inner.Lined.{Behind, StopsIn}
use Rattle.xdr_decode.specs.inner.Taken.{Spelt, Stops}

-- ---- the text
long_front : (body : List ℕ) (used : ℕ) → used ≤ length body → length (take used body) ≡ used
long_front body used le = omega (arith, length-take used body, le)

-- a text that ends among the bytes is that of those before its end, and the other way round
pub done_whole : (body : List ℕ) (used : ℕ) (d : Dataset) → used ≤ length body → IsDone (take used body) (length (take used body)) d → IsDone body used d
done_whole body used d le done =
    let front : List ℕ = take used body in
    let n : length front ≡ used = long_front body used le in
    let within : length front ≤ length (take limit front) = done.within in
    let small : used ≤ 16777216 = omega (arith, within, length-take limit front, n) in
    let all : take limit front ≡ front = take_all limit front (omega (arith, n, small)) in
    let same : take (length front) (take limit front) ≡ take used (take limit body) =
    ap (take (length front)) all ∙ take_all (length front) front (omega arith) ∙ sym (take-take used limit body small) in
    record { within = omega (arith, length-take limit body, small, le); is_text = subst (λ t. DdsOf t d) same done.is_text }

pub done_front : (body : List ℕ) (used : ℕ) (d : Dataset) → used ≤ length body → IsDone body used d → IsDone (take used body) (length (take used body)) d
done_front body used d le done =
    let front : List ℕ = take used body in
    let n : length front ≡ used = long_front body used le in
    let within : used ≤ length (take limit body) = done.within in
    let small : used ≤ 16777216 = omega (arith, within, length-take limit body) in
    let all : take limit front ≡ front = take_all limit front (omega (arith, n, small)) in
    let same : take (length front) (take limit front) ≡ take used (take limit body) =
    ap (take (length front)) all ∙ take_all (length front) front (omega arith) ∙ sym (take-take used limit body small) in
    record { within = omega (arith, ap length all); is_text = subst (λ t. DdsOf t d) (sym same) done.is_text }

pub done_none : (body : List ℕ) (used : ℕ) (none : List ℕ) → none ≡ [] → (used ≤ length body) × ((d : Dataset) × IsDone (none ++ body) (length none + used) d)
    → ((d : Dataset) → ¬ (IsDone (take used body) (length (take used body)) d)) → ⊥
done_none body used [] empty (le, (d, done)) other = other d (done_front body used d le (subst (λ k. IsDone body k d) (omega arith) done))
done_none body used (b ∷ none) empty ended other = absurd (cc empty)

pub text_unfinished : (body : List ℕ) → IsUnfinished body → IsWrongIn body Cut (length body)
text_unfinished body unfinished = inr (inr (inl (inl unfinished, refl, refl)))

pub text_bad : (body : List ℕ) (start place p : ℕ) → start ≡ 0 → place ≡ start + p → IsBadText body p → IsWrongIn body BadDds place
text_bad body start place p zero is bad = inl (subst (IsBadText body) (omega (arith, zero, is)) bad, refl)

has_text : (body : List ℕ) (used : ℕ) (d : Dataset) → used ≤ length body → IsDone body used d → HasText body d (take used body) (drop used body)
has_text body used d le done =
    let within : used ≤ length (take limit body) = done.within in
    let small : used ≤ 16777216 = omega (arith, within, length-take limit body) in
    record { parts = sym (take-append-drop used body); is_text = subst (λ t. DdsOf t d) (take-take used limit body small) done.is_text; text_limit = omega (arith, long_front body used le, small) }

-- ---- the line
pub line_cut : (body : List ℕ) (used : ℕ) (d : Dataset) → used ≤ length body → IsDone body used d → StopsIn IsDataLine (drop used body) line_stop.Cut → IsWrongIn body Cut (length body)
line_cut body used d le done cut = inr (inr (inl (inr (d, take used body, drop used body, has_text body used d le done, cut), refl, refl)))

pub line_bad : (body : List ℕ) (used left : ℕ) (d : Dataset) → used ≤ length body → IsDone body used d → StopsIn IsDataLine (drop used body) (line_stop.Differs left) → IsWrongIn body BadDataLine (length body - left)
line_bad body used left d le done p =
    let rest : List ℕ = drop used body in
    let bad : IsBadDataLine rest (length p.front) = record {
      front = p.front;
      next = p.next;
      rest = p.rest;
      parts = p.parts;
      begun = (p.other, p.more, p.begun);
      bad = λ more line. p.none (p.front ++ p.next ∷ more) [] more line (append-nil (p.front ++ p.next ∷ more));
      is_place = refl;
    } in
    let long : length rest ≡ length p.front + length (p.next ∷ p.rest) = ap length p.parts ∙ length-append p.front (p.next ∷ p.rest) in
    inr (inl ((d, take used body, rest, length p.front, has_text body used d le done, bad, omega (arith, long, length-drop used body, long_front body used le, le, p.is_left)), refl))

pub line_refused : (body : List ℕ) (used left place : ℕ) (d : Dataset) → used ≤ length body → IsDone body used d → place ≡ length body - left → StopsIn IsDataLine (drop used body) (line_stop.Differs left)
    → IsRefusalIn body (Refused (record { kind = BadDataLine; place = place }))
line_refused body used left place d le done is p = subst (IsWrongIn body BadDataLine) (sym is) (line_bad body used left d le done p)

pub head_of : (body values : List ℕ) (used : ℕ) (d : Dataset) → used ≤ length body → IsDone body used d → Behind IsDataLine (drop used body) values → (head : List ℕ) × HasHeadOf body d head values
head_of body values used d le done (line, l, parts) =
    let t = has_text body used d le done in (
      take used body ++ line,
      (
        record { text = take used body; white = l.white; end = l.end; parts = ap (λ k. take used body ++ k) l.parts ∙ sym (append_assoc (take used body) l.white (codes "Data:" ++ l.end)) ∙ sym (append_assoc (take used body ++ l.white) (codes "Data:") l.end); is_text = t.is_text; is_white = l.is_white; is_end = l.is_end; text_limit = t.text_limit },
        t.parts ∙ ap (λ k. take used body ++ k) parts ∙ sym (append_assoc (take used body) line values),
      ),
    )

pub values_within : (body values : List ℕ) (used : ℕ) → Behind IsDataLine (drop used body) values → length values ≤ length body
values_within body values used (line, l, parts) = omega (arith, ap length parts, length-append line values, length-drop used body)

-- ---- the values
pub stops_wrong : (d : Dataset) (values : List ℕ) (kind : Bad) (left : ℕ) → Stops (wants_of d) values (stop.Wrong kind left) → (at : ℕ) × IsWrong d values kind at × (at + left ≡ length values)
stops_wrong d values kind left (inl (cut, kind_is, left_is)) = (length values, inr (inr (is_open d values cut, refl, kind_is)), omega (arith, left_is))
stops_wrong d values kind left (inr (spoilt, kind_is, left_is)) = (
  length spoilt.front,
  inl (spoilt.fault, is_bad d values spoilt, kind_is),
  omega (arith, left_is, ap length spoilt.parts, length-append spoilt.front (spoilt.own ++ spoilt.rest)),
)

pub values_wrong : (d : Dataset) (whole : ℕ) (values : List ℕ) (kind : Bad) (left place : ℕ) → length values ≤ whole → place ≡ whole - left → Stops (wants_of d) values (stop.Wrong kind left)
    → IsValuesRefusal d whole values (Refused (record { kind = kind; place = place }))
values_wrong d whole values kind left place le is stopped =
    let (at, wrong, long) = stops_wrong d values kind left stopped in (at, wrong, omega (arith, le, is, long))

some_first : (rest : List ℕ) → ¬ (length rest ≡ 0) → (next : ℕ) × (more : List ℕ) × (rest ≡ next ∷ more)
some_first [] some = absurd (some refl)
some_first (b ∷ rest) some = (b, rest, refl)

pub values_more : (d : Dataset) (ts : List Tree) (whole : ℕ) (values rest : List ℕ) (place : ℕ) → length values ≤ whole → place ≡ whole - length rest → ¬ (length rest ≡ 0)
    → FitsAll d.members ts → Spelt (fields_all d.members ts) values rest → IsValuesRefusal d whole values (Refused (record { kind = Trailing; place = place }))
values_more d ts whole values rest place le is some fit (own, parts, spelled) =
    let (next, more, first) = some_first rest some in
    let m : HasMore d values (length own) = record { trees = ts; whole = own; next = next; rest = more; parts = parts ∙ ap (λ l. own ++ l) first; spelled = record { fit = fit; spelled = spelled }; is_place = refl } in
    (length own, inr (inl (m, refl)), omega (arith, le, is, ap length parts, length-append own rest))

pub values_spelt : (d : Dataset) (ts : List Tree) (values rest : List ℕ) → length rest ≡ 0 → FitsAll d.members ts → Spelt (fields_all d.members ts) values rest → Spells d ts values
values_spelt d ts values rest none fit (own, parts, spelled) =
    let same : own ≡ values = sym (append-nil own) ∙ ap (λ l. own ++ l) (sym (no_bytes rest none)) ∙ sym parts in
    record { fit = fit; spelled = subst (SpellsFields (fields_all d.members ts)) same spelled }
  where
    no_bytes : (xs : List ℕ) → length xs ≡ 0 → xs ≡ []
    no_bytes [] none = refl
    no_bytes (x ∷ xs) none = absurd (omega (arith, none))

pub front_refused : (body values head : List ℕ) (d : Dataset) (e : AllRefusal) → HasHeadOf body d head values → IsValuesRefusal d (length body) values e → IsRefusalIn body e
front_refused body values head d Memory h refused = tt
front_refused body values head d (Refused b) (h, is) (at, wrong, place_is) =
    inr (inr (inr (d, head, values, at, (h, is), wrong, omega (arith, place_is, ap length is, length-append head values))))

pub front_good : (body values head : List ℕ) (d e : Dataset) (ts : List Tree) → HasHeadOf body d head values → e ≡ d → Spells e ts values → IsGood body e ts
front_good body values head d e ts h same spelled = subst (λ x. Spells x ts values → IsGood body x ts) (sym same) (λ s. (head, values, h, s)) spelled

-- ---- the limit
abbrev IsSmall : List ℕ → Type 0
IsSmall body = length body < 1099511627776

small_budget : (body : List ℕ) → IsSmall body → length body < budget
unfolding budget
small_budget body small = small

pub small_good : (body : List ℕ) (r : Result Filled AllRefusal) → IsSmall body → IfOk r (λ f. IsGood body (dataset_view f.dataset) (map tree_view f.values)) → IfOk r (λ f. IsVerdict body (good_of f))
small_good body (Ok f) small good = good_body body (dataset_view f.dataset) (map tree_view f.values) good (small_budget body small)
small_good body (Err e) small good = good

pub small_refusal : (body : List ℕ) (e : AllRefusal) → IsSmall body → IsRefusalIn body e → IsRefusal body e
small_refusal body (Refused b) small wrong = inl (subst (λ l. IsWrongIn l b.kind b.place) (sym (small_first body (small_budget body small))) wrong, inl (small_budget body small))
small_refusal body Memory small wrong = tt

pub small_refused : (body : List ℕ) (r : Result Filled AllRefusal) → IsSmall body → IfErr r (IsRefusalIn body) → IfErr r (IsRefusal body)
small_refused body (Ok f) small refused = refused
small_refused body (Err e) small refused = small_refusal body e small refused

large_budget : (body : List ℕ) → 1099511627776 ≤ length body → budget ≤ length body
unfolding budget
large_budget body large = large

pub too_long : (body first : List ℕ) (r : Result Filled AllRefusal) → 1099511627776 ≤ length body → first ≡ take budget body → IfOk r (λ f. IsGood first (dataset_view f.dataset) (map tree_view f.values))
    → IfErr r (IsRefusalIn first) → RanOut r → IsRefusal body (Refused (record { kind = TooLong; place = budget }))
too_long body first (Ok f) large is good refused out =
    inr ((large_budget body large, inl (dataset_view f.dataset, map tree_view f.values, subst (λ l. IsGood l (dataset_view f.dataset) (map tree_view f.values)) is good)), refl, refl)
too_long body first (Err (Refused b)) large is good refused out =
    inr ((large_budget body large, inr (b.place, subst (λ l. IsWrongIn l Cut b.place) is (subst (λ k. IsWrongIn first k b.place) out refused))), refl, refl)
too_long body first (Err Memory) large is good refused out = absurd out

not_out : (body first : List ℕ) (e : AllRefusal) → first ≡ take budget body → IsRefusalIn first e → (RanOut (Err e) → ⊥) → IsRefusal body e
not_out body first (Refused b) is wrong other = inl (subst (λ l. IsWrongIn l b.kind b.place) is wrong, inr other)
not_out body first Memory is wrong other = tt

pub large_refused : (body first : List ℕ) (r : Result Filled AllRefusal) → first ≡ take budget body → IfErr r (IsRefusalIn first) → (RanOut r → ⊥) → IfErr r (IsRefusal body)
large_refused body first (Ok f) is refused other = refused
large_refused body first (Err e) is refused other = not_out body first e is refused other

pub large_good : (body : List ℕ) (r : Result Filled AllRefusal) → (RanOut r → ⊥) → IfOk r (λ f. IsVerdict body (good_of f))
large_good body (Ok f) other = absurd (other tt)
large_good body (Err e) other = tt

pub take_budget : (body : List ℕ) → take 1099511627776 body ≡ take budget body
unfolding budget
take_budget body = refl

pub answer_body : (body : List ℕ) (r : Result Filled AllRefusal) → IfOk r (λ f. IsVerdict body (good_of f)) → IfOk r (λ f. IsBody body (dataset_view f.dataset) (map tree_view f.values))
answer_body body (Ok f) good = good
answer_body body (Err e) good = good
