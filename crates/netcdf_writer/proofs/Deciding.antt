-- What is wrong with the first bytes of a body stays so, whatever follows.
use Rattle.std.proofs.Common.{◌≡◌, ℕ, ◌+◌, ◌-◌, ◌<◌, ◌≤◌, true, List, [], ◌∷◌, ◌++◌, length, take, drop, inl, inr, ⊎_elim, refl, ap, sym, subst, ◌∙◌, arith, length-append, length-take}
use Rattle.std.proofs.Math.Seq.{take-append-add}
use Rattle.std.proofs.lemmas.Bool.{cases_lt}
use Rattle.std.proofs.lemmas.List.{take-append-drop, take-append-le}
use Rattle.dap_types.specs.Limits.{most_text, most_written}
use Rattle.dap_types.specs.Model.{Dataset}
use Rattle.dap_model.specs.Tokens.{Token, tokens_of}
use Rattle.dap_model.specs.Tokens as token
use Rattle.dds_text.proofs.Readings.{tokens_grow}
use Rattle.dds_text.specs.Reading.{IsBadText, IsOpen, IsDdsRefused, limit}
use Rattle.error_word.specs.Saying.{begins_error, says_error}
use Rattle.xdr_decode.specs.Verdict.{HasWrongValues, IsBadLine, IsWrong, IsWrongIn, budget}
use Rattle.reply_faults.specs.declared.bad.Bad.{Bad}
use Rattle.dap_client.proofs.Ending.{faulty_other}
use Rattle.dap_client.proofs.Filling.{budget_is}
use Rattle.dap_client.proofs.Lines.{bad_line_more, text_more}
use Rattle.dap_client.proofs.Objects.{bad_stays}
use Rattle.dap_client.proofs.Values.{bad_more, piece_head, trailing_more}
use Rattle.dap_client.specs.Verdict.{IsVerdict, Judges, JudgesError, Verdict, bad, dods_form, is_fault}
use Rattle.netcdf_writer.specs.Laws.{FirstBytesDecide}

-- ---- whether it is an Error object

first_on : (ts us : List Token) → ¬ (ts ≡ []) → begins_error (ts ++ us) ≡ begins_error ts
first_on [] us some = absurd (some refl)
first_on (token.word w ∷ ts) us some = refl
first_on (token.sign b ∷ ts) us some = refl

says_on : (front more : List ℕ) → ¬ (tokens_of front ≡ []) → says_error (front ++ more) ≡ says_error front
unfolding says_error
says_on front more some = ap begins_error (tokens_grow front more) ∙ first_on (tokens_of front) _ some

error_on : (front more : List ℕ) (kind : Bad) (place : ℕ) → most_text ≤ length front → is_fault kind ≡ true → JudgesError front (bad kind place) → JudgesError (front ++ more) (bad kind place)
error_on front more kind place long final (inl (wrong, is)) = inl (bad_stays front place (omega (arith, long)) wrong more, is)
error_on front more kind place long final (inr (cut, end, is)) = absurd (faulty_other kind final is)

-- ---- a data response

text_on : (front more : List ℕ) (place : ℕ) → most_text ≤ length front → IsBadText front place → IsBadText (front ++ more) place
text_on front more place long (inl a) = inl (subst (λ l. IsDdsRefused l place) (sym (take-append-le limit front more long)) a)
text_on front more place long (inr (o, le, is)) =
    let all = length-append front more in
    inr (subst IsOpen (sym (take-append-le limit front more long)) o, omega (arith, le, all), is)

line_on : (front more : List ℕ) (place : ℕ) → IsBadLine front place → IsBadLine (front ++ more) place
line_on front more place (d, text, rest, at, has, b, is) = (d, text, rest ++ more, at, text_more front more text rest d has, bad_line_more rest more at b, is)

wrong_on : (d : Dataset) (values more : List ℕ) (kind : Bad) (at : ℕ) → is_fault kind ≡ true → IsWrong d values kind at → IsWrong d (values ++ more) kind at
wrong_on d values more kind at final (inl (fault, b, is)) = inl (fault, bad_more d values more fault at b, is)
wrong_on d values more kind at final (inr (inl (m, is))) = inr (inl (trailing_more d values more at m, is))
wrong_on d values more kind at final (inr (inr (o, end, is))) = absurd (faulty_other kind final is)

values_on : (front more : List ℕ) (kind : Bad) (place : ℕ) → is_fault kind ≡ true → HasWrongValues front kind place → HasWrongValues (front ++ more) kind place
values_on front more kind place final (d, head, values, at, (h, parts), w, is) =
    (d, head, values ++ more, at, piece_head d front more head values (h, parts), wrong_on d values more kind at final w, is)

dods_on : (front more : List ℕ) (kind : Bad) (place : ℕ) → most_text ≤ length front → is_fault kind ≡ true → IsWrongIn front kind place → IsWrongIn (front ++ more) kind place
dods_on front more kind place long final (inl (wrong, is)) = inl (text_on front more place long wrong, is)
dods_on front more kind place long final (inr (inl (wrong, is))) = inr (inl (line_on front more place wrong, is))
dods_on front more kind place long final (inr (inr (inl (cut, end, is)))) = absurd (faulty_other kind final is)
dods_on front more kind place long final (inr (inr (inr wrong))) = inr (inr (inr (values_on front more kind place final wrong)))

-- ---- the verdict

judged_on : (front more : List ℕ) (kind : Bad) (place : ℕ) → most_text ≤ length front → ¬ (tokens_of front ≡ []) → is_fault kind ≡ true → Judges dods_form front (bad kind place) → Judges dods_form (front ++ more) (bad kind place)
judged_on front more kind place long some final (inl (says, judged)) = inl (says_on front more some ∙ says, error_on front more kind place long final judged)
judged_on front more kind place long some final (inr (says, judged)) = inr (says_on front more some ∙ says, dods_on front more kind place long final judged)

small_judged : (bytes : List ℕ) (v : Verdict) → length bytes < budget → IsVerdict dods_form bytes v → Judges dods_form bytes v
small_judged bytes v small (inl (less, judged)) = judged
small_judged bytes v small (inr (long, front, judged, how)) = absurd (omega (arith, small, long))

decided : (front more : List ℕ) (kind : Bad) (place : ℕ) → length front ≡ most_written → ¬ (tokens_of front ≡ []) → is_fault kind ≡ true → IsVerdict dods_form front (bad kind place) → IsVerdict dods_form (front ++ more) (bad kind place)
decided front more kind place long some final is =
    let large = budget_is in
    let few : length front < budget = omega (arith, long, large) in
    let judged = small_judged front (bad kind place) few is in
    ⊎_elim
    (λ less. inl (less, judged_on front more kind place (omega (arith, long)) some final judged))
    (λ le.
    let room : budget ≡ length front + (budget - length front) = omega (arith, few) in
    let cut : take budget (front ++ more) ≡ front ++ take (budget - length front) more = ap (λ n. take n (front ++ more)) room ∙ take-append-add front more (budget - length front) in
    inr (le, bad kind place, subst (λ l. Judges dods_form l (bad kind place)) (sym cut) (judged_on front (take (budget - length front) more) kind place (omega (arith, long)) some final judged), inl (final, refl)))
    (cases_lt (length (front ++ more)) budget)

pub first_bytes_decide : FirstBytesDecide
first_bytes_decide body kind place more some final is =
    let long = length-take most_written body in
    let whole : length (take most_written body) ≡ most_written = omega (arith, more, long) in
    subst (λ l. IsVerdict dods_form l (bad kind place)) (take-append-drop most_written body) (decided (take most_written body) (drop most_written body) kind place whole some final is)
