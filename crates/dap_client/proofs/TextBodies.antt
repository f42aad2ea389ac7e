-- What the reader of a DDS or a DAS, or of an Error object in its place, says of the bytes of a body.
use Rattle.std.proofs.Common.{◌≡◌, ℕ, ◌+◌, ◌-◌, ◌<◌, ◌≤◌, Bool, true, false, if◌then◌else◌, List, [], ◌∷◌, ◌++◌, length, take, drop, take-append-drop, Option, Some, None, refl, sym, ap, subst, ◌∙◌, append_assoc, append-nil, length-append, inl, inr, ◌⊎◌, ⊎_elim, arith}
use Rattle.std.proofs.KnownBytes.{Appends-nil}
use Rattle.std.proofs.Math.Seq.{take-append-add}
use Rattle.std.proofs.lemmas.Bool.{cases_lt}
use Rattle.std.specs.Prelude.{MatchOption, ⊤}
use Rattle.das_text.specs.Das.{das}
use Rattle.das_text.specs.Reading.{limit}
use Rattle.das_text.specs.View.{attributes_view}
use Rattle.das_text.specs.declared.entries.Attributes.{Attributes}
use Rattle.dap_errors.specs.Reading as errors
use Rattle.dap_model.specs.Dds.{dds}
use Rattle.dap_model.specs.Received.{IsPrefix}
use Rattle.dap_model.specs.Tokens.{Token, tokens_of}
use Rattle.dap_types.specs.View.{dataset_view}
use Rattle.dap_types.specs.declared.declarations.Dataset.{Dataset}
use Rattle.xdr_decode.specs.Verdict.{budget}
use Rattle.reply_faults.specs.declared.bad.Bad.{Bad}
use Rattle.reply_faults.specs.declared.bad.Bad.TheVariants.{BadHead, HeadTooLong, Coded, BadChunk, BadDds, BadDataLine, BadDas, BadError, BadCount, BadWord, BadPadding, WrongMark, Cut, Trailing, TooLong}
use Rattle.reply_faults.specs.declared.bad.BadField.{BadField}
use Rattle.dap_client.proofs.Filling.{budget_is, full_front}
use Rattle.dap_client.proofs.Within.{judged_within, verdict_within}
use Rattle.dap_client.specs.After.{HasNoLine, IsBrokenOff, IsFinished, IsStopped}
use Rattle.dap_client.specs.Answered.{IsLasting, ShowsBroken, ShowsRefused, good_part, text_shown}
use Rattle.dap_client.specs.Outcomes.{outcome_of}
use Rattle.dap_client.specs.Shows.{Gains}
use Rattle.dap_client.specs.Replies.{first_of}
use Rattle.error_word.specs.Saying.{says_error}
use Rattle.dap_client.specs.Verdict.{Form, IsVerdict, Judges, JudgesDas, JudgesDasText, JudgesDds, Verdict, bad, das_form, dds_form, dods_form, good_das, good_dds, is_fault, is_final}
use Rattle.error_word.specs.inner.FirstWords.{IsError, IsNoError}
use Rattle.dap_client.specs.inner.TextBodies.{IsFirstWrong, IsPut, IsText, IsTextEnded, IsWrong}
use Rattle.dap_client.specs.declared.outcome.Outcome.{Outcome}
use Rattle.dap_client.specs.declared.outcome.Outcome.TheVariants.{Complete, ServerError, BadReply, ReadFault, WriteFault, LinkFault, Memory}
use Rattle.dap_client.specs.declared.text_body.TextEnded.TheVariants as ended

-- ---- what stays, whatever follows, is more than that the bytes end

dds_fault : (bytes : List ℕ) (kind : Bad) (place : ℕ) → ((more : List ℕ) → JudgesDds (bytes ++ more) (bad kind place)) → is_fault kind ≡ true
dds_fault bytes kind place stays = first (stays [])
  where
    later : place ≡ length (bytes ++ []) → JudgesDds (bytes ++ 0 ∷ []) (bad kind place) → is_fault kind ≡ true
    later end (inl (b, is)) = ap is_fault is
    later end (inr (inl (s, is))) = ap is_fault is
    later end (inr (inr (cut, also, is))) = absurd (omega (arith, end, also, length-append bytes [], length-append bytes (0 ∷ [])))

    first : JudgesDds (bytes ++ []) (bad kind place) → is_fault kind ≡ true
    first (inl (b, is)) = ap is_fault is
    first (inr (inl (s, is))) = ap is_fault is
    first (inr (inr (cut, end, is))) = later end (stays (0 ∷ []))

das_fault : (bytes : List ℕ) (kind : Bad) (place : ℕ) → ((more : List ℕ) → JudgesDasText (bytes ++ more) (bad kind place)) → is_fault kind ≡ true
das_fault bytes kind place stays = first (stays [])
  where
    later : place ≡ length (bytes ++ []) → JudgesDasText (bytes ++ 0 ∷ []) (bad kind place) → is_fault kind ≡ true
    later end (inl (b, is)) = ap is_fault is
    later end (inr (inl (s, is))) = ap is_fault is
    later end (inr (inr (cut, also, is))) = absurd (omega (arith, end, also, length-append bytes [], length-append bytes (0 ∷ [])))

    first : JudgesDasText (bytes ++ []) (bad kind place) → is_fault kind ≡ true
    first (inl (b, is)) = ap is_fault is
    first (inr (inl (s, is))) = ap is_fault is
    first (inr (inr (cut, end, is))) = later end (stays (0 ∷ []))

-- ---- a DAS is judged once its first token is whole, or as many bytes came as its limit

das_judged : (ts : List Token) (bytes : List ℕ) (v : Verdict) → ¬ (ts ≡ []) ⊎ (limit ≤ length bytes) → JudgesDasText bytes v → JudgesDas ts bytes v
das_judged [] bytes v (inl some) judged = absurd (some refl)
das_judged [] bytes v (inr long) judged = inr (long, judged)
das_judged (t ∷ ts) bytes v known judged = judged

das_waits : (ts : List Token) (bytes : List ℕ) (n : ℕ) → ts ≡ [] → length bytes < limit → length bytes ≡ n → JudgesDas ts bytes (bad Cut n)
das_waits [] bytes n none short long = inl (short, ap (bad Cut) (sym long))
das_waits (t ∷ ts) bytes n none short long = cc

pub das_cut : (bytes : List ℕ) (n : ℕ) → says_error bytes ≡ false → tokens_of bytes ≡ [] → length bytes < limit → length bytes ≡ n → Judges das_form bytes (bad Cut n)
das_cut bytes n none empty short long = inr (none, das_waits (tokens_of bytes) bytes n empty short long)

pub das_whole : (bytes : List ℕ) (v : Verdict) → says_error bytes ≡ false → ¬ (tokens_of bytes ≡ []) ⊎ (limit ≤ length bytes) → JudgesDasText bytes v → Judges das_form bytes v
das_whole bytes v none known judged = inr (none, das_judged (tokens_of bytes) bytes v known judged)

-- the first token is whole
pub das_known : (bytes : List ℕ) → ((more : List ℕ) → ¬ (tokens_of (bytes ++ more) ≡ [])) → ¬ (tokens_of bytes ≡ [])
das_known bytes whole e = whole [] (ap tokens_of (append-nil bytes) ∙ e)

pub match_on : {X : Type 0} (o : Option X) (P Q : X → Type 0) → MatchOption o ⊤ P → ((x : X) → P x → Q x) → MatchOption o ⊤ Q
match_on None P Q has on = tt
match_on (Some x) P Q has on = on x has

pub dds_wrong : (field : BadField) (bytes : List ℕ) → IsNoError bytes → ((more : List ℕ) → JudgesDds (bytes ++ more) (bad field.kind field.place)) → IsWrong dds_form field bytes
dds_wrong field bytes none stays = record {
  stays = λ more. inr (none more, stays more);
  is_fault = dds_fault bytes field.kind field.place stays;
}

pub das_wrong : (field : BadField) (bytes : List ℕ) → IsNoError bytes → limit ≤ length bytes → ((more : List ℕ) → JudgesDasText (bytes ++ more) (bad field.kind field.place)) → IsWrong das_form field bytes
das_wrong field bytes none long stays = record {
  stays = λ more. inr (none more, das_judged (tokens_of (bytes ++ more)) (bytes ++ more) (bad field.kind field.place) (inr (omega (arith, long, length-append bytes more))) (stays more));
  is_fault = das_fault bytes field.kind field.place stays;
}

pub object_wrong : (form : Form) (bytes : List ℕ) (place : ℕ) → IsError bytes → ((more : List ℕ) → errors.IsBad (bytes ++ more) place) → IsWrong form (record { kind = BadError; place = place }) bytes
object_wrong form bytes place error wrong = record { stays = λ more. inl (error more, inl (wrong more, refl)); is_fault = refl }

pub wrong_on : (form : Form) (field : BadField) (bytes piece : List ℕ) → IsWrong form field bytes → IsWrong form field (bytes ++ piece)
wrong_on form field bytes piece w = record {
  stays = λ more. subst (λ l. Judges form l (bad field.kind field.place)) (sym (append_assoc bytes piece more)) (w.stays (piece ++ more));
  is_fault = w.is_fault;
}

-- ---- nothing was put

pub other_form : (form : Form) → IsText form → form ≡ dods_form → ⊥
other_form form text is = subst IsText is text

pub no_line : (form : Form) (bytes : List ℕ) → IsText form → HasNoLine form bytes
no_line form bytes text is = absurd (other_form form text is)

pub nothing_refused : (form : Form) (bytes : List ℕ) → IsText form → ShowsRefused form bytes []
nothing_refused dods_form bytes text = absurd text
nothing_refused dds_form bytes text = refl
nothing_refused das_form bytes text = refl

-- ---- a piece of a body

pub lasts : (form : Form) (field : BadField) (bytes : List ℕ) → length bytes ≤ budget → IsWrong form field bytes → IsLasting form bytes field
lasts form field bytes most w more = ⊎_elim
    (λ less. inl (less, w.stays more))
    (λ le.
    let room : budget ≡ length bytes + (budget - length bytes) = omega (arith, most) in
    let front : take budget (bytes ++ more) ≡ bytes ++ take (budget - length bytes) more = ap (λ n. take n (bytes ++ more)) room ∙ take-append-add bytes more (budget - length bytes) in
    inr (le, bad field.kind field.place, subst (λ l. Judges form l (bad field.kind field.place)) (sym front) (w.stays (take (budget - length bytes) more)), inl (w.is_fault, refl)))
    (cases_lt (length (bytes ++ more)) budget)

pub wrong_stopped : (form : Form) (field : BadField) (before bytes : List ℕ) → length bytes ≤ budget → IsText form → IsWrong form field bytes → IsStopped form before bytes [] (BadReply field)
wrong_stopped form field before bytes most text w = (
  judged_within form bytes field.kind field.place (subst (λ l. Judges form l (bad field.kind field.place)) (append-nil bytes) (w.stays [])),
  lasts form field bytes most w,
  nothing_refused form (take field.place bytes) text,
)

-- as many bytes came as are looked at
abbrev pub too_long : BadField
too_long = record { kind = TooLong; place = 1099511627776 }

first_by : (form : Form) (bytes : List ℕ) (front : Verdict) (kind : Bad) (place : ℕ) → budget ≤ length bytes → Judges form (take budget bytes) front → bad kind place ≡ first_of front too_long → IsVerdict form bytes (bad kind place)
first_by form bytes front kind place long judged is = on (is_final front) refl
  where
    on : (c : Bool) → is_final front ≡ c → IsVerdict form bytes (bad kind place)
    on true e = inr (long, front, judged, inl (e, is ∙ ap (λ c. if c then front else bad TooLong 1099511627776) e))
    on false e = inr (long, front, judged, inr (e, is ∙ ap (λ c. if c then front else bad TooLong 1099511627776) e ∙ ap (bad TooLong) (sym budget_is)))

pub full_lasts : (form : Form) (field : BadField) (bytes : List ℕ) (front : Verdict) → length bytes ≡ budget → Judges form bytes front → bad field.kind field.place ≡ first_of front too_long → IsLasting form bytes field
full_lasts form field bytes front full judged is more =
    first_by form (bytes ++ more) front field.kind field.place (omega (arith, full, length-append bytes more)) (subst (λ l. Judges form l front) (sym (full_front bytes more full)) judged) is

pub full_stopped : (form : Form) (before bytes : List ℕ) (o : Outcome) → length bytes ≡ budget → IsText form → IsFirstWrong form bytes too_long o → IsStopped form before bytes [] o
full_stopped form before bytes (Complete n) full text none = absurd none
full_stopped form before bytes (ServerError code message) full text none = absurd none
full_stopped form before bytes (BadReply field) full text (front, judged, is) =
    let lasting = full_lasts form field bytes front full judged is in (
      verdict_within form bytes field.kind field.place (subst (λ l. IsVerdict form l (bad field.kind field.place)) (append-nil bytes) (lasting [])),
      lasting,
      nothing_refused form (take field.place bytes) text,
    )
full_stopped form before bytes ReadFault full text none = absurd none
full_stopped form before bytes WriteFault full text none = absurd none
full_stopped form before bytes LinkFault full text none = absurd none
full_stopped form before bytes Memory full text any = (refl, no_line form before text)

-- ---- where the body breaks off

pub broken_text : (form : Form) (bytes : List ℕ) (wrong : BadField) (o : Outcome) → length bytes < budget → IsText form → IsFirstWrong form bytes wrong o → IsBrokenOff form bytes [] wrong o
broken_text form bytes wrong (Complete n) small text none = absurd none
broken_text form bytes wrong (ServerError code message) small text none = absurd none
broken_text form bytes wrong (BadReply field) small text (front, judged, is) = (front, inl (small, judged), is, nothing_refused form (good_part front bytes) text)
broken_text form bytes wrong ReadFault small text none = absurd none
broken_text form bytes wrong WriteFault small text none = absurd none
broken_text form bytes wrong LinkFault small text none = absurd none
broken_text form bytes wrong Memory small text any = (refl, no_line form bytes text)

-- what is wrong first, by the kind of the fault
pub faults : (kind : Bad) → ¬ (kind ≡ Cut) → is_fault kind ≡ true
faults BadHead other = refl
faults HeadTooLong other = refl
faults Coded other = refl
faults BadChunk other = refl
faults BadDds other = refl
faults BadDataLine other = refl
faults BadDas other = refl
faults BadError other = refl
faults BadCount other = refl
faults BadWord other = refl
faults BadPadding other = refl
faults WrongMark other = refl
faults Cut other = absurd (other refl)
faults Trailing other = refl
faults TooLong other = refl

pub goes_first : (field wrong : BadField) → ¬ (field.kind ≡ Cut) → bad field.kind field.place ≡ first_of (bad field.kind field.place) wrong
goes_first field wrong other = sym (ap (λ c. if c then bad field.kind field.place else bad wrong.kind wrong.place) (faults field.kind other))

pub goes_behind : (field wrong : BadField) → field.kind ≡ Cut → bad wrong.kind wrong.place ≡ first_of (bad field.kind field.place) wrong
goes_behind field wrong is = sym (ap (λ c. if c then bad field.kind field.place else bad wrong.kind wrong.place) (ap is_fault is))

-- ---- the text printed again

pub put_finished : (form : Form) (bytes printed : List ℕ) (v : Verdict) (n : ℕ) (before now : Option (List ℕ)) (o : Outcome) → length bytes ≡ n → IsVerdict form bytes v → outcome_of n v ≡ Complete n → text_shown n v ≡ printed
    → ((k : ℕ) → ShowsBroken form bytes (take k printed)) → IsPut printed n before now o → Gains before now (λ text. IsFinished form bytes text o)
put_finished form bytes printed v n before now (Complete m) long is told shown broken (same, sent) =
    (printed, sent, subst (λ k. IsFinished form bytes printed (Complete k)) (sym same) (v, is, ap (λ k. outcome_of k v) long ∙ told, sym shown))
put_finished form bytes printed v n before now (ServerError code message) long is told shown broken none = absurd none
put_finished form bytes printed v n before now (BadReply field) long is told shown broken none = absurd none
put_finished form bytes printed v n before now ReadFault long is told shown broken none = absurd none
put_finished form bytes printed v n before now WriteFault long is told shown broken (k, le, sent) = (take k printed, sent, broken k)
put_finished form bytes printed v n before now LinkFault long is told shown broken none = absurd none
put_finished form bytes printed v n before now Memory long is told shown broken none = absurd none

front_of : (k : ℕ) (printed : List ℕ) → IsPrefix (take k printed) printed
front_of k printed = (drop k printed, sym (take-append-drop k printed))

pub dds_finished : (form : Form) (bytes printed : List ℕ) (d : Dataset) (n : ℕ) (before now : Option (List ℕ)) (o : Outcome) → length bytes ≡ n → length bytes < budget → IsTextEnded form bytes (ended.Dds d) → printed ≡ dds (dataset_view d)
    → IsPut printed n before now o → Gains before now (λ text. IsFinished form bytes text o)
dds_finished form bytes printed d n before now o long small (same, judged) are put =
    subst (λ (f : Form). Gains before now (λ text. IsFinished f bytes text o)) (sym same)
    (put_finished dds_form bytes printed (good_dds (dataset_view d)) n before now o long (inl (small, judged)) refl (sym are)
    (λ k. (dataset_view d, inl (small, judged), subst (IsPrefix (take k printed)) are (front_of k printed))) put)

pub das_finished : (form : Form) (bytes printed : List ℕ) (a : Attributes) (n : ℕ) (before now : Option (List ℕ)) (o : Outcome) → length bytes ≡ n → length bytes < budget → IsTextEnded form bytes (ended.Das a) → printed ≡ das (attributes_view a)
    → IsPut printed n before now o → Gains before now (λ text. IsFinished form bytes text o)
das_finished form bytes printed a n before now o long small (same, judged) are put =
    subst (λ (f : Form). Gains before now (λ text. IsFinished f bytes text o)) (sym same)
    (put_finished das_form bytes printed (good_das (attributes_view a)) n before now o long (inl (small, judged)) refl (sym are)
    (λ k. (attributes_view a, inl (small, judged), subst (IsPrefix (take k printed)) are (front_of k printed))) put)

pub nothing_gained : (form : Form) (bytes : List ℕ) (at : Option (List ℕ)) (o : Outcome) → IsFinished form bytes [] o → Gains at at (λ text. IsFinished form bytes text o)
nothing_gained form bytes at o is = ([], Appends-nil at, is)

pub no_memory : (form : Form) (bytes : List ℕ) → IsText form → IsFinished form bytes [] Memory
no_memory form bytes text = (refl, no_line form bytes text)

pub is_bad : (form : Form) (bytes : List ℕ) (field : BadField) → length bytes < budget → IsText form → IsTextEnded form bytes (ended.Bad field) → IsFinished form bytes [] (BadReply field)
is_bad form bytes field small text judged = (inl (small, judged), nothing_refused form (take field.place bytes) text)
