-- The verdict on a reply is what the outcome says, but for a fault or want of memory.
use Rattle.std.proofs.Common.{◌≡◌, ℕ, ◌+◌, inl, inr, Bool, true, List, [], ◌∷◌, ◌++◌, length, IsTrue, refl, ap, ◌∙◌, sym, subst, arith, append_assoc, length-append}
use Rattle.std.proofs.lemmas.Bool.{false≢true}
use Rattle.dap_http.proofs.Deliveries.{break-more, delivery-more, good-head}
use Rattle.dap_http.proofs.Finals.{gives-more, one-gives}
use Rattle.dap_http.specs.Delivered.{BreaksOff, HasCoding, HasCome, IsBrokenBody, IsWholeBody}
use Rattle.dap_http.specs.declared.coding.Coding.{Coding}
use Rattle.dap_model.specs.Received.{Fault, bad_count, bad_padding, bad_word, wrong_mark}
use Rattle.dap_model.specs.Tokens.{Token, tokens_of}
use Rattle.xdr_decode.specs.Verdict.{HasWrongValues, budget, kind_of}
use Rattle.reply_faults.specs.declared.bad.Bad.TheVariants.{Cut, TooLong}
use Rattle.reply_faults.specs.declared.bad.BadField.{BadField}
use Rattle.dap_client.proofs.Behind.{brought-broken, brought-whole}
use Rattle.dap_client.proofs.OneReply.{one_reply}
use Rattle.dap_client.proofs.OneVerdict.{one_verdict}
use Rattle.dap_client.proofs.TextBodies.{goes_first}
use Rattle.dap_client.specs.Answered.{BringsBad, IsLasting, Tells}
use Rattle.dap_client.specs.Outcomes.{Answers, outcome_of}
use Rattle.dap_client.specs.Replies.{BringsFirst, IsReplyVerdict, first_of}
use Rattle.dap_client.specs.Verdict.{Form, IsVerdict, Judges, JudgesDas, JudgesDasText, JudgesDds, JudgesDods, JudgesError, Verdict, bad, das_form, dds_form, dods_form, is_final, server_error}
use Rattle.dap_client.specs.declared.outcome.Outcome.{Outcome}
use Rattle.dap_client.specs.declared.outcome.Outcome.TheVariants.{Complete, ServerError, BadReply, ReadFault, WriteFault, LinkFault, Memory}

-- ---- bytes that end are judged at their end

pub error_end : (bytes : List ℕ) (place : ℕ) → JudgesError bytes (bad Cut place) → place ≡ length bytes
error_end bytes place (inl (b, is)) = cc
error_end bytes place (inr (cut, end, is)) = end

pub no_cut : (fault : Fault) → Cut ≡ kind_of fault → ⊥
no_cut bad_count is = cc
no_cut bad_word is = cc
no_cut bad_padding is = cc
no_cut wrong_mark is = cc

values_end : (bytes : List ℕ) (place : ℕ) → HasWrongValues bytes Cut place → place ≡ length bytes
values_end bytes place (d, head, values, at, (is_head, parts), inl (fault, wrong, is), place_is) = absurd (no_cut fault is)
values_end bytes place (d, head, values, at, (is_head, parts), inr (inl (more, is)), place_is) = cc
values_end bytes place (d, head, values, at, (is_head, parts), inr (inr (on, end, is)), place_is) = omega (arith, place_is, end, ap length parts, length-append head values)

pub dods_end : (bytes : List ℕ) (place : ℕ) → JudgesDods bytes (bad Cut place) → place ≡ length bytes
dods_end bytes place (inl (b, is)) = cc
dods_end bytes place (inr (inl (b, is))) = cc
dods_end bytes place (inr (inr (inl (cut, end, is)))) = end
dods_end bytes place (inr (inr (inr b))) = values_end bytes place b

pub dds_end : (bytes : List ℕ) (place : ℕ) → JudgesDds bytes (bad Cut place) → place ≡ length bytes
dds_end bytes place (inl (b, is)) = cc
dds_end bytes place (inr (inl (s, is))) = cc
dds_end bytes place (inr (inr (cut, end, is))) = end

pub das_text_end : (bytes : List ℕ) (place : ℕ) → JudgesDasText bytes (bad Cut place) → place ≡ length bytes
das_text_end bytes place (inl (b, is)) = cc
das_text_end bytes place (inr (inl (s, is))) = cc
das_text_end bytes place (inr (inr (cut, end, is))) = end

pub das_end : (ts : List Token) (bytes : List ℕ) (place : ℕ) → JudgesDas ts bytes (bad Cut place) → place ≡ length bytes
das_end [] bytes place (inl (short, is)) = same_end place (length bytes) is
  where
    same_end : (p q : ℕ) → bad Cut p ≡ bad Cut q → p ≡ q
    same_end p q is = cc
das_end [] bytes place (inr (long, is)) = das_text_end bytes place is
das_end (t ∷ ts) bytes place is = das_text_end bytes place is

pub judged_end : (form : Form) (bytes : List ℕ) (place : ℕ) → Judges form bytes (bad Cut place) → place ≡ length bytes
judged_end form bytes place (inl (says, error)) = error_end bytes place error
judged_end dods_form bytes place (inr (says, judged)) = dods_end bytes place judged
judged_end dds_form bytes place (inr (says, judged)) = dds_end bytes place judged
judged_end das_form bytes place (inr (says, judged)) = das_end (tokens_of bytes) bytes place judged

pub verdict_end : (form : Form) (bytes : List ℕ) (place : ℕ) → IsVerdict form bytes (bad Cut place) → place ≡ length bytes
verdict_end form bytes place (inl (small, judged)) = judged_end form bytes place judged
verdict_end form bytes place (inr (long, front, judged, inl (final, same))) = absurd (false≢true (ap is_final same ∙ final))
verdict_end form bytes place (inr (long, front, judged, inr (other, same))) = absurd (other_kind place budget same)
  where
    other_kind : (p q : ℕ) → bad Cut p ≡ bad TooLong q → ⊥
    other_kind p q is = cc

-- what stays is more than that
pub lasting_end : (form : Form) (bytes : List ℕ) (field : BadField) → IsLasting form bytes field → ¬ (field.kind ≡ Cut)
lasting_end form bytes field lasting is =
    let at : (more : List ℕ) → field.place ≡ length (bytes ++ more) = λ more. verdict_end form (bytes ++ more) field.place (subst (λ k. IsVerdict form (bytes ++ more) (bad k field.place)) is (lasting more)) in
    omega (arith, at [], at (0 ∷ []), length-append bytes [], length-append bytes (0 ∷ []))

-- ---- by the verdict

by_verdict : (n m : ℕ) (v w : Verdict) (o : Outcome) → (n ≡ m) × (v ≡ w) → outcome_of m w ≡ o → o ≡ outcome_of n v
by_verdict n m v w o (lengths, same) told = sym told ∙ ap (λ k. outcome_of k w) (sym lengths) ∙ ap (outcome_of n) (sym same)

brought : (form : Form) (taken more : List ℕ) (coding : Coding) (behind text : List ℕ) (n : ℕ) (v : Verdict) (field : BadField) → HasCoding (taken ++ more) coding behind → IsReplyVerdict form (taken ++ more) n v
    → BringsBad form (λ body. BringsFirst taken body) field text → BadReply field ≡ outcome_of n v
brought form taken more coding behind text n v field has given b = go given
  where
    c : Coding
    c = b.brings.0

    front : List ℕ
    front = b.brings.1

    tail : List ℕ
    tail = b.brings.2

    here : HasCoding (taken ++ more) c ((front ++ tail) ++ more)
    here = gives-more taken more (front ++ tail) (inr c) b.brings.3

    come : HasCome c front b.body
    come = b.brings.4

    stays : (other y : List ℕ) → other ≡ b.body ++ y → IsVerdict form other (bad field.kind field.place)
    stays other y is = subst (λ l. IsVerdict form l (bad field.kind field.place)) (sym is) (b.lasting y)

    rebased : (reply bytes : List ℕ) (d e : Coding) (r q : List ℕ) → HasCoding reply d r → HasCoding reply e q → (r ≡ q) × (d ≡ e)
    rebased reply bytes d e r q one two = let (rests, codings) = one-gives reply r q (inr d) (inr e) one two in let same : d ≡ e = cc in (rests, same)

    go : IsReplyVerdict form (taken ++ more) n v → BadReply field ≡ outcome_of n v
    go (inl (body, rest, d, long, is)) =
        let (rests, codings) = rebased (taken ++ more) [] c d.coding ((front ++ tail) ++ more) d.behind here d.has_coding in
        let whole : IsWholeBody c ((front ++ tail) ++ more) true body rest = subst (λ (e : Coding). IsWholeBody e ((front ++ tail) ++ more) true body rest) (sym codings) (subst (λ l. IsWholeBody d.coding l true body rest) (sym rests) d.is_whole) in
        let (y, further) = brought-whole c front (tail ++ more) b.body body rest true come (subst (λ l. IsWholeBody c l true body rest) (append_assoc front tail more) whole) in
        ap (outcome_of n) (one_verdict form body (bad field.kind field.place) v (stays body y further) is)
    go (inr (body, wrong, part, broken, long, is, first)) = broke broken
      where
        broke : BreaksOff (taken ++ more) true body wrong → BadReply field ≡ outcome_of n v
        broke (inl (head, none)) = absurd (good-head (taken ++ more) behind true wrong coding has head)
        broke (inr (d, r, given', b')) =
            let (rests, codings) = rebased (taken ++ more) [] c d ((front ++ tail) ++ more) r here given' in
            let at : IsBrokenBody c ((front ++ tail) ++ more) true body wrong = subst (λ (e : Coding). IsBrokenBody e ((front ++ tail) ++ more) true body wrong) (sym codings) (subst (λ l. IsBrokenBody d l true body wrong) (sym rests) b') in
            let (y, further) = brought-broken c front (tail ++ more) b.body body wrong true come (subst (λ l. IsBrokenBody c l true body wrong) (append_assoc front tail more) at) in
            let one : part ≡ bad field.kind field.place = one_verdict form body part (bad field.kind field.place) is (stays body y further) in
            let all : v ≡ bad field.kind field.place = first ∙ ap (λ x. first_of x wrong) one ∙ sym (goes_first field wrong (lasting_end form b.body field b.lasting)) in
            ap (outcome_of n) (sym all)

pub only_told : (form : Form) (taken more : List ℕ) (coding : Coding) (behind rest text : List ℕ) (ended : Bool) (n : ℕ) (v : Verdict) (o : Outcome) → (IsTrue ended → more ≡ []) → HasCoding (taken ++ more) coding behind
    → IsReplyVerdict form (taken ++ more) n v → Tells form taken ended rest text o → Answers n v o
only_told form taken more coding behind rest text ended n v (Complete m) stop has given (body, w, d, is, told, shown) =
    by_verdict n (length body) v w (Complete m) (one_reply form (taken ++ more) behind coding n (length body) v w has given (inl (body, rest ++ more, delivery-more taken more ended body rest stop d, refl, is))) told
only_told form taken more coding behind rest text ended n v (ServerError code message) stop has given (body, d, is, nothing) =
    let w : Verdict = server_error (record { code = code; message = message }) in
    by_verdict n (length body) v w (ServerError code message) (one_reply form (taken ++ more) behind coding n (length body) v w has given (inl (body, rest ++ more, delivery-more taken more ended body rest stop d, refl, is))) refl
only_told form taken more coding behind rest text ended n v (BadReply field) stop has given (inl b) = brought form taken more coding behind text n v field has given b
only_told form taken more coding behind rest text ended n v (BadReply field) stop has given (inr (inl b)) =
    by_verdict n (length b.body) v (bad field.kind field.place) (BadReply field)
    (one_reply form (taken ++ more) behind coding n (length b.body) v (bad field.kind field.place) has given (inl (b.body, rest ++ more, delivery-more taken more ended b.body rest stop b.delivers, refl, b.verdict))) refl
only_told form taken more coding behind rest text ended n v (BadReply field) stop has given (inr (inr b)) =
    by_verdict n (length b.body) v (bad field.kind field.place) (BadReply field)
    (one_reply form (taken ++ more) behind coding n (length b.body) v (bad field.kind field.place) has given (inr (b.body, b.wrong, b.front, break-more taken more ended b.body b.wrong stop b.breaks, refl, b.verdict, b.is_first))) refl
only_told form taken more coding behind rest text ended n v ReadFault stop has given told = tt
only_told form taken more coding behind rest text ended n v WriteFault stop has given told = tt
only_told form taken more coding behind rest text ended n v LinkFault stop has given none = absurd none
only_told form taken more coding behind rest text ended n v Memory stop has given told = tt

-- ---- what a source had left
