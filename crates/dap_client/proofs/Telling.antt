-- What the outcome of the reader of a body tells of the bytes behind the head.
use Rattle.std.proofs.Common.{◌≡◌, ℕ, ◌+◌, ◌-◌, ◌^◌, ◌<◌, ◌≤◌, ◌⊎◌, inl, inr, Bool, List, [], ◌++◌, length, take, drop, Some, refl, ap, ◌∙◌, sym, subst, arith, append_assoc, append-nil, length-take-le, take-append-drop}
use Rattle.std.proofs.lemmas.Bool.{cases_lt}
use Rattle.std.proofs.lemmas.List.{take-append-le, take_all}
use Rattle.std.proofs.Math.Seq.{take-append-add}
use Rattle.dap_outside.specs.Causes.{Rose}
use Rattle.xdr_decode.specs.Verdict.{budget}
use Rattle.reply_faults.specs.declared.bad.BadField.{BadField}
use Rattle.dap_http.proofs.Parts.{opened}
use Rattle.dap_http.specs.Codings.{Goes}
use Rattle.dap_http.specs.Delivered.{IsBrokenBody, IsWholeBody}
use Rattle.dap_http.specs.Following.{Follows, IsInTime, body_coding, part_of, waiting}
use Rattle.dap_http.specs.declared.body_parts.BodyParts.{BodyParts}
use Rattle.dap_http.specs.declared.coding.Coding.{Coding}
use Rattle.dap_client.specs.After.{IsBrokenOff, IsFinished, IsPushed}
use Rattle.dap_client.specs.Answered.{ShowsBroken, ShowsRefused}
use Rattle.dap_client.specs.Shows.{BreaksOff}
use Rattle.dap_client.specs.Verdict.{Form, IsVerdict, bad, das_form, dds_form, dods_form}
use Rattle.dap_client.specs.inner.Behind.{ShowsUnputBehind, TellsBehind}
use Rattle.dap_client.specs.declared.outcome.Outcome.{Outcome}
use Rattle.dap_client.specs.declared.outcome.Outcome.TheVariants.{Complete, ServerError, BadReply, ReadFault, WriteFault, LinkFault, Memory}
use Rattle.dap_client.specs.declared.body.Body.{Body}
use Rattle.dap_client.proofs.Behind.{come-now}
use Rattle.dap_client.proofs.InTime.{line-in-time}

pub rose-same : (a b c : ℕ) → b ≡ a → Rose b c → Rose a c
rose-same a b c same rose = omega (arith, same, rose)

pub no-read-fault : (r : Body) (form : Form) (before bytes text : List ℕ) (outcome : Outcome) → IsPushed r form before bytes text (Some outcome) → outcome ≡ ReadFault → ⊥
no-read-fault r form before bytes text outcome pushed e = subst (λ (o : Outcome). IsPushed r form before bytes text (Some o)) e pushed

pub whole-piece : (n : ℕ) (part : List ℕ) → length (take n part) < n → take n part ≡ part
whole-piece n part less = go (cases_lt n (length part)) where
  go : (n < length part) ⊎ (length part ≤ n) → take n part ≡ part
  go (inl more) = absurd (omega (arith, less, length-take-le n part (omega (arith, more))))
  go (inr le) = take_all n part le

-- ---- behind a piece

joined : (body part : List ℕ) (n : ℕ) → body ++ part ≡ (body ++ take n part) ++ drop n part
joined body part n = ap (λ t. body ++ t) (sym (take-append-drop n part)) ∙ sym (append_assoc body (take n part) (drop n part))

cut-at : (body part : List ℕ) → length body < budget → take budget (body ++ part) ≡ body ++ take (2 ^ 40 - length body) part
unfolding budget
cut-at body part small =
    let n : 2 ^ 40 ≡ length body + (2 ^ 40 - length body) = omega (arith, small) in
    ap (λ m. take m (body ++ part)) n ∙ take-append-add body part (2 ^ 40 - length body)

pub part-told : (form : Form) (p : BodyParts) (r : Body) (bytes body put : List ℕ) (ended : Bool) (outcome : Outcome) → Follows p bytes (body ++ part_of p) → length body < budget → IsInTime (body_coding p) bytes body
    → IsPushed r form body (body ++ take (2 ^ 40 - length body) (part_of p)) put (Some outcome) → TellsBehind form (body_coding p) bytes ended p put outcome
part-told form p r bytes body put ended (Complete n) follows small time none = absurd none
part-told form p r bytes body put ended (ServerError code message) follows small time none = absurd none
part-told form p r bytes body put ended ReadFault follows small time none = absurd none
part-told form p r bytes body put ended LinkFault follows small time none = absurd none
part-told form p r bytes body put ended (BadReply field) follows small time (within, lasting, shows) =
    let part = part_of p in
    let n = 2 ^ 40 - length body in
    let o = opened p bytes (body ++ part) follows in
    inl (record {
      body = body ++ part;
      brings = (o.used, waiting p, o.parts, come-now p bytes (body ++ part) o);
      lasting = λ more. subst (λ (t : List ℕ). IsVerdict form t (bad field.kind field.place)) (sym (ap (λ t. t ++ more) (joined body part n) ∙ append_assoc (body ++ take n part) (drop n part) more)) (lasting (drop n part ++ more));
      shows = subst (λ (t : List ℕ). ShowsRefused form t put) (sym (ap (take field.place) (joined body part n) ∙ take-append-le field.place (body ++ take n part) (drop n part) within)) shows;
    })
part-told form p r bytes body put ended WriteFault follows small time (is, shows) =
    let part = part_of p in
    let o = opened p bytes (body ++ part) follows in
    subst (λ (f : Form). ShowsUnputBehind f (body_coding p) bytes ended (waiting p) put) (sym is)
    (o.used, waiting p, body ++ part, o.parts, come-now p bytes (body ++ part) o, subst (λ (t : List ℕ). BreaksOff t put) (sym (cut-at body part small)) shows)
part-told form p r bytes body put ended Memory follows small time (nothing, none) = (nothing, λ is. line-in-time (body_coding p) bytes body time (none is))

-- ---- at the end

unput-whole : (form : Form) (c : Coding) (bytes rest body put : List ℕ) (ended : Bool) → length body < budget → IsWholeBody c bytes ended body rest → ShowsBroken form body put → ShowsUnputBehind form c bytes ended rest put
unput-whole dods_form c bytes rest body put ended small whole shows = go whole where
  told : ShowsBroken dods_form (take budget body) put
  told = subst (λ (t : List ℕ). ShowsBroken dods_form t put) (sym (take_all budget body (omega (arith, small)))) shows

  go : IsWholeBody c bytes ended body rest → ShowsUnputBehind dods_form c bytes ended rest put
  go (inl (framed, ends, parts)) = (framed, rest, body, parts, record { front = framed; rest = []; parts = sym (append-nil framed); comes = inr ends }, told)
  go (inr (coding, end, same, nothing)) =
      (bytes, [], body, sym (append-nil bytes), record { front = bytes; rest = []; parts = sym (append-nil bytes); comes = inl (subst (λ (d : Coding). Goes d bytes body) (sym coding) (sym same), refl) }, told)
unput-whole dds_form c bytes rest body put ended small whole shows = (body, whole, shows)
unput-whole das_form c bytes rest body put ended small whole shows = (body, whole, shows)

pub end-told : (form : Form) (p : BodyParts) (bytes body put : List ℕ) (ended : Bool) (outcome : Outcome) → IsWholeBody (body_coding p) bytes ended body (waiting p) → length body < budget → IsInTime (body_coding p) bytes body
    → IsFinished form body put outcome → TellsBehind form (body_coding p) bytes ended p put outcome
end-told form p bytes body put ended (Complete n) whole small time (v, is, told, text) = (body, v, whole, is, told, text)
end-told form p bytes body put ended (ServerError code message) whole small time (is, nothing) = (body, whole, is, nothing)
end-told form p bytes body put ended (BadReply field) whole small time (is, shows) = inr (inl (record { body = body; delivers = whole; verdict = is; shows = shows }))
end-told form p bytes body put ended ReadFault whole small time none = absurd none
end-told form p bytes body put ended LinkFault whole small time none = absurd none
end-told form p bytes body put ended WriteFault whole small time shows = unput-whole form (body_coding p) bytes (waiting p) body put ended small whole shows
end-told form p bytes body put ended Memory whole small time (nothing, none) = (nothing, λ is. line-in-time (body_coding p) bytes body time (none is))

-- ---- where it breaks off

pub broken-told : (form : Form) (p : BodyParts) (bytes body put : List ℕ) (ended : Bool) (wrong : BadField) (outcome : Outcome) → IsBrokenBody (body_coding p) bytes ended body wrong → IsInTime (body_coding p) bytes body
    → IsBrokenOff form body put wrong outcome → TellsBehind form (body_coding p) bytes ended p put outcome
broken-told form p bytes body put ended wrong (Complete n) broken time none = absurd none
broken-told form p bytes body put ended wrong (ServerError code message) broken time none = absurd none
broken-told form p bytes body put ended wrong ReadFault broken time none = absurd none
broken-told form p bytes body put ended wrong WriteFault broken time none = absurd none
broken-told form p bytes body put ended wrong LinkFault broken time none = absurd none
broken-told form p bytes body put ended wrong (BadReply field) broken time (front, is, first, shows) =
    inr (inr (record { body = body; wrong = wrong; front = front; breaks = broken; verdict = is; is_first = first; shows = shows }))
broken-told form p bytes body put ended wrong Memory broken time (nothing, none) = (nothing, λ is. line-in-time (body_coding p) bytes body time (none is))
