-- From the bytes behind the heads of a reply to the reply.
use Rattle.std.proofs.Common.{◌≡◌, ℕ, ◌≤◌, inl, inr, Bool, List, [], length, refl, sym, subst}
use Rattle.reply_faults.specs.declared.bad.BadField.{BadField}
use Rattle.dap_http.specs.Reading.{Answers}
use Rattle.dap_http.specs.declared.reply_reader.ReplyRead.TheVariants as read
use Rattle.dap_http.specs.Delivered.{HasBadHead, HasCoding}
use Rattle.dap_http.specs.declared.coding.Coding.{Coding}
use Rattle.dap_client.specs.After.{IsBrokenOff}
use Rattle.dap_client.specs.Answered.{ShowsStopped, ShowsUnput, Tells}
use Rattle.dap_client.specs.Verdict.{Form, das_form, dds_form, dods_form}
use Rattle.dap_client.proofs.InTime.{line-lifted, line-short}
use Rattle.dap_client.specs.inner.Behind.{IsToldBehind, ShowsUnputBehind}
use Rattle.dap_client.specs.declared.outcome.Outcome.{Outcome}
use Rattle.dap_client.specs.declared.outcome.Outcome.TheVariants.{Complete, ServerError, BadReply, ReadFault, WriteFault, LinkFault, Memory}

unput-lifted : (form : Form) (c : Coding) (reply behind rest text : List ℕ) (ended : Bool) → HasCoding reply c behind → ShowsUnputBehind form c behind ended rest text → ShowsUnput form reply ended rest text
unput-lifted dods_form c reply behind rest text ended has (front, more, body, parts, come, shows) =
    (body, (c, front, more, subst (λ (t : List ℕ). HasCoding reply c t) parts has, come), shows)
unput-lifted dds_form c reply behind rest text ended has (body, whole, shows) = (body, record { coding = c; behind = behind; has_coding = has; is_whole = whole }, shows)
unput-lifted das_form c reply behind rest text ended has (body, whole, shows) = (body, record { coding = c; behind = behind; has_coding = has; is_whole = whole }, shows)

pub lifted : (form : Form) (c : Coding) (reply behind rest text : List ℕ) (ended : Bool) (outcome : Outcome) → HasCoding reply c behind
    → IsToldBehind form c behind ended rest text outcome → Tells form reply ended rest text outcome
lifted form c reply behind rest text ended (Complete n) has (body, v, whole, is, told, shown) =
    (body, v, record { coding = c; behind = behind; has_coding = has; is_whole = whole }, is, told, shown)
lifted form c reply behind rest text ended (ServerError code message) has (body, whole, is, nothing) =
    (body, record { coding = c; behind = behind; has_coding = has; is_whole = whole }, is, nothing)
lifted form c reply behind rest text ended (BadReply field) has (inl b) =
    inl (record {
      body = b.body;
      brings = (c, b.brings.0, b.brings.1, subst (λ (t : List ℕ). HasCoding reply c t) b.brings.2 has, b.brings.3);
      lasting = b.lasting;
      shows = b.shows;
    })
lifted form c reply behind rest text ended (BadReply field) has (inr (inl b)) =
    inr (inl (record { body = b.body; delivers = record { coding = c; behind = behind; has_coding = has; is_whole = b.delivers }; verdict = b.verdict; shows = b.shows }))
lifted form c reply behind rest text ended (BadReply field) has (inr (inr b)) =
    inr (inr (record { body = b.body; wrong = b.wrong; front = b.front; breaks = inr (c, behind, has, b.breaks); verdict = b.verdict; is_first = b.is_first; shows = b.shows }))
lifted form c reply behind rest text ended ReadFault has (body, come, shows) = (body, inl (c, behind, has, come), shows)
lifted form c reply behind rest text ended WriteFault has shows = unput-lifted form c reply behind rest text ended has shows
lifted form c reply behind rest text ended LinkFault has none = absurd none
lifted form c reply behind rest text ended Memory has (nothing, few) = (nothing, line-lifted form c reply behind has few)

pub told-as : (form other : Form) (c d : Coding) (bytes all rest left text : List ℕ) (ended : Bool) (outcome : Outcome) → form ≡ other → c ≡ d → bytes ≡ all → rest ≡ left
    → IsToldBehind form c bytes ended rest text outcome → IsToldBehind other d all ended left text outcome
told-as form other c d bytes all rest left text ended outcome forms codings same rests told =
    subst (λ (f : Form). IsToldBehind f d all ended left text outcome) forms
    (subst (λ (e : Coding). IsToldBehind form e all ended left text outcome) codings
    (subst (λ (t : List ℕ). IsToldBehind form c t ended left text outcome) same
    (subst (λ (r : List ℕ). IsToldBehind form c bytes ended r text outcome) rests told)))

-- ---- where no head gives a coding

pub bad-head : (reply kept : List ℕ) (ended : Bool) (wrong : BadField) → Answers reply kept ended (read.Refused wrong) → HasBadHead reply ended wrong
bad-head reply kept ended wrong (place, inl (kind, none, same)) = (place, inl (kind, none))
bad-head reply kept ended wrong (place, inr (inl (kind, long, same))) = (place, inr (inl (kind, long)))
bad-head reply kept ended wrong (place, inr (inr (inl (kind, end, cut, same)))) = (place, inr (inr (inl (kind, end, cut))))
bad-head reply kept ended wrong (place, inr (inr (inr gives))) = (place, inr (inr (inr (kept, gives))))

pub head-told : (form : Form) (reply rest : List ℕ) (ended : Bool) (wrong : BadField) (outcome : Outcome) → HasBadHead reply ended wrong → length reply ≤ 65536 → IsBrokenOff form [] [] wrong outcome → Tells form reply ended rest [] outcome
head-told form reply rest ended wrong (Complete n) bad_head room none = absurd none
head-told form reply rest ended wrong (ServerError code message) bad_head room none = absurd none
head-told form reply rest ended wrong ReadFault bad_head room none = absurd none
head-told form reply rest ended wrong WriteFault bad_head room none = absurd none
head-told form reply rest ended wrong LinkFault bad_head room none = absurd none
head-told form reply rest ended wrong (BadReply field) bad_head room (front, is, first, shows) =
    inr (inr (record { body = []; wrong = wrong; front = front; breaks = inl (bad_head, refl); verdict = is; is_first = first; shows = shows }))
head-told form reply rest ended wrong Memory bad_head room (nothing, none) = (nothing, λ is. line-short reply room)

pub fault-told : (form : Form) (reply kept rest : List ℕ) (ended : Bool) (outcome : Outcome) → outcome ≡ ReadFault → Answers reply kept ended read.ReadFault → ShowsStopped form [] [] → Tells form reply ended rest [] outcome
fault-told form reply kept rest ended outcome e (none, same) shows =
    subst (λ (o : Outcome). Tells form reply ended rest [] o) (sym e) ([], inr (λ coding behind has. let (head, final, within, is) = has in none head behind final, refl), shows)

pub memory-told : (form : Form) (reply rest : List ℕ) (ended : Bool) → length reply ≤ 65536 → Tells form reply ended rest [] Memory
memory-told form reply rest ended room = (refl, λ is. line-short reply room)
