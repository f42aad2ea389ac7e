-- A run of `fetch` shows the data responses in the replies of its link, and nothing else is complete.
use Rattle.std.proofs.Common.{◌≡◌, ◌≢◌, ℕ, zero, suc, ◌+◌, ◌≤◌, inl, inr, Bool, true, false, if◌then◌else◌, List, [], ◌∷◌, ◌++◌, All, length, map, Option, Some, None, option_map, refl, sym, ap, ◌∙◌, subst, arith, append_assoc, append-nil, length-append}
use Rattle.std.proofs.lemmas.Bool.{false≢true, true≢false}
use Rattle.std.proofs.lemmas.List.{append_cancel_left, nil_from_length}
use Rattle.std.proofs.lemmas.List.Elements.{All-append, All-cons, All-head, All-nil, All-tail}
use Rattle.std.specs.Io.KnownBytes.{Appends, Consumes}
use Rattle.plain_lemmas.proofs.Lists.{seam}
use Rattle.plain_lemmas.proofs.Options.{same_value}
use Rattle.dap_types.specs.Model.{Dataset, Tree}
use Rattle.dap_model.specs.Shown.{shown}
use Rattle.dap_outside.specs.Causes.{Rose}
use Rattle.dap_outside.specs.Links.{LinkState}
use Rattle.dap_http.proofs.Deliveries.{one-delivery}
use Rattle.dap_http.proofs.Finals.{gives-more}
use Rattle.dap_http.specs.Delivered.{Delivers, HasCoding, IsWholeBody}
use Rattle.dap_http.specs.declared.kind.Kind.TheVariants.{Dods}
use Rattle.reply_faults.specs.declared.bad.BadField.{BadField}
use Rattle.dap_client.proofs.Bodies.{body_good, good_is_body}
use Rattle.dap_client.specs.Answered as answered
use Rattle.dap_client.specs.Answered.{Tells}
use Rattle.dap_client.specs.Fetched.{AreGood, AreRead, AreVerdicts, IsAsked, IsFetchedOver, IsFirst, IsReadFrom, Reply, SaysVerdict, all_put, all_taken, count_of, is_complete, is_fault, requests_text}
use Rattle.dap_client.specs.Outcomes.{outcome_of}
use Rattle.dap_client.specs.Replies.{IsReplyVerdict, first_of}
use Rattle.dap_client.specs.Verdict.{IsVerdict, Verdict, bad, dods_form, good, good_das, good_dds, is_final, server_error}
use Rattle.dap_client.specs.declared.fetching.Fetched.{Fetched}
use Rattle.dap_client.specs.declared.outcome.Outcome.{Outcome}
use Rattle.dap_client.specs.declared.outcome.Outcome.TheVariants as outcomes
use Rattle.dap_commands.proofs.ShownWhole.{one-response}
use Rattle.dap_commands.specs.ClientHalf.{AreReplies, FetchesData, Fetching, HasRead, IsFetched, IsResponse, Response, text_of, text_of_all}
use Rattle.dap_commands.specs.Fetch.{status_of_outcome}
use Rattle.dap_commands.specs.declared.status.Status.{Status}
use Rattle.dap_commands.specs.declared.status.Status.TheVariants.{Complete, Memory}
use Rattle.dap_client.proofs.Lasts.{IsWhole}

-- ---- the verdict for a complete outcome

complete-good : (bytes : List ℕ) (v : Verdict) (n m : ℕ) → IsVerdict dods_form bytes v → outcome_of n v ≡ outcomes.Complete m → (d : Dataset) × (ts : List Tree) × (v ≡ good d ts) × (n ≡ m)
complete-good bytes (good d ts) n m is e = (d, ts, refl, cc)
complete-good bytes (good_dds d) n m (inl (small, inl (error, judged))) e = absurd judged
complete-good bytes (good_dds d) n m (inl (small, inr (none, judged))) e = absurd judged
complete-good bytes (good_dds d) n m (inr (long, front, judged, inl (final, same))) e = absurd (false≢true (ap is_final same ∙ final))
complete-good bytes (good_dds d) n m (inr (long, front, judged, inr (other, same))) e = cc same
complete-good bytes (good_das a) n m (inl (small, inl (error, judged))) e = absurd judged
complete-good bytes (good_das a) n m (inl (small, inr (none, judged))) e = absurd judged
complete-good bytes (good_das a) n m (inr (long, front, judged, inl (final, same))) e = absurd (false≢true (ap is_final same ∙ final))
complete-good bytes (good_das a) n m (inr (long, front, judged, inr (other, same))) e = cc same
complete-good bytes (server_error o) n m is e = cc e
complete-good bytes (bad kind place) n m is e = cc e

-- a body that breaks off is not complete
first-bad : (v : Verdict) (wrong : BadField) (n : ℕ) → is_complete (outcome_of n (first_of v wrong)) ≡ false
first-bad (good d ts) wrong n = refl
first-bad (good_dds d) wrong n = refl
first-bad (good_das a) wrong n = refl
first-bad (server_error o) wrong n = refl
first-bad (bad kind place) wrong n = go (is_final (bad kind place)) where
  go : (b : Bool) → is_complete (outcome_of n (if b then bad kind place else bad wrong.kind wrong.place)) ≡ false
  go true = refl
  go false = refl

-- what is complete is no fault
sound : (o : Outcome) → is_complete o ≡ true → is_fault o ≡ false
sound (outcomes.Complete n) is = refl
sound (outcomes.ServerError code message) is = cc is
sound (outcomes.BadReply field) is = cc is
sound outcomes.ReadFault is = cc is
sound outcomes.WriteFault is = cc is
sound outcomes.LinkFault is = cc is
sound outcomes.Memory is = cc is

count-is : (o : Outcome) → is_complete o ≡ true → (n : ℕ) × (o ≡ outcomes.Complete n)
count-is (outcomes.Complete n) is = (n, refl)
count-is (outcomes.ServerError code message) is = cc is
count-is (outcomes.BadReply field) is = cc is
count-is outcomes.ReadFault is = cc is
count-is outcomes.WriteFault is = cc is
count-is outcomes.LinkFault is = cc is
count-is outcomes.Memory is = cc is

-- the reply of a complete outcome is whole, and stands first in the bytes
record Stands (bytes : List ℕ) (o : Outcome) : Type 0 where
  n : ℕ
  v : Verdict
  rest : List ℕ
  first : IsFirst dods_form bytes v n rest
  told : o ≡ outcome_of n v

stands-first : (bytes : List ℕ) (o : Outcome) → is_complete o ≡ true → SaysVerdict dods_form bytes o → Stands bytes o
stands-first bytes o is says = go (says (sound o is)) where
  go : (n : ℕ) × (v : Verdict) × IsReplyVerdict dods_form bytes n v × (o ≡ outcome_of n v) → Stands bytes o
  go (n, v, inl (body, rest, delivers, count, verdict), told) = record { n = n; v = v; rest = rest; first = record { body = body; delivers = delivers; verdict = verdict; count = count }; told = told }
  go (n, v, inr (body, wrong, front, breaks, count, verdict, same), told) =
      absurd (true≢false (sym is ∙ ap is_complete (told ∙ ap (λ (x : Verdict). outcome_of n x) same) ∙ first-bad front wrong n))

-- ---- a reply that was read, and the same reply in all bytes

-- with more bytes behind it, it has the same body where it has as long a one
further : (reply more body other rest behind : List ℕ) (ended : Bool) → Delivers reply ended body rest → Delivers (reply ++ more) true other behind → length body ≡ length other
    → (body ≡ other) × (behind ≡ rest ++ more)
further reply more body other rest behind ended d whole long = go d.is_whole where
  has : HasCoding (reply ++ more) d.coding (d.behind ++ more)
  has = gives-more reply more d.behind (inr d.coding) d.has_coding

  go : IsWholeBody d.coding d.behind ended body rest → (body ≡ other) × (behind ≡ rest ++ more)
  go (inl (framed, ends, parts)) =
      let same = one-delivery (reply ++ more) true body other (rest ++ more) behind
      (record { coding = d.coding; behind = d.behind ++ more; has_coding = has; is_whole = inl (framed, ends, ap (λ (l : List ℕ). l ++ more) parts ∙ append_assoc framed rest more) }) whole in
      (same.0, sym same.1)
  go (inr (is, end, all, none)) =
      let same = one-delivery (reply ++ more) true (body ++ more) other [] behind
      (record { coding = d.coding; behind = d.behind ++ more; has_coding = has; is_whole = inr (is, refl, ap (λ (l : List ℕ). l ++ more) all, refl) }) whole in
      let nothing : more ≡ [] = nil_from_length more (omega (arith, long, ap length same.0, length-append body more)) in
      (sym (append-nil body) ∙ ap (λ (l : List ℕ). body ++ l) (sym nothing) ∙ same.0, sym same.1 ∙ sym (ap (λ (l : List ℕ). l ++ more) none ∙ nothing))

-- what is told of it, where it is complete
record IsRead (bytes more rest text : List ℕ) : Type 0 where
  response : Response
  is_response : IsResponse response
  delivers : Delivers (bytes ++ more) true response.bytes (rest ++ more)
  put : text ≡ text_of response

read-so : (bytes more rest text : List ℕ) (ended : Bool) (o : Outcome) → is_complete o ≡ true → Tells dods_form bytes ended rest text o → Stands (bytes ++ more) o → IsRead bytes more rest text
read-so bytes more rest text ended o is tells s = go (count-is o is) where
  go : (n : ℕ) × (o ≡ outcomes.Complete n) → IsRead bytes more rest text
  go (n, e) = told (subst (λ (x : Outcome). Tells dods_form bytes ended rest text x) e tells) where
    told : (body : List ℕ) × (v : Verdict) × Delivers bytes ended body rest × IsVerdict dods_form body v × (outcome_of (length body) v ≡ outcomes.Complete n) × (text ≡ answered.text_shown n v) → IsRead bytes more rest text
    told (body, v, delivers, verdict, out, put) =
        let (d, ts, v_is, count) = complete-good body v (length body) n verdict out in
        let (d2, ts2, v2_is, count2) = complete-good s.first.body s.v s.n n s.first.verdict (sym s.told ∙ e) in
        let (bodies, rests) = further bytes more body s.first.body rest s.rest ended delivers s.first.delivers (count ∙ sym count2 ∙ s.first.count) in
        let is_good = subst (λ (x : Verdict). IsVerdict dods_form body x) v_is verdict in
        record {
          response = record { bytes = body; dataset = d; trees = ts };
          is_response = good_is_body body d ts is_good;
          delivers = subst (λ (x : List ℕ). Delivers (bytes ++ more) true x (rest ++ more)) (sym bodies) (subst (λ (x : List ℕ). Delivers (bytes ++ more) true s.first.body x) rests s.first.delivers);
          put = put ∙ ap (λ (x : Verdict). answered.text_shown n x) v_is ∙ ap (λ (m : ℕ). shown d ts m) (sym count);
        }

-- ---- the replies that were read

record AreShown (bytes : List ℕ) (replies : List Reply) : Type 0 where
  responses : List Response
  count : length responses ≡ length replies
  stand : AreReplies responses bytes
  put : all_put replies ≡ text_of_all responses

-- the verdict on the first, and those on the others
record Verdicts (bytes : List ℕ) (r : Reply) (replies : List Reply) : Type 0 where
  first : Stands bytes r.outcome
  others : AreVerdicts dods_form first.rest (map (λ (q : Reply). q.outcome) replies)

verdicts-of : (bytes : List ℕ) (r : Reply) (replies : List Reply) → IsWhole r → AreVerdicts dods_form bytes (map (λ (q : Reply). q.outcome) (r ∷ replies)) → Verdicts bytes r replies
verdicts-of bytes r [] is says = record { first = stands-first bytes r.outcome is says; others = tt }
verdicts-of bytes r (q ∷ replies) is (n, v, rest, first, told, others) = record { first = record { n = n; v = v; rest = rest; first = first; told = told }; others = others }

one-more : (bytes : List ℕ) (r : Reply) (replies : List Reply) (behind : List ℕ) (response : Response) → Delivers bytes true response.bytes behind → IsResponse response → r.text ≡ text_of response
    → AreShown behind replies → AreShown bytes (r ∷ replies)
one-more bytes r replies behind response delivers is put others = record {
  responses = response ∷ others.responses;
  count = omega (arith, others.count);
  stand = (behind, delivers, is, others.stand);
  put = ap (λ (l : List ℕ). l ++ all_put replies) put ∙ ap (λ (l : List ℕ). text_of response ++ l) others.put;
}

walk : (waiting left after bytes : List ℕ) (replies : List Reply) → bytes ≡ waiting ++ left → left ≡ all_taken replies ++ after → All IsWhole replies → AreRead dods_form waiting replies
    → AreVerdicts dods_form bytes (map (λ (q : Reply). q.outcome) replies) → AreShown bytes replies
walk waiting left after bytes [] e parts all read verdicts = record { responses = []; count = refl; stand = tt; put = refl }
walk waiting left after bytes (r ∷ replies) e parts all (tells, others) verdicts =
    let whole : IsWhole r = All-head IsWhole r replies all in
    let vs = verdicts-of bytes r replies whole verdicts in
    let more : List ℕ = all_taken replies ++ after in
    let laid : bytes ≡ (waiting ++ r.taken) ++ more = e ∙ seam waiting left r.taken more (parts ∙ append_assoc r.taken (all_taken replies) after) in
    let one = read-so (waiting ++ r.taken) more r.rest r.text r.ended r.outcome whole tells (subst (λ (b : List ℕ). Stands b r.outcome) laid vs.first) in
    let here : Delivers bytes true one.response.bytes (r.rest ++ more) = subst (λ (b : List ℕ). Delivers b true one.response.bytes (r.rest ++ more)) (sym laid) one.delivers in
    let rests : vs.first.rest ≡ r.rest ++ more = (one-delivery bytes true vs.first.first.body one.response.bytes vs.first.rest (r.rest ++ more) vs.first.first.delivers here).1 in
    one-more bytes r replies (r.rest ++ more) one.response here one.is_response one.put
    (walk r.rest more after (r.rest ++ more) replies refl refl (All-tail IsWhole r replies all) others
    (subst (λ (b : List ℕ). AreVerdicts dods_form b (map (λ (q : Reply). q.outcome) replies)) rests vs.others))

-- ---- one list of data responses stands in some bytes

pub one-list : (rs qs : List Response) (bytes : List ℕ) → length rs ≡ length qs → AreReplies rs bytes → AreReplies qs bytes → text_of_all rs ≡ text_of_all qs
one-list [] [] bytes long a b = refl
one-list [] (q ∷ qs) bytes long a b = cc long
one-list (r ∷ rs) [] bytes long a b = cc long
one-list (r ∷ rs) (q ∷ qs) bytes long (rest, delivers, is, others) (behind, delivers2, is2, others2) =
    let (bodies, rests) = one-delivery bytes true r.bytes q.bytes rest behind delivers delivers2 in
    let (datasets, values) = one-response r.bytes r.dataset q.dataset r.trees q.trees (body_good r.bytes r.dataset r.trees is)
    (subst (λ (b : List ℕ). IsVerdict dods_form b (good q.dataset q.trees)) (sym bodies) (body_good q.bytes q.dataset q.trees is2)) in
    let texts : text_of r ≡ text_of q = ap (λ (d : Dataset). shown d r.trees (length r.bytes)) datasets ∙ ap (λ (ts : List Tree). shown q.dataset ts (length r.bytes)) values ∙ ap (λ (b : List ℕ). shown q.dataset q.trees (length b)) bodies in
    ap (λ (l : List ℕ). l ++ text_of_all rs) texts
    ∙ ap (λ (l : List ℕ). text_of q ++ l) (one-list rs qs rest (omega (arith, long)) others (subst (λ (b : List ℕ). AreReplies qs b) (sym rests) others2))

-- they are good replies
are-good : (rs : List Response) (bytes : List ℕ) (n : ℕ) → length rs ≡ n → AreReplies rs bytes → AreGood dods_form n bytes
are-good [] bytes zero e all = tt
are-good [] bytes (suc n) e all = cc e
are-good (r ∷ rs) bytes zero e all = cc e
are-good (r ∷ rs) bytes (suc n) e (rest, delivers, is, others) =
    (length r.bytes, good r.dataset r.trees, rest, record { body = r.bytes; delivers = delivers; verdict = body_good r.bytes r.dataset r.trees is; count = refl }, refl, are-good rs rest n (omega (arith, e)) others)

-- ---- the link

-- what was done over the link that came back
record Over {W : Type 0} (f : Fetching W) (link : W) (input : List ℕ) (status : Status) : Type 0 where
  fetched : Fetched
  came : LinkState
  is_status : status ≡ status_of_outcome fetched.last
  is_input : came.left ≡ Some input
  takes : came.take_faults ≡ 0
  puts : came.put_faults ≡ 0
  over : IsFetchedOver dods_form (length f.constraints) (requests_text f.url Dods f.constraints) came (f.state link) (record { written = f.puts.out; faults = f.puts.out_faults }) (record { written = f.puts.out_then; faults = f.puts.out_faults_then }) fetched

not-longer : {A : Type 0} (xs : List A) (x : A) → xs ++ x ∷ [] ≡ xs → ⊥
not-longer xs x e = omega (arith, ap length e, length-append xs (x ∷ []))

-- what came back last
abbrev entry : {W : Type 0} → Fetching W → W → List ((List ℕ × ℕ) × W)
entry f l = ((f.url.host, f.url.port), l) ∷ []

last-of : {W : Type 0} → W → List ((List ℕ × ℕ) × W) → W
last-of other [] = other
last-of other (x ∷ xs) = x.1

link-is : {W : Type 0} (f : Fetching W) (l m : W) → entry f l ≡ entry f m → l ≡ m
unfolding last-of
link-is f l m e = ap (last-of l) e

over-link : {W : Type 0} (f : Fetching W) (link : W) (input : List ℕ) (status : Status) → FetchesData f status → HasRead f link input → Over f link input status
over-link {W} f link input status (fetched, inl (same, none, whole, why), is, line) h = absurd (not-longer h.others ((f.url.host, f.url.port), link) some) where
  some : h.others ++ ((f.url.host, f.url.port), link) ∷ [] ≡ h.others
  some = let clash : Some (h.others ++ ((f.url.host, f.url.port), link) ∷ []) ≡ Some h.others = sym h.back_then ∙ same ∙ h.back in cc clash
over-link {W} f link input status (fetched, inr c, is, line) h =
    let links : option_map (λ (l : List ((List ℕ × ℕ) × W)). l ++ entry f c.link) (Some h.others) ≡ Some (h.others ++ entry f link) =
    ap (λ (o : Option (List ((List ℕ × ℕ) × W))). option_map (λ (l : List ((List ℕ × ℕ) × W)). l ++ entry f c.link) o) (sym h.back) ∙ sym c.back ∙ h.back_then in
    let same : c.link ≡ link = link-is f c.link link (append_cancel_left h.others (entry f c.link) (entry f link) (same_value (h.others ++ entry f c.link) (h.others ++ entry f link) links)) in
    record {
      fetched = fetched;
      came = f.state c.came;
      is_status = is;
      is_input = c.over.is_new.all_left ∙ sym c.over.whole ∙ ap (λ (l : W). (f.state l).whole) same ∙ h.whole;
      takes = c.over.is_new.takes;
      puts = c.over.is_new.puts;
      over = subst (λ (l : W). IsFetchedOver dods_form (length f.constraints) (requests_text f.url Dods f.constraints) (f.state c.came) (f.state l) (record { written = f.puts.out; faults = f.puts.out_faults }) (record { written = f.puts.out_then; faults = f.puts.out_faults_then }) fetched) same c.over;
    }

-- ---- a run that is complete

complete-is : (o : Outcome) → Complete ≡ status_of_outcome o → is_complete o ≡ true
complete-is (outcomes.Complete n) e = refl
complete-is (outcomes.ServerError code message) e = cc e
complete-is (outcomes.BadReply field) e = cc e
complete-is outcomes.ReadFault e = cc e
complete-is outcomes.WriteFault e = cc e
complete-is outcomes.LinkFault e = cc e
complete-is outcomes.Memory e = cc e

consumed : (came back : Option (List ℕ)) (input taken : List ℕ) → came ≡ Some input → Consumes came back taken → (after : List ℕ) × (input ≡ taken ++ after)
consumed None back input taken is took = cc is
consumed (Some xs) None input taken is took = absurd took
consumed (Some xs) (Some ys) input taken is took = let same : xs ≡ input = cc in (ys, sym same ∙ took)

record AllShown (n : ℕ) (input : List ℕ) (before now : Option (List ℕ)) : Type 0 where
  responses : List Response
  count : length responses ≡ n
  stand : AreReplies responses input
  put : Appends before now (text_of_all responses)

all-read : (n : ℕ) (came back : Option (List ℕ)) (ended : Bool) (before now : Option (List ℕ)) (fetched : Fetched) (input : List ℕ) → came ≡ Some input → is_complete fetched.last ≡ true
    → IsReadFrom dods_form n came back ended before now fetched → AllShown n input before now
all-read n came back ended before now fetched input is complete r =
    let k = r.counted in
    let final : IsWhole k.final = ap is_complete (sym k.is_last) ∙ complete in
    let all : All IsWhole r.replies = subst (λ (l : List Reply). All IsWhole l) (sym k.parts) (All-append IsWhole k.before (k.final ∷ []) k.complete (All-cons IsWhole k.final [] final (All-nil IsWhole))) in
    let (after, parts) = consumed came back input (all_taken r.replies) is r.taken in
    let w = walk [] input after input r.replies refl parts all r.read (r.verdicts input is) in
    record {
      responses = w.responses;
      count = omega (arith, w.count, ap length k.parts, length-append k.before (k.final ∷ []), k.stops final);
      stand = w.stand;
      put = subst (λ (l : List ℕ). Appends before now l) w.put r.put;
    }

all-shown : {W : Type 0} (f : Fetching W) (link : W) (input : List ℕ) (status : Status) → FetchesData f status → HasRead f link input → status ≡ Complete → AllShown (length f.constraints) input f.puts.out f.puts.out_then
all-shown f link input status runs h complete =
    let o = over-link f link input status runs h in
    let whole : is_complete o.fetched.last ≡ true = complete-is o.fetched.last (sym complete ∙ o.is_status) in
    elim o.over.asked [
      | inl u ↦ absurd (true≢false (sym whole ∙ ap is_complete u.is_last))
      | inr a ↦ all-read (length f.constraints) o.came.left (f.state link).left (f.state link).ended f.puts.out f.puts.out_then o.fetched input o.is_input whole a.read
    ]

-- ---- a run that no fault and no want of memory ended

last-tells : (waiting : List ℕ) (replies : List Reply) (r : Reply) → AreRead dods_form waiting (replies ++ r ∷ []) → r.outcome ≡ outcomes.LinkFault → ⊥
last-tells waiting [] r (tells, others) e = subst (λ (o : Outcome). Tells dods_form (waiting ++ r.taken) r.ended r.rest r.text o) e tells
last-tells waiting (q ∷ replies) r (tells, others) e = last-tells q.rest replies r others e

no-fault : (o : Outcome) → (o ≡ outcomes.ReadFault → ⊥) → (o ≡ outcomes.WriteFault → ⊥) → (o ≡ outcomes.LinkFault → ⊥) → (o ≡ outcomes.Memory → ⊥) → is_fault o ≡ false
no-fault (outcomes.Complete n) a b c d = refl
no-fault (outcomes.ServerError code message) a b c d = refl
no-fault (outcomes.BadReply field) a b c d = refl
no-fault outcomes.ReadFault a b c d = absurd (a refl)
no-fault outcomes.WriteFault a b c d = absurd (b refl)
no-fault outcomes.LinkFault a b c d = absurd (c refl)
no-fault outcomes.Memory a b c d = absurd (d refl)

counted-whole : (o : Outcome) (before n whole : ℕ) → before + 1 ≤ n → whole ≡ before + count_of o → whole ≡ n → is_complete o ≡ true
counted-whole (outcomes.Complete m) before n whole most is all = refl
counted-whole (outcomes.ServerError code message) before n whole most is all = absurd (omega (arith, most, is, all))
counted-whole (outcomes.BadReply field) before n whole most is all = absurd (omega (arith, most, is, all))
counted-whole outcomes.ReadFault before n whole most is all = absurd (omega (arith, most, is, all))
counted-whole outcomes.WriteFault before n whole most is all = absurd (omega (arith, most, is, all))
counted-whole outcomes.LinkFault before n whole most is all = absurd (omega (arith, most, is, all))
counted-whole outcomes.Memory before n whole most is all = absurd (omega (arith, most, is, all))

status-complete : (o : Outcome) → is_complete o ≡ true → status_of_outcome o ≡ Complete
status-complete (outcomes.Complete n) e = refl
status-complete (outcomes.ServerError code message) e = cc e
status-complete (outcomes.BadReply field) e = cc e
status-complete outcomes.ReadFault e = cc e
status-complete outcomes.WriteFault e = cc e
status-complete outcomes.LinkFault e = cc e
status-complete outcomes.Memory e = cc e

rose-from : (a b : ℕ) → a ≡ 0 → Rose a b → Rose 0 b
rose-from a b e rose = subst (λ (n : ℕ). Rose n b) e rose

asked-complete : {W : Type 0} (f : Fetching W) (link : W) (input : List ℕ) (status : Status) (rs : List Response) (o : Over f link input status)
    → IsAsked dods_form (length f.constraints) (requests_text f.url Dods f.constraints) o.came (f.state link) (record { written = f.puts.out; faults = f.puts.out_faults }) (record { written = f.puts.out_then; faults = f.puts.out_faults_then }) o.fetched
    → AreReplies rs input → length rs ≡ length f.constraints → ¬ (Rose 0 (f.state link).take_faults) → ¬ (Rose f.puts.out_faults f.puts.out_faults_then) → status ≢ Memory → status ≡ Complete
asked-complete f link input status rs o a stand long takes outs memory =
    let r = a.read in
    let k = r.counted in
    let calm = no-fault o.fetched.last (λ e. takes (rose-from o.came.take_faults (f.state link).take_faults o.takes (a.read_fault e))) (λ e. outs (a.write_fault e))
    (λ e. last-tells [] k.before k.final (subst (λ (l : List Reply). AreRead dods_form [] l) k.parts r.read) (sym k.is_last ∙ e)) (λ e. memory (o.is_status ∙ ap status_of_outcome e)) in
    let whole = r.complete input o.is_input (are-good rs input (length f.constraints) long stand) calm in
    let done = counted-whole k.final.outcome (length k.before) (length f.constraints) o.fetched.whole k.most k.whole whole in
    o.is_status ∙ status-complete o.fetched.last (ap is_complete k.is_last ∙ done)

complete-where : {W : Type 0} (f : Fetching W) (link : W) (input : List ℕ) (status : Status) (rs : List Response) → FetchesData f status → HasRead f link input → AreReplies rs input → length rs ≡ length f.constraints
    → ¬ (Rose 0 (f.state link).take_faults) → ¬ (Rose 0 (f.state link).put_faults) → ¬ (Rose f.puts.out_faults f.puts.out_faults_then) → status ≢ Memory → status ≡ Complete
complete-where f link input status rs runs h stand long takes puts outs memory =
    let o = over-link f link input status runs h in
    elim o.over.asked [
      | inl u ↦ absurd (puts (rose-from o.came.put_faults (f.state link).put_faults o.puts u.fault))
      | inr a ↦ asked-complete f link input status rs o a stand long takes outs memory
    ]

pub fetched-whole : {W : Type 0} (f : Fetching W) (link : W) (input : List ℕ) (status : Status) (rs : List Response) → FetchesData f status → HasRead f link input → AreReplies rs input → length rs ≡ length f.constraints
    → IsFetched f link status (text_of_all rs)
fetched-whole f link input status rs runs h stand long = record {
  complete = complete-where f link input status rs runs h stand long;
  put = λ complete.
      let all = all-shown f link input status runs h complete in
      subst (λ (l : List ℕ). Appends f.puts.out f.puts.out_then l) (one-list all.responses rs input (all.count ∙ sym long) all.stand stand) all.put;
}

pub fetched-alone : {W : Type 0} (f : Fetching W) (link : W) (input : List ℕ) → FetchesData f Complete → HasRead f link input → (rs : List Response) × (length rs ≡ length f.constraints) × AreReplies rs input
fetched-alone f link input runs h = let all = all-shown f link input Complete runs h refl in (all.responses, all.count, all.stand)
