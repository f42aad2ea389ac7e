-- What a connection gained on which the request for the file was answered once, with status 200.
use Rattle.std.proofs.Common.{◌≡◌, ℕ, ◌+◌, ◌-◌, ◌≤◌, inl, inr, Bool, true, false, List, [], ◌∷◌, ◌++◌, length, refl, sym, ap, subst, ◌∙◌, arith, Some, None, Option, Result, Ok, Err, append-nil}
use Rattle.std.specs.Prelude.{◌||◌, IfOk, is_some, MatchBool}
use Rattle.std.specs.Io.KnownBytes.{Appends, Consumes}
use Rattle.plain_lemmas.proofs.Truths.{match_true}
use Rattle.dap_outside.specs.Files.{Told}
use Rattle.httparse.specs.Grammar.{ReadsRequest, RequestHead, trim_ows}
use Rattle.dap_errors.specs.Causes.{http_status}
use Rattle.dap_errors.specs.declared.cause.Cause.{Cause}
use Rattle.dap_errors.specs.declared.cause.Cause.TheVariants as causes
use Rattle.dap_http.specs.Requests.{FirstRequest, ends_itself}
use Rattle.dap_http.specs.Targets.{Asked, target_of}
use Rattle.dap_http.specs.declared.kind.Kind.TheVariants.{Dods}
use Rattle.dap_server.specs.Connections.{AreTurns, Behind, Connection, IsClosed, IsConnectionServed, IsPut, MayAnswer, Stops, behind_text, ends_after, is_last_turn, last_status, nothing, part_of_refusal, part_of_reply, put_from, refusal, status_behind, whole_behind}
use Rattle.dap_server.specs.Files.{Files}
use Rattle.dap_server.specs.Replies.{Request, Turn, replies, reply_of, reply_status, request as request_of, wants}
use Rattle.dap_server.specs.Results.{AnswersAsked, Results, ResultsAmong, Text, result_text}
use Rattle.dap_server.specs.Steps.{found_or}
use Rattle.dap_server.proofs.Connecting.{told-put}
use Rattle.dap_server.proofs.OneAnswer.{one_result}
use Rattle.httparse.proofs.GrammarLemmas.{ReadsRequest-append, request_unique}
use Rattle.dap_http.specs.Frames.{framed}
use Rattle.dap_http.specs.Texts.{description_of, head_text}
use Rattle.dap_server.specs.declared.served.Ending.TheVariants.{Closed}
use Rattle.dap_server.specs.declared.served.Served.{Served}
use Rattle.soak.specs.Asked.{constraint_text, file_name, request, target}
use Rattle.soak.specs.File.{soak_bytes}
use Rattle.soak.specs.Numbers.{soak_body}
use Rattle.soak.specs.Reply.{reply}
use Rattle.soak.proofs.Requested.{are_bytes, asked, head, is-first}
use Rattle.soak.proofs.Serving.{is_served}

-- no refusal has status 200
not_200 : (cause : Cause) → 200 ≡ http_status cause → ⊥
not_200 (causes.Syntax place) e = omega arith
not_200 (causes.UnknownName spot) e = omega arith
not_200 (causes.NotArray spot) e = omega arith
not_200 (causes.SlabCount spot) e = omega arith
not_200 (causes.BadSlab spot) e = omega arith
not_200 (causes.TwoSlabs spot) e = omega arith
not_200 (causes.TooMany spot) e = omega arith
not_200 (causes.NotColumn spot) e = omega arith
not_200 (causes.TypeMismatch spot) e = omega arith
not_200 (causes.FloatCompared spot) e = omega arith
not_200 (causes.Unsupported spot) e = omega arith
not_200 (causes.BigNumber spot) e = omega arith
not_200 (causes.TooLarge leaf) e = omega arith
not_200 causes.BadTarget e = omega arith
not_200 causes.NoFile e = omega arith
not_200 causes.BadMethod e = omega arith
not_200 causes.BadRequest e = omega arith
not_200 causes.HeadTooLong e = omega arith
not_200 (causes.Damaged why) e = omega arith
not_200 causes.ReadFailed e = omega arith
not_200 causes.OutOfMemory e = omega arith
not_200 (causes.UpstreamBad place) e = omega arith
not_200 causes.UpstreamFault e = omega arith
not_200 causes.UpstreamLarge e = omega arith

-- ---- one result

pub answers : (files : Files) (text : List ℕ) (a : Asked) (r : Result Text Cause) → target_of text ≡ Some a → Results text files r → AnswersAsked files a r
answers files text a r e (inl (b, is_b, given)) =
    let same : b ≡ a = same_value b a (Ok b) refl (is_b ∙ ap (λ o. found_or o causes.BadTarget) e) in
    subst (λ (x : Asked). AnswersAsked files x r) same given
  where
    same_value : (v w : Asked) (x : Result Asked Cause) → x ≡ Ok v → x ≡ Ok w → v ≡ w
    same_value v w x is_v is_w = cc (is_v, is_w)
answers files text a r e (inr (cause, is_cause, given)) = absurd (cc (is_cause, e))

one-result : (start records : ℕ) (files : Files) (r : Result Text Cause) → 1 ≤ records → records ≤ 4096 → files file_name ≡ Some (soak_bytes start records)
    → Results (target records) files r → r ≡ Ok (result_text Dods (soak_body start records))
one-result start records files r some few is given =
    let a : Asked = record { name = file_name; kind = Dods; query = constraint_text records } in
    one_result files a r (Ok (result_text Dods (soak_body start records))) (are_bytes records few)
    (answers files (target records) a r (asked records few) given)
    (answers files (target records) a (Ok (result_text Dods (soak_body start records))) (asked records few) (is_served start records files some few is))

-- ---- one turn

-- the head ends its connection
ends : (records : ℕ) → ends_itself (head records) ≡ true
unfolding ends_itself trim_ows
ends records = refl

abbrev asked_for : ℕ → Request
asked_for records = request_of 1 (head records)

-- what may be answered with a text is the result
text-is : (start records : ℕ) (files : Files) (text : Text) → 1 ≤ records → records ≤ 4096 → files file_name ≡ Some (soak_bytes start records)
    → MayAnswer (Some files) (asked_for records) (Ok text) → text ≡ result_text Dods (soak_body start records)
text-is start records files text some few is (inl (others, same, answered)) =
    let given : Results (target records) files (Ok text) = subst (λ (fs : Files). ResultsAmong (Some files) (target records) fs (Ok text)) same answered in
    ok_is text (result_text Dods (soak_body start records)) (one-result start records files (Ok text) some few is given)
  where
    ok_is : (v w : Text) → Path (Result Text Cause) (Ok v) (Ok w) → v ≡ w
    ok_is v w e = cc
text-is start records files text some few is (inr (inl failed)) = absurd (no failed.0)
  where
    no : Path (Result Text Cause) (Ok text) (Err causes.ReadFailed) → ⊥
    no e = cc
text-is start records files text some few is (inr (inr wanted)) = absurd (no wanted)
  where
    no : Path (Result Text Cause) (Ok text) (Err causes.OutOfMemory) → ⊥
    no e = cc

reply-is : (start records : ℕ) → reply_of (asked_for records) (Ok (result_text Dods (soak_body start records))) ≡ reply start records
reply-is start records = ap (λ b. head_text 200 (description_of Dods) None true (b || false || false) ++ framed true (soak_body start records)) (ends records)

-- ---- the connection

-- what stands behind a connection that is closed by its last turn
behind-none : (behind : Behind) → IsClosed Closed behind → behind_text behind ≡ []
behind-none nothing is = refl
behind-none (refusal cause) is = absurd is
behind-none (part_of_reply t part) is = absurd is
behind-none (part_of_refusal cause part) is = absurd is

-- without a turn a connection that is closed was refused
no-turn : (files : Files) (left : List ℕ) (ended : Bool) (behind : Behind) → Stops (Some files) 1 left ended Closed behind → 200 ≡ status_behind 0 behind → ⊥
no-turn files left ended nothing stops e = stops
no-turn files left ended (refusal cause) stops e = not_200 cause e
no-turn files left ended (part_of_reply t part) stops e = stops
no-turn files left ended (part_of_refusal cause part) stops e = stops

answer-is : (start records : ℕ) (files : Files) (answer : Result Text Cause) → 1 ≤ records → records ≤ 4096 → files file_name ≡ Some (soak_bytes start records)
    → MayAnswer (Some files) (asked_for records) answer → 200 ≡ reply_status answer → reply_of (asked_for records) answer ≡ reply start records
answer-is start records files (Ok text) some few is may e =
    ap (λ t. reply_of (asked_for records) (Ok t)) (text-is start records files text some few is may) ∙ reply-is start records
answer-is start records files (Err cause) some few is may e = absurd (not_200 cause e)

status-is : (status : ℕ) (behind : Behind) → IsClosed Closed behind → status_behind status behind ≡ status
status-is status nothing is = refl
status-is status (refusal cause) is = absurd is
status-is status (part_of_reply t part) is = absurd is
status-is status (part_of_refusal cause part) is = absurd is

one-turn : (start records : ℕ) (files : Files) (head_is : RequestHead) (answer : Result Text Cause) (behind : Behind) → 1 ≤ records → records ≤ 4096
    → files file_name ≡ Some (soak_bytes start records) → head_is ≡ head records → MayAnswer (Some files) (request_of 1 head_is) answer
    → ((ends_itself head_is || false || wants answer) ≡ true → IsClosed Closed behind) → 200 ≡ status_behind (reply_status answer) behind
    → (reply_of (request_of 1 head_is) answer ++ []) ++ behind_text behind ≡ reply start records
one-turn start records files head_is answer behind some few is same may closes status =
    let last : (ends_itself head_is || false || wants answer) ≡ true = ap (λ h. ends_itself h || false || wants answer) same ∙ ap (λ b. b || false || wants answer) (ends records) in
    let closed : IsClosed Closed behind = closes last in
    let may_so : MayAnswer (Some files) (asked_for records) answer = subst (λ h. MayAnswer (Some files) (request_of 1 h) answer) same may in
    let is_reply : reply_of (request_of 1 head_is) answer ≡ reply start records =
    ap (λ h. reply_of (request_of 1 h) answer) same ∙ answer-is start records files answer some few is may_so (status ∙ status-is (reply_status answer) behind closed) in
    ap (λ xs. (reply_of (request_of 1 head_is) answer ++ []) ++ xs) (behind-none behind closed) ∙ append-nil (reply_of (request_of 1 head_is) answer ++ [])
    ∙ append-nil (reply_of (request_of 1 head_is) answer) ∙ is_reply

-- the first request of what was taken is the one that was sent
head-is : (records : ℕ) (taken rest behind : List ℕ) (other : RequestHead) → records ≤ 4096 → request records ≡ taken ++ rest → FirstRequest taken other behind → other ≡ head records
head-is records taken rest behind other few parts first =
    let stays : ReadsRequest (taken ++ rest) other (behind ++ rest) = ReadsRequest-append taken other behind rest first.0.0 in
    (request_unique (taken ++ rest) other (head records) (behind ++ rest) [] stays (subst (λ input. ReadsRequest input (head records) []) parts (is-first records few).0.0)).0

gained-of : (start records : ℕ) (files : Files) (taken rest left : List ℕ) (ended : Bool) (turns : List Turn) (behind : Behind) → 1 ≤ records → records ≤ 4096
    → files file_name ≡ Some (soak_bytes start records) → request records ≡ taken ++ rest → AreTurns (Some files) 1 taken turns left
    → MatchBool (ends_after false 1 turns) (IsClosed Closed behind) (Stops (Some files) (1 + length turns) left ended Closed behind)
    → 1 ≡ length turns + whole_behind behind → 200 ≡ status_behind (last_status 0 turns) behind → replies 1 turns ++ behind_text behind ≡ reply start records
gained-of start records files taken rest left ended [] behind some few is parts are ending count status = absurd (no-turn files left ended behind ending status)
gained-of start records files taken rest left ended (t ∷ []) behind some few is parts (r, (first, may), _) ending count status =
    one-turn start records files t.head t.answer behind some few is (head-is records taken rest r t.head few parts first) may
    (λ e. match_true (is_last_turn 1 t) (IsClosed Closed behind) (Stops (Some files) 2 left ended Closed behind) e ending) status
gained-of start records files taken rest left ended (t ∷ u ∷ turns) behind some few is parts are ending count status = absurd (omega arith)

pub gained : (start records : ℕ) (files : Files) (taken rest : List ℕ) (ended : Bool) (c : Connection) (served : Served) → 1 ≤ records → records ≤ 4096
    → files file_name ≡ Some (soak_bytes start records) → request records ≡ taken ++ rest → IsConnectionServed (Some files) taken ended c served
    → served.replies ≡ 1 → served.status ≡ 200 → served.ending ≡ Closed → put_from 1 c ≡ reply start records
gained start records files taken rest ended c served some few is parts so one ok closed =
    gained-of start records files taken rest c.left ended c.turns c.behind some few is parts so.turns
    (subst (λ ending. MatchBool (ends_after false 1 c.turns) (IsClosed ending c.behind) (Stops (Some files) (1 + length c.turns) c.left ended ending c.behind)) closed so.ends)
    (omega (arith, so.counted, one)) (sym ok ∙ so.status)

-- ---- what a link has then

consumed : (input : List ℕ) (left : Option (List ℕ)) (taken : List ℕ) → Consumes (Some input) left taken → (rest : List ℕ) × (input ≡ taken ++ rest)
consumed input None taken is = absurd is
consumed input (Some rest) taken is = (rest, is)

pub appended : (new : Option (List ℕ)) (text b : List ℕ) → Appends (Some []) new text → new ≡ Some b → text ≡ b
appended None text b is e = absurd is
appended (Some ys) text b is e = sym is ∙ cc e

pub written-is : (start records : ℕ) (told : Told) (files : Files) (came left old new : Option (List ℕ)) (ended : Bool) (served : Served) (b : List ℕ) → 1 ≤ records → records ≤ 4096
    → told ≡ Some files → files file_name ≡ Some (soak_bytes start records) → came ≡ Some (request records) → old ≡ Some [] → new ≡ Some b
    → (c : Connection) (taken : List ℕ) → Consumes came left taken → ((put : List ℕ) × Appends old new put × IsPut told 1 c put) → IsConnectionServed told taken ended c served
    → served.replies ≡ 1 → served.status ≡ 200 → served.ending ≡ Closed → b ≡ reply start records
written-is start records told files came left old new ended served b some few is_told is is_came is_old is_new c taken consumes puts so one ok closed =
    let (rest, parts) = consumed (request records) left taken (subst (λ o. Consumes o left taken) is_came consumes) in
    let put : Appends (Some []) new (put_from 1 c) = subst (λ o. Appends o new (put_from 1 c)) is_old (told-put told 1 c old new (ap is_some is_told) puts) in
    sym (appended new (put_from 1 c) b put is_new)
    ∙ gained start records files taken rest ended c served some few is parts (subst (λ (t : Told). IsConnectionServed t taken ended c served) is_told so) one ok closed

pub if-ok : {T E : Type 0} (P Q : T → Type 0) (r : Result T E) → ((x : T) → P x → Q x) → IfOk r P → IfOk r Q
if-ok P Q (Ok x) f p = f x p
if-ok P Q (Err e) f p = tt
