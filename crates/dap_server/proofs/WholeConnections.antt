-- A connection on which no fault came and memory was had answers all requests of its input.
use Rattle.std.proofs.Common.{◌≡◌, ◌≢◌, ℕ, zero, suc, ◌+◌, Bool, false, true, ◌||◌, List, [], ◌∷◌, ◌++◌, length, map, Option, Some, IsTrue, Result, Ok, Err, refl, sym, ap, ◌∙◌, subst, arith, append-nil, inl, inr}
use Rattle.std.proofs.lemmas.Bool.{true≢false}
use Rattle.std.specs.Io.KnownBytes.{Appends, Consumes, IsAtEnd}
use Rattle.dap_server.proofs.Ends.{no-bad}
use Rattle.plain_lemmas.proofs.Truths.{true_or_false, first_false, second_false, match_true, match_false}
use Rattle.httparse.specs.Grammar.{RequestHead}
use Rattle.dap_errors.specs.Causes.{http_status}
use Rattle.dap_errors.specs.declared.cause.Cause.{Cause}
use Rattle.dap_errors.specs.declared.cause.Cause.TheVariants.{OutOfMemory}
use Rattle.dap_http.specs.Requests.{FirstRequest, HasNoRequest, IsGone, Requests, ends_connection}
use Rattle.dap_http.proofs.HeadReading.{too-long-still, long-still, bad-still}
use Rattle.dap_outside.specs.Causes.{Rose}
use Rattle.dap_outside.specs.Files.{Told}
use Rattle.dap_server.specs.Connections.{AreTurns, Behind, Connection, IsClosed, IsConnectionServed, MayAnswer, RoseBy, RoseFor, Stops, ends_after, failed_turns, failures, is_last_turn, last_status, nothing, part_of_refusal, part_of_reply, put_from, refusal, status_behind}
use Rattle.dap_server.specs.Files.{Files}
use Rattle.dap_server.specs.Replies.{AreAnswered, IsRequestAnswered, IsRequestAnsweredAmong, Request, Turn, replies, reply_status, request, wants}
use Rattle.dap_server.specs.Results.{Text}
use Rattle.dap_server.specs.Whole.{AnswersAll, EndsBehind}
use Rattle.dap_server.specs.declared.served.Ending.{Ending}
use Rattle.dap_server.specs.declared.served.Ending.TheVariants.{Closed, Gone, ReadFault, WriteFault, Broken}
use Rattle.dap_server.specs.declared.served.Served.{Served}
use Rattle.dap_server.proofs.Choices.{where_true, where_false}
use Rattle.dap_server.proofs.Turning.{request-stays}

-- ---- bytes that hold no request, with more behind them

-- ---- no failure, and no want of memory

pub no-failures : (n faults faults' : ℕ) → RoseBy n faults faults' → ¬ (Rose faults faults') → n ≡ 0
no-failures zero faults faults' rose none = refl
no-failures (suc n) faults faults' rose none = absurd (none (omega (arith, rose)))

-- an answer is a text, a want of memory, a failed read, or another cause
wants-status : (answer : Result Text Cause) → wants answer ≡ true → reply_status answer ≡ 503
wants-status (Ok t) is = cc is
wants-status (Err OutOfMemory) is = refl
wants-status (Err cause) is = cc is

or-no : (a b : Bool) → b ≡ false → (a || b) ≡ a
or-no true b is = refl
or-no false b is = is

no-wants : (answer : Result Text Cause) → reply_status answer ≢ 503 → wants answer ≡ false
no-wants answer unlike = elim (true_or_false (wants answer)) [
  | inl is ↦ absurd (unlike (wants-status answer is))
  | inr is ↦ is
]

answered-so : (files : Files) (q : Request) (answer : Result Text Cause) → MayAnswer (Some files) q answer → Rattle.dap_server.specs.Connections.has_failed answer ≡ 0 → wants answer ≡ false → IsRequestAnswered files q answer
answered-so files q answer (inl (other, is, answers)) none calm = subst (λ f. IsRequestAnsweredAmong (Some files) f q answer) is answers
answered-so files q answer (inr (inl (is, served, asks))) none calm = cc (none, ap Rattle.dap_server.specs.Connections.has_failed is)
answered-so files q answer (inr (inr is)) none calm = cc (calm, ap wants is)

-- ---- all turns

abbrev Calm : ℕ → ℕ → List Turn → Type 0
Calm before k turns = ends_after false k turns ≡ true → last_status before turns ≢ 503

abbrev pub heads : List Turn → List RequestHead
heads turns = map (λ (t : Turn). t.head) turns

abbrev All-turns : Files → ℕ → List ℕ → List ℕ → List ℕ → List Turn → Type 0
All-turns files k bytes left more turns =
    AreAnswered files k turns × ((ends_after false k turns ≡ false → HasNoRequest (left ++ more)) → Requests k (bytes ++ more) (heads turns) (left ++ more))

last-one : (files : Files) (k : ℕ) (bytes rest more : List ℕ) (t : Turn) (before : ℕ) → FirstRequest bytes t.head rest → MayAnswer (Some files) (request k t.head) t.answer
    → is_last_turn k t ≡ true → Rattle.dap_server.specs.Connections.has_failed t.answer ≡ 0 → Calm before k (t ∷ []) → All-turns files k bytes rest more (t ∷ [])
last-one files k bytes rest more t before first may last none calm =
    let quiet : wants t.answer ≡ false = no-wants t.answer (calm last) in
    let ends : ends_connection k t.head ≡ true = sym (or-no (ends_connection k t.head) (wants t.answer) quiet) ∙ last in (
      (answered-so files (request k t.head) t.answer may none quiet, tt),
      λ _. (rest ++ more, request-stays bytes rest more t.head first, where_true (ends_connection k t.head) _ _ ends (refl, refl)),
    )

pub all-turns : (files : Files) (k : ℕ) (bytes left more : List ℕ) (turns : List Turn) (before : ℕ) → AreTurns (Some files) k bytes turns left
    → failed_turns turns ≡ 0 → Calm before k turns → All-turns files k bytes left more turns
all-turns files k bytes left more [] before is none calm = (tt, λ has. (ap (λ l. l ++ more) is, subst (λ l. HasNoRequest (l ++ more)) is (has refl)))
all-turns files k bytes left more (t ∷ turns) before (rest, (first, may), behind) none calm = elim (true_or_false (is_last_turn k t)) [
  | inl last ↦
      let (empty, is) = match_true (is_last_turn k t) _ _ last behind in
      subst (λ (us : List Turn). All-turns files k bytes left more (t ∷ us)) (sym empty)
      (subst (λ (l : List ℕ). All-turns files k bytes l more (t ∷ [])) (sym is)
      (last-one files k bytes rest more t before first may last (omega (arith, none)) (subst (λ (us : List Turn). Calm before k (t ∷ us)) empty calm)))
  | inr goes ↦
      let same : ends_after (is_last_turn k t) (k + 1) turns ≡ ends_after false (k + 1) turns = ap (λ b. ends_after b (k + 1) turns) goes in
      let (answered, requests) = all-turns files (k + 1) rest left more turns (reply_status t.answer) (match_false (is_last_turn k t) _ _ goes behind) (omega (arith, none)) (λ ends. calm (same ∙ ends)) in
      let ends : ends_connection k t.head ≡ false = first_false (ends_connection k t.head) (wants t.answer) goes in
      let quiet : wants t.answer ≡ false = second_false (ends_connection k t.head) (wants t.answer) goes in (
        (answered-so files (request k t.head) t.answer may (omega (arith, none)) quiet, answered),
        λ has. (rest ++ more, request-stays bytes rest more t.head first, where_false (ends_connection k t.head) _ _ ends (requests (λ e. has (same ∙ e)))),
      )
]

-- ---- the whole connection

abbrev Whole-answers : Files → List ℕ → List ℕ → Connection → Served → Type 0
Whole-answers files input gained c served = AnswersAll input files gained served

-- it was closed behind the last turn
closed-whole : (files : Files) (taken more : List ℕ) (c : Connection) (served : Served) → AreTurns (Some files) 1 taken c.turns c.left → failed_turns c.turns ≡ 0 → ends_after false 1 c.turns ≡ true
    → c.behind ≡ nothing → served ≡ record { replies = length c.turns; status = last_status 0 c.turns; ending = Closed } → served.status ≢ 503 → AnswersAll (taken ++ more) files (put_from 1 c) served
closed-whole files taken more c served turns none ends empty is calm =
    let (answered, requests) = all-turns files 1 taken c.left more c.turns 0 turns none (λ _ is503. calm (ap (λ (s : Served). s.status) is ∙ is503)) in
    record {
      text = replies 1 c.turns;
      tail = [];
      replies = record { turns = c.turns; behind = c.left ++ more; requests = requests (λ open_end. absurd (true≢false (sym ends ∙ open_end))); answered = answered; are_these = refl };
      gained_is = ap (λ b. replies 1 c.turns ++ Rattle.dap_server.specs.Connections.behind_text b) empty;
      ends = where_true (ends_after false 1 c.turns) _ _ ends (refl, is);
    }

open-whole : (files : Files) (taken more : List ℕ) (c : Connection) (served : Served) → AreTurns (Some files) 1 taken c.turns c.left → failed_turns c.turns ≡ 0 → ends_after false 1 c.turns ≡ false
    → HasNoRequest (c.left ++ more) → EndsBehind (c.left ++ more) (Rattle.dap_server.specs.Connections.behind_text c.behind) (length c.turns) (last_status 0 c.turns) served → AnswersAll (taken ++ more) files (put_from 1 c) served
open-whole files taken more c served turns none goes has ends =
    let (answered, requests) = all-turns files 1 taken c.left more c.turns 0 turns none (λ is. absurd (true≢false (sym is ∙ goes))) in
    record {
      text = replies 1 c.turns;
      tail = Rattle.dap_server.specs.Connections.behind_text c.behind;
      replies = record { turns = c.turns; behind = c.left ++ more; requests = requests (λ _. has); answered = answered; are_these = refl };
      gained_is = refl;
      ends = where_false (ends_after false 1 c.turns) _ _ goes ends;
    }

-- how it may have ended where no count rose
ends-open : (files : Files) (left more : List ℕ) (k count status : ℕ) (ended : Bool) (ending : Ending) (behind : Behind) (served : Served)
    → Stops (Some files) k left ended ending behind → (IsTrue ended → more ≡ []) → ending ≢ ReadFault → ending ≢ WriteFault → ending ≢ Broken
    → served ≡ record { replies = count + Rattle.dap_server.specs.Connections.whole_behind behind; status = status_behind status behind; ending = ending } → served.status ≢ 503
    → HasNoRequest (left ++ more) × EndsBehind (left ++ more) (Rattle.dap_server.specs.Connections.behind_text behind) count status served
ends-open files left more k count status ended Closed (refusal cause) served (inl (is, bad)) at_end nr nw nb e calm =
    let still = bad-still left more bad in (no-bad (left ++ more) still, inl (cause, inl (is, still), refl, e))
ends-open files left more k count status ended Closed (refusal cause) served (inr (inl (is, long))) at_end nr nw nb e calm =
    let still = long-still left more long in (still.none, inl (cause, inr (is, still), refl, e))
ends-open files left more k count status ended Closed (refusal cause) served (inr (inr (is, none))) at_end nr nw nb e calm =
    absurd (calm (ap (λ (s : Served). s.status) e ∙ ap http_status is))
ends-open files left more k count status ended Gone nothing served (mark, gone) at_end nr nw nb e calm =
    let same : left ++ more ≡ left = ap (λ l. left ++ l) (at_end mark) ∙ append-nil left in
    let still : IsGone (left ++ more) = subst IsGone (sym same) gone in
    (λ head rest first. still.none head rest first.0, inr (still, refl, e ∙ ap (λ n. record { replies = n; status = status; ending = Gone }) (omega arith)))
ends-open files left more k count status ended Closed nothing served stops at_end nr nw nb e calm = absurd stops
ends-open files left more k count status ended Closed (part_of_reply t part) served stops at_end nr nw nb e calm = absurd stops
ends-open files left more k count status ended Closed (part_of_refusal cause part) served stops at_end nr nw nb e calm = absurd stops
ends-open files left more k count status ended Gone (refusal cause) served stops at_end nr nw nb e calm = absurd stops
ends-open files left more k count status ended Gone (part_of_reply t part) served stops at_end nr nw nb e calm = absurd stops
ends-open files left more k count status ended Gone (part_of_refusal cause part) served stops at_end nr nw nb e calm = absurd stops
ends-open files left more k count status ended ReadFault behind served stops at_end nr nw nb e calm = absurd (nr refl)
ends-open files left more k count status ended WriteFault behind served stops at_end nr nw nb e calm = absurd (nw refl)
ends-open files left more k count status ended Broken behind served stops at_end nr nw nb e calm = absurd (nb refl)

is-closed : (ending : Ending) (behind : Behind) → IsClosed ending behind → (ending ≡ Closed) × (behind ≡ nothing)
is-closed Closed nothing is = (refl, refl)
is-closed Closed (refusal cause) is = absurd is
is-closed Closed (part_of_reply t part) is = absurd is
is-closed Closed (part_of_refusal cause part) is = absurd is
is-closed Gone behind is = absurd is
is-closed ReadFault behind is = absurd is
is-closed WriteFault behind is = absurd is
is-closed Broken behind is = absurd is

served-is : (s : Served) (n status : ℕ) (ending : Ending) → s.replies ≡ n → s.status ≡ status → s.ending ≡ ending → s ≡ record { replies = n; status = status; ending = ending }
served-is s n status ending a b e = ap (λ m. record { replies = m; status = s.status; ending = s.ending }) a ∙ ap (λ m. record { replies = n; status = m; ending = s.ending }) b ∙ ap (λ m. record { replies = n; status = status; ending = m }) e

no-read : (ending : Ending) (a b c d : ℕ) → RoseFor ending a b c d → ¬ (Rose a b) → ending ≢ ReadFault
no-read Closed a b c d rose none = λ is. cc is
no-read Gone a b c d rose none = λ is. cc is
no-read ReadFault a b c d rose none = λ is. none rose.0
no-read WriteFault a b c d rose none = λ is. cc is
no-read Broken a b c d rose none = λ is. cc is

no-write : (ending : Ending) (a b c d : ℕ) → RoseFor ending a b c d → ¬ (Rose c d) → ending ≢ WriteFault
no-write Closed a b c d rose none = λ is. cc is
no-write Gone a b c d rose none = λ is. cc is
no-write ReadFault a b c d rose none = λ is. cc is
no-write WriteFault a b c d rose none = λ is. none rose.0
no-write Broken a b c d rose none = λ is. cc is

no-break : (ending : Ending) (n : ℕ) → n + Rattle.dap_server.specs.Connections.breaks ending ≡ 0 → ending ≢ Broken
no-break Closed n is = λ e. cc e
no-break Gone n is = λ e. cc e
no-break ReadFault n is = λ e. cc e
no-break WriteFault n is = λ e. cc e
no-break Broken n is = absurd (omega (arith, is))

whole-taken : (files : Files) (taken more : List ℕ) (c : Connection) (served : Served) (ended : Bool) (a b d e f g : ℕ)
    → IsConnectionServed (Some files) taken ended c served → RoseBy (failures c served.ending) a b → RoseFor served.ending d e f g → (IsTrue ended → more ≡ [])
    → ¬ (Rose a b) → ¬ (Rose d e) → ¬ (Rose f g) → served.status ≢ 503 → AnswersAll (taken ++ more) files (put_from 1 c) served
whole-taken files taken more c served ended a b d e f g s rose causes at_end no_shelf no_take no_put calm =
    let count : failures c served.ending ≡ 0 = no-failures (failures c served.ending) a b rose no_shelf in
    elim (true_or_false (ends_after false 1 c.turns)) [
      | inl ends ↦
          let (closed, empty) = is-closed served.ending c.behind (match_true (ends_after false 1 c.turns) _ _ ends s.ends) in
          let few : served.replies ≡ length c.turns = s.counted ∙ ap (λ b. 0 + length c.turns + Rattle.dap_server.specs.Connections.whole_behind b) empty ∙ omega arith in
          let state : served.status ≡ last_status 0 c.turns = s.status ∙ ap (status_behind (last_status 0 c.turns)) empty in
          closed-whole files taken more c served s.turns (omega (arith, count)) ends empty (served-is served (length c.turns) (last_status 0 c.turns) Closed few state closed) calm
      | inr goes ↦
          let (has, behind) = ends-open files c.left more (0 + 1 + length c.turns) (length c.turns) (last_status 0 c.turns) ended served.ending c.behind served
          (match_false (ends_after false 1 c.turns) _ _ goes s.ends) at_end (no-read served.ending d e f g causes no_take) (no-write served.ending d e f g causes no_put)
          (no-break served.ending (failed_turns c.turns + Rattle.dap_server.specs.Connections.failed_behind c.behind) count)
          (served-is served _ _ _ (s.counted ∙ omega arith) s.status refl) calm in
          open-whole files taken more c served s.turns (omega (arith, count)) goes has behind
    ]

pub whole : (told : Told) (files : Files) (input : List ℕ) (l l' w w' : Option (List ℕ)) (served : Served) (ended : Bool) (a b d e f g : ℕ)
    → ((c : Connection) × (taken : List ℕ) × Consumes l l' taken × Appends w w' (put_from 1 c) × IsConnectionServed told taken ended c served × RoseBy (failures c served.ending) a b)
    → RoseFor served.ending d e f g → (IsTrue ended → IsAtEnd l') → told ≡ Some files → l ≡ Some input
    → ¬ (Rose a b) → ¬ (Rose d e) → ¬ (Rose f g) → served.status ≢ 503 → (gained : List ℕ) × Appends w w' gained × AnswersAll input files gained served
whole told files input l l' w w' served ended a b d e f g (c, taken, consumes, appends, s, rose) causes at_end is_told is_left no_shelf no_take no_put calm =
    let (more, is_more, all) = Rattle.dap_http.proofs.HeadReading.left-behind l l' input taken is_left consumes in (
      put_from 1 c,
      appends,
      subst (λ i. AnswersAll i files (put_from 1 c) served) (sym all)
          (whole-taken files taken more c served ended a b d e f g (subst (λ t. IsConnectionServed t taken ended c served) is_told s) rose causes
          (λ mark. subst IsAtEnd is_more (at_end mark)) no_shelf no_take no_put calm),
    )
