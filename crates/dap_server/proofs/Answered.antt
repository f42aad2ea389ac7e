-- The answer to a request, from what was put of it.
use Rattle.std.proofs.Common.{◌≡◌, ◌≢◌, ℕ, ◌+◌, ◌≤◌, Bool, false, true, not, List, MatchBool, Option, Some, None, IsTrue, Ok, Err, refl, sym, ap, ◌∙◌, subst, arith, inl, inr, ◌⊎◌}
use Rattle.dap_errors.specs.declared.cause.Cause.{Cause}
use Rattle.dap_errors.specs.declared.cause.Cause.TheVariants.{BadMethod, BadTarget, OutOfMemory, ReadFailed}
use Rattle.dap_http.specs.Requests.{is_other}
use Rattle.dap_http.specs.Targets.{Asked, target_of}
use Rattle.dap_http.specs.declared.kind.Kind.{Kind}
use Rattle.dap_http.specs.declared.kind.Kind.TheVariants.{Dods, Dds, Das, Ver}
use Rattle.dap_outside.specs.Causes.{Rose}
use Rattle.dap_outside.specs.Files.{Told}
use Rattle.dap_server.specs.Connections.{FailedBy, MayAnswer, MayAsk, has_failed}
use Rattle.dap_server.specs.Costs.{IsCost, IsFormCost, asks_shelf, most_first}
use Rattle.dap_server.specs.Files.{form_of, saved}
use Rattle.dap_server.specs.Prepared.{MayGive}
use Rattle.dap_server.specs.Replies.{Request, is_head, reply_of}
use Rattle.dap_server.specs.Results.{result_text}
use Rattle.dap_server.specs.declared.reply_outcome.Answered.{Answered}
use Rattle.dap_server.specs.declared.reply_outcome.Answered.TheVariants as answered
use Rattle.dap_server.specs.inner.Serving.{Answers, AnswersWith, Costs, PutsCause, PutsReply, PutsText, Stand, broken, data_front, is_open}
use Rattle.dap_server.proofs.Failing.{calm, failed-once, failed-open}
use Rattle.dap_server.proofs.Refusals.{refused-calm}
use Rattle.dap_server.proofs.Replying.{bad-method, bad-target, failed, gives, head-reply, memory-answer, not-broken, or-false, reply-known, reply-put}
use Rattle.dap_server.proofs.Requesting.{cause-asks, free-asks, nothing-asked, served-asks, stand, text-asks}

-- ---- one request

pub costs-less : (told : Told) (a : Asked) (most asked asked' : ℕ) → ((cost : ℕ) × IsCost told a cost × (most ≤ cost)) → asked' ≤ asked + most → (cost : ℕ) × IsCost told a cost × (asked' ≤ asked + cost)
costs-less told a most asked asked' (cost, is, le) few = (cost, is, omega (arith, le, few))

-- a text that stands whole does not break off
whole-only : (bytes : List ℕ) (status : ℕ) (last : Bool) (old new : Option (List ℕ)) (r : Answered) → PutsText bytes status last old new r → broken r ≡ 0
whole-only bytes status last old new (answered.Whole s l) p = refl
whole-only bytes status last old new answered.Broken p = absurd p
whole-only bytes status last old new answered.WriteFault p = refl

pub head-answer : (told : Told) (q : Request) (a : Asked) (front : List ℕ) (s z : Stand) (result : Answered) → is_head q ≡ true → front ≡ data_front q → is_other q.method ≡ false → target_of q.target ≡ Some a
    → PutsText front 200 q.ends s.written z.written result → ((text : List ℕ) × MayGive told a (Ok (result_text Dods text))) → z.faults ≡ s.faults
    → z.asked ≤ s.asked → AnswersWith (Costs told a q) told q s z result
head-answer told q a front s z result head is served target puts (text, may) same few =
    let put : PutsReply q (Ok (result_text Dods text)) s.written z.written result =
    reply-put q (Ok (result_text Dods text)) front 200 q.ends s.written z.written result (head-reply q text front head is) refl (or-false q.ends) puts in
    let none : broken result ≡ 0 = whole-only front 200 q.ends s.written z.written result puts in (
      Ok (result_text Dods text),
      gives told q a _ served target may,
      reply-known told q (Ok (result_text Dods text)) s.written z.written result put,
      calm _ _ s.faults z.faults (omega (arith, none)) same,
      (0, subst (λ (values : Bool). MatchBool values (IsCost told a 0) (◌≡◌ {A = ℕ} 0 0)) (sym (ap not head)) refl, omega (arith, few)),
    )

-- behind the first read of its file
pub with-first : (told told1 : Told) (q : Request) (a : Asked) (w : Option (List ℕ)) (f f1 s s1 : ℕ) (z : Stand) (result : Answered) → is_other q.method ≡ false → target_of q.target ≡ Some a → f1 ≡ f → s1 ≤ s + most_first told a.name → told1 ≡ told
    → AnswersWith (Costs told1 a q) told1 q (stand w f1 s1) z result → Answers told q (stand w f s) z result
with-first told told1 q a w f f1 s s1 z result served target calmly few same answers =
    let (answer, may, puts, failed, (cost, costs, asked)) = subst (λ t. AnswersWith (Costs t a q) t q (stand w f1 s1) z result) same answers in (
      answer,
      may,
      puts,
      subst (λ n. FailedBy (has_failed answer + broken result) (is_open q answer result) n z.faults) calmly failed,
      (most_first told a.name + cost, served-asks told q a answer cost served target costs, omega (arith, few, asked)),
    )

pub text-answer : (told : Told) (q : Request) (a : Asked) (kind : Kind) (text : List ℕ) (w w2 : Option (List ℕ)) (f f1 s s1 : ℕ) (result : Answered) → kind ≢ Dods → is_other q.method ≡ false → target_of q.target ≡ Some a
    → MayGive told a (Ok (result_text kind text)) → f1 ≡ f → s1 ≤ s + most_first told a.name
    → (PutsReply q (Ok (result_text kind text)) w w2 result ⊎ PutsReply q (Err OutOfMemory) w w2 result) → Answers told q (stand w f s) (stand w2 f1 s1) result
text-answer told q a kind text w w2 f f1 s s1 result other served target may same few (inl puts) =
    let none : broken result ≡ 0 = text-whole kind text w w2 result other puts in (
      Ok (result_text kind text),
      gives told q a _ served target may,
      reply-known told q (Ok (result_text kind text)) w w2 result puts,
      calm _ _ f f1 (omega (arith, none)) same,
      text-asks told q a kind text s s1 other served target few,
    )
  where
    text-whole : (k : Kind) (t : List ℕ) (old new : Option (List ℕ)) (r : Answered) → k ≢ Dods → PutsReply q (Ok (result_text k t)) old new r → broken r ≡ 0
    text-whole k t old new (answered.Whole status last) o p = refl
    text-whole k t old new answered.WriteFault o p = refl
    text-whole Dods t old new answered.Broken o p = absurd (o refl)
    text-whole Dds t old new answered.Broken o (part, is, appends) = cc is.values
    text-whole Das t old new answered.Broken o (part, is, appends) = cc is.values
    text-whole Ver t old new answered.Broken o (part, is, appends) = cc is.values
text-answer told q a kind text w w2 f f1 s s1 result other served target may same few (inr puts) =
    memory-answer (MayAsk told q) told q (stand w f s) (stand w2 f1 s1) result puts same (cause-asks told q a OutOfMemory s s1 served target few)

-- the data response for what is left of a saved one, for which nothing more is asked
saved-asks : (told : Told) (q : Request) (a : Asked) (text : List ℕ) (asked asked' : ℕ) → is_other q.method ≡ false → target_of q.target ≡ Some a → form_of a.name ≡ Some saved → asked' ≤ asked + most_first told a.name
    → (n : ℕ) × MayAsk told q (Ok (result_text Dods text)) n × (asked' ≤ asked + n)
saved-asks told q a text asked asked' served target form few =
    free-asks told q a (Ok (result_text Dods text)) asked asked' served target (subst (λ f. IsFormCost f told a.name a.query 0) (sym form) refl) few

pub saved-answer : (told : Told) (q : Request) (a : Asked) (text : List ℕ) (w w2 : Option (List ℕ)) (f f1 s s1 : ℕ) (result : Answered) → is_other q.method ≡ false → target_of q.target ≡ Some a → form_of a.name ≡ Some saved
    → MayGive told a (Ok (result_text Dods text)) → f1 ≡ f → s1 ≤ s + most_first told a.name
    → (PutsText (reply_of q (Ok (result_text Dods text))) 200 q.ends w w2 result ⊎ PutsReply q (Err OutOfMemory) w w2 result) → Answers told q (stand w f s) (stand w2 f1 s1) result
saved-answer told q a text w w2 f f1 s s1 result served target form may same few (inl puts) =
    let none : broken result ≡ 0 = whole-only (reply_of q (Ok (result_text Dods text))) 200 q.ends w w2 result puts in (
      Ok (result_text Dods text),
      gives told q a _ served target may,
      reply-known told q (Ok (result_text Dods text)) w w2 result (reply-put q (Ok (result_text Dods text)) _ 200 q.ends w w2 result refl refl (or-false q.ends) puts),
      calm _ _ f f1 (omega (arith, none)) same,
      saved-asks told q a text s s1 served target form few,
    )
saved-answer told q a text w w2 f f1 s s1 result served target form may same few (inr puts) =
    memory-answer (MayAsk told q) told q (stand w f s) (stand w2 f1 s1) result puts same (cause-asks told q a OutOfMemory s s1 served target few)

cause-put : (told : Told) (q : Request) (cause : Cause) (w w2 : Option (List ℕ)) (f f1 s s1 : ℕ) (result : Answered) → MayAnswer told q (Err cause)
    → ((n : ℕ) → n ≡ has_failed (Err cause) → FailedBy n (is_open q (Err cause) result) f f1)
    → ((k : Cause) → (n : ℕ) × MayAsk told q (Err k) n × (s1 ≤ s + n)) → PutsReply q (Err cause) w w2 result → Answers told q (stand w f s) (stand w2 f1 s1) result
cause-put told q cause w w2 f f1 s s1 result may failed asks puts =
    let none : broken result ≡ 0 = not-broken q cause w w2 result puts in
    (Err cause, may, reply-known told q (Err cause) w w2 result puts, failed (has_failed (Err cause) + broken result) (omega (arith, none)), asks cause)

-- a cause, or a want of memory in its place
pub cause-answer : (told : Told) (q : Request) (cause : Cause) (w w2 : Option (List ℕ)) (f f1 s s1 : ℕ) (result : Answered) → MayAnswer told q (Err cause) → has_failed (Err cause) ≡ 0 → f1 ≡ f
    → ((k : Cause) → (n : ℕ) × MayAsk told q (Err k) n × (s1 ≤ s + n)) → PutsCause q cause w w2 result → Answers told q (stand w f s) (stand w2 f1 s1) result
cause-answer told q cause w w2 f f1 s s1 result may none same asks (final, inl is, puts) =
    cause-put told q cause w w2 f f1 s s1 result may (λ n e. calm n _ f f1 (e ∙ none) same) asks (subst (λ k. PutsReply q (Err k) w w2 result) is puts)
cause-answer told q cause w w2 f f1 s s1 result may none same asks (final, inr is, puts) =
    cause-put told q OutOfMemory w w2 f f1 s s1 result (inr (inr refl)) (λ n e. calm n _ f f1 e same) asks (subst (λ k. PutsReply q (Err k) w w2 result) is puts)

pub refused-answer : (told : Told) (q : Request) (a : Asked) (cause : Cause) (w w2 : Option (List ℕ)) (f f1 s s1 : ℕ) (result : Answered) → is_other q.method ≡ false → target_of q.target ≡ Some a
    → MayGive told a (Err cause) → f1 ≡ f → s1 ≤ s + most_first told a.name → PutsCause q cause w w2 result → Answers told q (stand w f s) (stand w2 f1 s1) result
refused-answer told q a cause w w2 f f1 s s1 result served target (files, has, answers) same few puts =
    cause-answer told q cause w w2 f f1 s s1 result (gives told q a _ served target (files, has, answers)) (refused-calm told files a cause answers) same
    (λ k. cause-asks told q a k s s1 served target few) puts

-- a failed read, or a want of memory in its place
pub failed-answer : (told : Told) (q : Request) (a : Asked) (w w2 : Option (List ℕ)) (f f1 s s1 : ℕ) (result : Answered) → is_other q.method ≡ false → target_of q.target ≡ Some a
    → (IsTrue (asks_shelf a) × Rose f f1) → f ≤ f1 → s1 ≤ s + most_first told a.name → PutsCause q ReadFailed w w2 result → Answers told q (stand w f s) (stand w2 f1 s1) result
failed-answer told q a w w2 f f1 s s1 result served target (asks, rose) later few (final, inl is, puts) =
    cause-put told q ReadFailed w w2 f f1 s s1 result (failed told q a served target asks) (λ n e. failed-once n _ f f1 e rose)
    (λ k. cause-asks told q a k s s1 served target few) (subst (λ k. PutsReply q (Err k) w w2 result) is puts)
failed-answer told q a w w2 f f1 s s1 result served target (asks, rose) later few (final, inr is, puts) =
    let put : PutsReply q (Err OutOfMemory) w w2 result = subst (λ k. PutsReply q (Err k) w w2 result) is puts in
    cause-put told q OutOfMemory w w2 f f1 s s1 result (inr (inr refl)) (λ n e. failed-open n _ f f1 e (unsaid q w w2 result put) later)
    (λ k. cause-asks told q a k s s1 served target few) put
  where
    unsaid : (q : Request) (old new : Option (List ℕ)) (r : Answered) → PutsReply q (Err OutOfMemory) old new r → is_open q (Err OutOfMemory) r ≡ true
    unsaid q old new (answered.Whole status last) p = refl
    unsaid q old new answered.WriteFault p = refl
    unsaid q old new answered.Broken (part, broke, appends) = cc broke.values

pub wanted-answer : (told : Told) (q : Request) (a : Asked) (w w2 : Option (List ℕ)) (f f1 s s1 : ℕ) (result : Answered) → is_other q.method ≡ false → target_of q.target ≡ Some a → f1 ≡ f → s1 ≤ s + most_first told a.name
    → PutsReply q (Err OutOfMemory) w w2 result → Answers told q (stand w f s) (stand w2 f1 s1) result
wanted-answer told q a w w2 f f1 s s1 result served target same few puts =
    memory-answer (MayAsk told q) told q (stand w f s) (stand w2 f1 s1) result puts same (cause-asks told q a OutOfMemory s s1 served target few)

-- without a file
pub method-answer : (told : Told) (q : Request) (w w2 : Option (List ℕ)) (f s : ℕ) (result : Answered) → is_other q.method ≡ true → PutsCause q BadMethod w w2 result → Answers told q (stand w f s) (stand w2 f s) result
method-answer told q w w2 f s result other puts =
    cause-answer told q BadMethod w w2 f f s s result (bad-method told q other) refl refl (λ k. nothing-asked told q k s s (omega arith)) puts

pub target-answer : (told : Told) (q : Request) (w w2 : Option (List ℕ)) (f s : ℕ) (result : Answered) → is_other q.method ≡ false → target_of q.target ≡ None → PutsCause q BadTarget w w2 result → Answers told q (stand w f s) (stand w2 f s) result
target-answer told q w w2 f s result served none puts =
    cause-answer told q BadTarget w w2 f f s s result (bad-target told q served none) refl refl (λ k. nothing-asked told q k s s (omega arith)) puts

pub early-answer : (told : Told) (q : Request) (w w2 : Option (List ℕ)) (f s : ℕ) (result : Answered) → PutsReply q (Err OutOfMemory) w w2 result → Answers told q (stand w f s) (stand w2 f s) result
early-answer told q w w2 f s result puts =
    memory-answer (MayAsk told q) told q (stand w f s) (stand w2 f s) result puts refl (nothing-asked told q OutOfMemory s s (omega arith))
