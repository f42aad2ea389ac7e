-- How the bytes that are put are the reply of an answer.
use Rattle.std.proofs.Common.{◌≡◌, ◌≢◌, ℕ, ◌+◌, ◌<◌, ◌≤◌, Bool, false, true, ◌&&◌, ◌||◌, not, List, [], ◌++◌, length, Option, Some, None, IsSome, IsTrue, MatchBool, if◌then◌else◌, Result, Ok, Err, refl, sym, ap, ◌∙◌, subst, arith, append-nil, append_assoc, length-append, codes, inl, inr, ◌⊎◌}
use Rattle.std.proofs.lemmas.Bool.{true≢false}
use Rattle.std.specs.Io.KnownBytes.{Appends}
use Rattle.std.specs.Option.{option_map_or}
use Rattle.dap_server.proofs.Lying.{some_files}
use Rattle.plain_lemmas.proofs.Truths.{true_or_false}
use Rattle.dap_errors.specs.declared.cause.Cause.{Cause}
use Rattle.dap_errors.specs.declared.cause.Cause.TheVariants.{BadMethod, BadTarget, OutOfMemory, ReadFailed}
use Rattle.dap_http.proofs.Fronts.{chunked-some}
use Rattle.dap_http.specs.Frames.{framed}
use Rattle.dap_http.specs.Requests.{is_other}
use Rattle.dap_http.specs.Targets.{Asked, target_of}
use Rattle.dap_http.specs.Texts.{allow_line, close_line, description_lines, description_of, head_text, is_chunked, length_line, memory_error, memory_text, server_lines, status_line}
use Rattle.dap_http.specs.declared.kind.Kind.{Kind}
use Rattle.dap_http.specs.declared.kind.Kind.TheVariants.{Dds, Das, Dods, Ver}
use Rattle.dap_outside.specs.Files.{Told}
use Rattle.dap_server.specs.Connections.{FailedBy, LooksForFile, MayAnswer, has_failed, is_hidden, is_read_late, sends_values}
use Rattle.dap_server.specs.Costs.{IsCost, asks_shelf}
use Rattle.dap_server.specs.Files.{form_of, is_read_first}
use Rattle.dap_server.specs.Prepared.{IsOver, MayGive}
use Rattle.dap_server.specs.Replies.{Request, error_head, head_of, is_head, is_last, reply_of, reply_status}
use Rattle.dap_server.specs.Results.{ResultsAmong, Text, error_object, result_text}
use Rattle.dap_server.specs.Steps.{found_or}
use Rattle.dap_server.specs.declared.reply_outcome.Answered.{Answered}
use Rattle.dap_server.specs.declared.reply_outcome.Answered.TheVariants as answered
use Rattle.dap_server.specs.inner.Serving.{AnswersWith, Costs, IsPutOf, PutsKnown, PutsReply, PutsText, PutsValues, SaysWhole, ShelfRose, Stand, broken, data_front, is_open}
use Rattle.dap_server.proofs.Choices.{where_true, where_false}
use Rattle.dap_server.proofs.DataText.{data-some}
use Rattle.dap_server.proofs.Failing.{calm, failed-once}

-- ---- texts that stand whole

pub reply-put : (q : Request) (answer : Result Text Cause) (bytes : List ℕ) (status : ℕ) (last : Bool) (old new : Option (List ℕ)) (result : Answered)
    → bytes ≡ reply_of q answer → status ≡ reply_status answer → last ≡ is_last q answer → PutsText bytes status last old new result → PutsReply q answer old new result
reply-put q answer bytes status last old new (answered.Whole s l) is st la (ps, pl, appends) = (ps ∙ st, pl ∙ la, subst (Appends old new) is appends)
reply-put q answer bytes status last old new answered.Broken is st la p = absurd p
reply-put q answer bytes status last old new answered.WriteFault is st la (part, (rest, more, whole), appends) = (part, (rest, more, sym is ∙ whole), appends)

-- the same bytes under another name
pub text-put : (bytes other : List ℕ) (status : ℕ) (last : Bool) (old new : Option (List ℕ)) (result : Answered) → bytes ≡ other → PutsText bytes status last old new result → PutsText other status last old new result
text-put bytes other status last old new result is puts = subst (λ t. PutsText t status last old new result) is puts

pub or-false : (b : Bool) → b ≡ (b || false)
or-false true = refl
or-false false = refl

or-true : (b : Bool) → true ≡ (b || true)
or-true true = refl
or-true false = refl

pub memory-reply : (q : Request) (h : Bool) → h ≡ is_head q → memory_text h ≡ reply_of q (Err OutOfMemory)
unfolding memory_text memory_error
memory-reply q h is = rw (sym (or-true q.ends), sym is) refl

pub memory-last : (q : Request) → true ≡ is_last q (Err OutOfMemory)
memory-last q = or-true q.ends

pub cause-reply : (q : Request) (cause : Cause) (last h : Bool) (bytes : List ℕ) → last ≡ is_last q (Err cause) → h ≡ is_head q
    → bytes ≡ error_head last cause ++ (if h then [] else error_object cause) → bytes ≡ reply_of q (Err cause)
cause-reply q cause last h bytes la is e =
    e ∙ ap (λ b. error_head b cause ++ (if h then [] else error_object cause)) la ∙ ap (λ b. error_head (is_last q (Err cause)) cause ++ (if b then [] else error_object cause)) is

pub text-reply : (q : Request) (kind : Kind) (text : List ℕ) (h : Bool) (bytes : List ℕ) → kind ≢ Dods → h ≡ is_head q
    → bytes ≡ head_text 200 (description_of kind) (Some (length text)) false q.ends ++ (if h then [] else text) → bytes ≡ reply_of q (Ok (result_text kind text))
text-reply q Dds text h bytes other is e = e ∙ ap (λ b. head_text 200 (description_of Dds) (Some (length text)) false q.ends ++ (if b then [] else text)) is
    ∙ ap (λ b. head_text 200 (description_of Dds) (Some (length text)) false b ++ (if is_head q then [] else text)) (or-false q.ends)
text-reply q Das text h bytes other is e = e ∙ ap (λ b. head_text 200 (description_of Das) (Some (length text)) false q.ends ++ (if b then [] else text)) is
    ∙ ap (λ b. head_text 200 (description_of Das) (Some (length text)) false b ++ (if is_head q then [] else text)) (or-false q.ends)
text-reply q Ver text h bytes other is e = e ∙ ap (λ b. head_text 200 (description_of Ver) (Some (length text)) false q.ends ++ (if b then [] else text)) is
    ∙ ap (λ b. head_text 200 (description_of Ver) (Some (length text)) false b ++ (if is_head q then [] else text)) (or-false q.ends)
text-reply q Dods text h bytes other is e = absurd (other refl)

-- ---- data

-- to HEAD
pub head-reply : (q : Request) (text front : List ℕ) → is_head q ≡ true → front ≡ data_front q → front ≡ reply_of q (Ok (result_text Dods text))
head-reply q text front is e =
    let t : List ℕ = head_of q (Ok (result_text Dods text)) in
    let same : data_front q ≡ t = ap (head_text 200 (description_of Dods) None (is_chunked Dods q.minor)) (or-false q.ends) in
    e ∙ same ∙ sym (append-nil t) ∙ ap (λ b. t ++ (if b then [] else framed (is_chunked Dods q.minor) text)) (sym is)

pub get-reply : (q : Request) (text front : List ℕ) → is_head q ≡ false → front ≡ data_front q → reply_of q (Ok (result_text Dods text)) ≡ front ++ framed (is_chunked Dods q.minor) text
get-reply q text front is e =
    let t : List ℕ = head_of q (Ok (result_text Dods text)) in
    let same : data_front q ≡ t = ap (head_text 200 (description_of Dods) None (is_chunked Dods q.minor)) (or-false q.ends) in
    ap (λ b. t ++ (if b then [] else framed (is_chunked Dods q.minor) text)) is ∙ ap (λ f. f ++ framed (is_chunked Dods q.minor) text) (sym (e ∙ same))

values-out : (q : Request) (text : List ℕ) → is_head q ≡ false → sends_values q (Ok (result_text Dods text)) ≡ true
values-out q text is = ap not is

-- their cost
pub values-cost : (told : Told) (q : Request) (a : Asked) (text : List ℕ) (asked asked' : ℕ) → is_head q ≡ false → ((cost : ℕ) × IsCost told a cost × (asked' ≤ asked + cost))
    → (cost : ℕ) × Costs told a q (Ok (result_text Dods text)) cost × (asked' ≤ asked + cost)
values-cost told q a text asked asked' get (cost, is, few) = (cost, subst (λ (values : Bool). MatchBool values (IsCost told a cost) (cost ≡ 0)) (sym (values-out q text get)) is, few)

pub values-reply : (q : Request) (text front : List ℕ) (old new : Option (List ℕ)) (result : Answered) → is_head q ≡ false → front ≡ data_front q
    → PutsValues front (framed (is_chunked Dods q.minor) text) q.ends old new result → SaysWhole q.ends result → PutsReply q (Ok (result_text Dods text)) old new result
values-reply q text front old new (answered.Whole status last) get is appends (s, l) =
    (s, l ∙ or-false q.ends, subst (Appends old new) (sym (get-reply q text front get is)) appends)
values-reply q text front old new answered.Broken get is (part, (rest, some, e), appends) says =
    let same : data_front q ≡ head_of q (Ok (result_text Dods text)) = ap (head_text 200 (description_of Dods) None (is_chunked Dods q.minor)) (or-false q.ends) in (
      front ++ part,
      record {
        values = values-out q text get;
        head_is_out = (part, ap (λ f. f ++ part) (is ∙ same));
        breaks_off = (rest, some, get-reply q text front get is ∙ ap (λ t. front ++ t) e ∙ sym (append_assoc front part rest));
      },
      appends,
    )
values-reply q text front old new answered.WriteFault get is (part, (rest, some, e), appends) says =
    (part, (rest, some, get-reply q text front get is ∙ e), appends)

-- what ends with some bytes has some
longer : (xs ys : List ℕ) → 0 < length ys → 0 < length (xs ++ ys)
longer xs ys some = omega (arith, some, length-append xs ys)

head-some : (status : ℕ) (description : List ℕ) (len : Option ℕ) (in_chunks close : Bool) → 0 < length (head_text status description len in_chunks close)
unfolding head_text
head-some status description len in_chunks close =
    longer (status_line status ++ server_lines ++ allow_line status ++ description_lines description ++ length_line len in_chunks ++ close_line close) (codes "\r\n") (omega arith)

framed-some : (in_chunks : Bool) (text : List ℕ) → 0 < length text → 0 < length (framed in_chunks text)
framed-some true text some = chunked-some text
framed-some false text some = some

-- where its values are hidden
pub values-hidden : (told : Told) (q : Request) (text put : List ℕ) (result : Answered) → is_head q ≡ false → 0 < length text → is_hidden told q (Ok (result_text Dods text)) ≡ true
    → SaysWhole q.ends result → IsPutOf told q (Ok (result_text Dods text)) put result
values-hidden told q text put (answered.Whole status last) get some hidden (s, l) = (s, l ∙ or-false q.ends, λ e. absurd (true≢false (sym hidden ∙ e)))
values-hidden told q text put answered.Broken get some hidden says =
    let head : List ℕ = head_of q (Ok (result_text Dods text)) in
    let body : List ℕ = framed (is_chunked Dods q.minor) text in (
      head,
      record {
        values = values-out q text get;
        head_is_out = ([], sym (append-nil head));
        breaks_off = (body, framed-some (is_chunked Dods q.minor) text some, ap (λ b. head ++ (if b then [] else body)) get);
      },
      λ e. absurd (true≢false (sym hidden ∙ e)),
    )
values-hidden told q text put answered.WriteFault get some hidden says = (
  [],
  (
    reply_of q (Ok (result_text Dods text)),
    (let head = head-some 200 (description_of Dods) None (is_chunked Dods q.minor) (is_last q (Ok (result_text Dods text))) in
        omega (arith, head, length-append (head_of q (Ok (result_text Dods text))) (if is_head q then [] else framed (is_chunked Dods q.minor) text))),
    refl,
  ),
  λ e. absurd (true≢false (sym hidden ∙ e)),
)

-- ---- what a request may be answered

-- whatever the shelf tells
pub reply-known : (told : Told) (q : Request) (answer : Result Text Cause) (old new : Option (List ℕ)) (result : Answered) → PutsReply q answer old new result → PutsKnown told q answer old new result
reply-known told q answer old new (answered.Whole status last) (s, l, appends) = (reply_of q answer, appends, (s, l, λ _. refl))
reply-known told q answer old new answered.Broken (part, is, appends) = (part, appends, (part, is, λ _. refl))
reply-known told q answer old new answered.WriteFault (part, is, appends) = (part, appends, (part, is, λ _. refl))

pub gives : (told : Told) (q : Request) (a : Asked) (answer : Result Text Cause) → is_other q.method ≡ false → target_of q.target ≡ Some a → MayGive told a answer → MayAnswer told q answer
gives told q a answer served is (files, may, answers) =
    inl (files, may, where_false (is_other q.method) _ (ResultsAmong told q.target files answer) served (inl (a, sym (ap (λ o. found_or o BadTarget) is), answers)))

pub bad-method : (told : Told) (q : Request) → is_other q.method ≡ true → MayAnswer told q (Err BadMethod)
bad-method told q is = let (files, may) = some_files told in inl (files, may, where_true (is_other q.method) _ (ResultsAmong told q.target files (Err BadMethod)) is refl)

pub bad-target : (told : Told) (q : Request) → is_other q.method ≡ false → target_of q.target ≡ None → MayAnswer told q (Err BadTarget)
bad-target told q served is =
    let (files, may) = some_files told in
    inl (files, may, where_false (is_other q.method) _ (ResultsAmong told q.target files (Err BadTarget)) served (inr (BadTarget, sym (ap (λ o. found_or o BadTarget) is), refl)))

pub failed : (told : Told) (q : Request) (a : Asked) → is_other q.method ≡ false → target_of q.target ≡ Some a → IsTrue (asks_shelf a) → MayAnswer told q (Err ReadFailed)
failed told q a served is asks = inr (inl (refl, served, subst LooksForFile (sym is) asks))

-- ---- one request

pub failed-values : (q : Request) (text : List ℕ) (result : Answered) (f f1 : ℕ) → is_head q ≡ false → ShelfRose result f f1
    → FailedBy (has_failed (Ok (result_text Dods text)) + broken result) (is_open q (Ok (result_text Dods text)) result) f f1
failed-values q text (answered.Whole status last) f f1 get same = calm (0 + 0) false f f1 (omega arith) same
failed-values q text answered.Broken f f1 get rose = failed-once (0 + 1) false f f1 (omega arith) rose
failed-values q text answered.WriteFault f f1 get later = (omega (arith, later), λ _ sent. absurd (true≢false (sym (values-out q text get) ∙ sent)))

pub known-values : (told : Told) (q : Request) (a : Asked) (front text : List ℕ) (s z : Stand) (result : Answered)
    → is_head q ≡ false → front ≡ data_front q → is_other q.method ≡ false → target_of q.target ≡ Some a
    → PutsValues front (framed (is_chunked Dods q.minor) text) q.ends s.written z.written result → SaysWhole q.ends result → MayGive told a (Ok (result_text Dods text))
    → ShelfRose result s.faults z.faults → ((cost : ℕ) × IsCost told a cost × (z.asked ≤ s.asked + cost)) → AnswersWith (Costs told a q) told q s z result
known-values told q a front text s z result get is served target puts says may rose costs = (
  Ok (result_text Dods text),
  gives told q a (Ok (result_text Dods text)) served target may,
  reply-known told q (Ok (result_text Dods text)) s.written z.written result (values-reply q text front s.written z.written result get is puts says),
  failed-values q text result s.faults z.faults get rose,
  values-cost told q a text s.asked z.asked get costs,
)

pub late : (q : Request) (a : Asked) (text : List ℕ) → is_head q ≡ false → target_of q.target ≡ Some a → is_read_first (form_of a.name) ≡ false → is_hidden None q (Ok (result_text Dods text)) ≡ true
late q a text get target other =
    ap (λ b. b && is_read_late q.target) (values-out q text get)
    ∙ ap (λ o. option_map_or (λ (a : Asked). not (is_read_first (form_of a.name))) o false) target ∙ ap not other

-- the values of a data response, where its file's bytes are known or not
pub values-answer : (told : Told) (q : Request) (a : Asked) (front : List ℕ) (content : Option (List ℕ)) (Alone : Type 0) (text_over : List ℕ → List ℕ) (s z : Stand) (result : Answered)
    → is_head q ≡ false → front ≡ data_front q → is_other q.method ≡ false → target_of q.target ≡ Some a
    → ((bytes : List ℕ) → (content ≡ Some bytes) ⊎ Alone → PutsValues front (framed (is_chunked Dods q.minor) (text_over bytes)) q.ends s.written z.written result) → SaysWhole q.ends result
    → ((put : List ℕ) × Appends s.written z.written put)
    → ((bytes : List ℕ) → IsOver a.name content bytes → MayGive told a (Ok (result_text Dods (text_over bytes)))) → ((text : List ℕ) × MayGive told a (Ok (result_text Dods text)))
    → (IsTrue (is_read_first (form_of a.name)) → Alone) → (IsSome told → IsSome content) → ShelfRose result s.faults z.faults
    → ((cost : ℕ) × IsCost told a cost × (z.asked ≤ s.asked + cost)) → AnswersWith (Costs told a q) told q s z result
values-answer None q a front content Alone text_over s z result get is served target puts says (put, appends) over (text, may) alone tells rose costs =
    elim (true_or_false (is_read_first (form_of a.name))) [
      | inl first ↦ known-values None q a front (text_over []) s z result get is served target (puts [] (inr (alone first))) says (over [] (inr first)) rose costs
      | inr other ↦ (
        Ok (result_text Dods text),
        gives None q a (Ok (result_text Dods text)) served target may,
        (put, appends, values-hidden None q text put result get (data-some None a text may) (late q a text get target other) says),
        failed-values q text result s.faults z.faults get rose,
        values-cost None q a text s.asked z.asked get costs,
      )
    ]
values-answer (Some files) q a front (Some bytes) Alone text_over s z result get is served target puts says grows over accepted alone tells rose costs =
    known-values (Some files) q a front (text_over bytes) s z result get is served target (puts bytes (inl refl)) says (over bytes (inl refl)) rose costs
values-answer (Some files) q a front None Alone text_over s z result get is served target puts says grows over accepted alone tells rose costs = cc (tells refl)

pub not-broken : (q : Request) (cause : Cause) (old new : Option (List ℕ)) (result : Answered) → PutsReply q (Err cause) old new result → broken result ≡ 0
not-broken q cause old new (answered.Whole status last) p = refl
not-broken q cause old new answered.Broken (part, is, appends) = cc is.values
not-broken q cause old new answered.WriteFault p = refl

-- a want of memory, before anything was asked
pub memory-answer : (Asks : Result Text Cause → ℕ → Type 0) (told : Told) (q : Request) (s z : Stand) (result : Answered) → PutsReply q (Err OutOfMemory) s.written z.written result → z.faults ≡ s.faults
    → ((n : ℕ) × Asks (Err OutOfMemory) n × (z.asked ≤ s.asked + n)) → AnswersWith Asks told q s z result
memory-answer Asks told q s z result puts same asks =
    let none : broken result ≡ 0 = not-broken q OutOfMemory s.written z.written result puts in
    (Err OutOfMemory, inr (inr refl), reply-known told q (Err OutOfMemory) s.written z.written result puts, calm _ _ s.faults z.faults (omega (arith, none)) same, asks)
