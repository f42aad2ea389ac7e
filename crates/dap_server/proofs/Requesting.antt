-- What a reader of heads gives, and what is put for it, as one step of a connection.
use Rattle.std.proofs.Common.{◌≡◌, ◌≢◌, ℕ, ◌+◌, ◌≤◌, Bool, false, true, ◌||◌, ◌==◌, List, [], ◌++◌, Option, Some, None, IsTrue, MatchBool, codes, Result, Ok, Err, refl, sym, ap, ◌∙◌, subst, arith, inl, inr, ◌⊎◌}
use Rattle.std.specs.Str.{bytes_eq}
use Rattle.std.specs.Io.KnownBytes.{Appends, Consumes}
use Rattle.std.proofs.KnownBytes.{Appends-nil}
use Rattle.httparse.specs.Grammar.{RequestHead}
use Rattle.dap_errors.specs.declared.cause.Cause.{Cause}
use Rattle.dap_errors.specs.declared.cause.Cause.TheVariants.{BadRequest, HeadTooLong, OutOfMemory}
use Rattle.dap_http.specs.Reading.{IsHead}
use Rattle.dap_http.specs.Requests.{FirstRequest, HasNoRequest, IsBadRequest, IsGone, IsTooLong, is_other}
use Rattle.dap_http.specs.Targets.{Asked, target_of}
use Rattle.dap_http.specs.Texts.{memory_error, memory_text}
use Rattle.dap_http.specs.declared.head_reader.Head.{Head}
use Rattle.dap_http.specs.declared.kind.Kind.{Kind}
use Rattle.dap_http.specs.declared.kind.Kind.TheVariants.{Dds, Das, Dods, Ver}
use Rattle.dap_outside.specs.Files.{Told}
use Rattle.dap_server.specs.Connections.{IsPutBehind, MayAsk, MayAskFor, nothing, sends_values}
use Rattle.dap_server.specs.Costs.{IsCost, most_first}
use Rattle.dap_server.specs.Replies.{Request, last_reply, reply_of, request}
use Rattle.dap_server.specs.Results.{Text, result_text}
use Rattle.dap_server.specs.declared.served.Ending.TheVariants.{Gone, ReadFault}
use Rattle.dap_server.specs.declared.served.Served.{Served}
use Rattle.dap_server.specs.declared.reply_outcome.Answered.{Answered}
use Rattle.dap_server.specs.declared.reply_outcome.Answered.TheVariants as answered
use Rattle.dap_server.specs.declared.reply_outcome.Next.{Next}
use Rattle.dap_server.specs.inner.Serving.{Answers, Costs, PutsLast, PutsRefusal, Serves, ServesFrom, Stand, next_of, request_in}
use Rattle.dap_server.proofs.Ends.{answered-head, one-turn, refuses, stopped}
use Rattle.dap_server.proofs.Failing.{calm}
use Rattle.dap_server.proofs.Replying.{memory-last, memory-reply}

abbrev pub stand : Option (List ℕ) → ℕ → ℕ → Stand
stand written faults asked = record { written = written; faults = faults; asked = asked }

-- ---- what may be asked

-- for a cause
least-asked : (told : Told) (q : Request) (cause : Cause) → (n : ℕ) × MayAsk told q (Err cause) n
least-asked told q cause = by (is_other q.method) (target_of q.target)
  where
    by : (other : Bool) (o : Option Asked) → (n : ℕ) × MatchBool other (n ≡ 0) (MayAskFor told o false n)
    by true o = (0, refl)
    by false None = (0, refl)
    by false (Some a) = (most_first told a.name + 0, (0, refl, refl))

-- by a method that is served
pub served-asks : (told : Told) (q : Request) (a : Asked) (answer : Result Text Cause) (cost : ℕ) → is_other q.method ≡ false → target_of q.target ≡ Some a → Costs told a q answer cost
    → MayAsk told q answer (most_first told a.name + cost)
served-asks told q a answer cost served target costs =
    let n : ℕ = most_first told a.name + cost in
    subst (λ (other : Bool). MatchBool other (n ≡ 0) (MayAskFor told (target_of q.target) (sends_values q answer) n)) (sym served)
    (subst (λ (o : Option Asked). MayAskFor told o (sends_values q answer) n) (sym target) (cost, costs, refl))

-- where no values go out
first-asks : (told : Told) (q : Request) (a : Asked) (answer : Result Text Cause) (asked asked' : ℕ) → is_other q.method ≡ false → target_of q.target ≡ Some a → Costs told a q answer 0 → asked' ≤ asked + most_first told a.name
    → (n : ℕ) × MayAsk told q answer n × (asked' ≤ asked + n)
first-asks told q a answer asked asked' served target costs few = (most_first told a.name + 0, served-asks told q a answer 0 served target costs, omega (arith, few))

pub cause-asks : (told : Told) (q : Request) (a : Asked) (cause : Cause) (asked asked' : ℕ) → is_other q.method ≡ false → target_of q.target ≡ Some a → asked' ≤ asked + most_first told a.name
    → (n : ℕ) × MayAsk told q (Err cause) n × (asked' ≤ asked + n)
cause-asks told q a cause asked asked' served target few = first-asks told q a (Err cause) asked asked' served target refl few

pub nothing-asked : (told : Told) (q : Request) (cause : Cause) (asked asked' : ℕ) → asked' ≤ asked → (n : ℕ) × MayAsk told q (Err cause) n × (asked' ≤ asked + n)
nothing-asked told q cause asked asked' few = let (n, may) = least-asked told q cause in (n, may, omega (arith, few))

pub text-asks : (told : Told) (q : Request) (a : Asked) (kind : Kind) (text : List ℕ) (asked asked' : ℕ) → kind ≢ Dods → is_other q.method ≡ false → target_of q.target ≡ Some a → asked' ≤ asked + most_first told a.name
    → (n : ℕ) × MayAsk told q (Ok (result_text kind text)) n × (asked' ≤ asked + n)
text-asks told q a Dds text asked asked' other served target few = first-asks told q a (Ok (result_text Dds text)) asked asked' served target refl few
text-asks told q a Das text asked asked' other served target few = first-asks told q a (Ok (result_text Das text)) asked asked' served target refl few
text-asks told q a Ver text asked asked' other served target few = first-asks told q a (Ok (result_text Ver text)) asked asked' served target refl few
text-asks told q a Dods text asked asked' other served target few = absurd (other refl)

-- a data response whose values cost nothing, whether they go out or not
pub free-asks : (told : Told) (q : Request) (a : Asked) (answer : Result Text Cause) (asked asked' : ℕ) → is_other q.method ≡ false → target_of q.target ≡ Some a → IsCost told a 0 → asked' ≤ asked + most_first told a.name
    → (n : ℕ) × MayAsk told q answer n × (asked' ≤ asked + n)
free-asks told q a answer asked asked' served target free few = first-asks told q a answer asked asked' served target (by (sends_values q answer)) few
  where
    by : (values : Bool) → MatchBool values (IsCost told a 0) (◌≡◌ {A = ℕ} 0 0)
    by true = free
    by false = refl

-- ---- steps

pub serve-head : (n before : ℕ) (told : Told) (kept kept' taken : List ℕ) (l l1 l2 w w1 w2 : Option (List ℕ)) (f f2 s s2 : ℕ) (ended : Bool) (h : Head) (ends : Bool) (result : Answered) (r : Next)
    → r ≡ next_of n before result → ((tree : RequestHead) × FirstRequest (kept ++ taken) tree kept' × IsHead h tree) → Consumes l l1 taken → l2 ≡ l1 → w1 ≡ w → ends ≡ (h.ends || (n + 1 == 1000))
    → Answers told (request_in h ends) (stand w1 f s) (stand w2 f2 s2) result → Serves n before told kept kept' l l2 (stand w f s) (stand w2 f2 s2) ended r
serve-head n before told kept kept' taken l l1 l2 w w1 w2 f f2 s s2 ended h ends result r is gives consumes sl sw e answers =
    subst (Serves n before told kept kept' l l2 (stand w f s) (stand w2 f2 s2) ended) (sym is) (answered-head n before told kept kept' taken l l2 (stand w f s) (stand w2 f2 s2) ended h ends result gives (subst (λ o. Consumes l o taken) (sym sl) consumes) e
    (subst (λ o. Answers told (request_in h ends) (stand o f s) (stand w2 f2 s2) result) sw answers))

still : (told : Told) (n : ℕ) (w w1 : Option (List ℕ)) → w1 ≡ w → (put : List ℕ) × Appends w w1 put × IsPutBehind told n nothing put
still told n w w1 is = ([], subst (λ o. Appends w o []) (sym is) (Appends-nil w), refl)

pub serve-gone : (n before : ℕ) (told : Told) (kept taken : List ℕ) (l l1 w w1 : Option (List ℕ)) (f s : ℕ) (ended : Bool)
    → Consumes l l1 taken → w1 ≡ w → IsTrue ended → IsGone (kept ++ taken) → ServesFrom n before told kept l l1 (stand w f s) (stand w1 f s) ended (record { replies = n; status = before; ending = Gone })
serve-gone n before told kept taken l l1 w w1 f s ended consumes sw mark gone =
    stopped n before told kept taken l l1 (stand w f s) (stand w1 f s) ended Gone nothing _ consumes (still told (n + 1) w w1 sw) (mark, gone)
    (ap (λ k. record { replies = k; status = before; ending = Gone }) (omega arith)) (calm (0 + 0) _ f f refl refl) (0, refl, omega arith)

pub serve-fault : (n before : ℕ) (told : Told) (kept taken : List ℕ) (l l1 w w1 : Option (List ℕ)) (f s : ℕ) (ended : Bool)
    → Consumes l l1 taken → w1 ≡ w → HasNoRequest (kept ++ taken) → ServesFrom n before told kept l l1 (stand w f s) (stand w1 f s) ended (record { replies = n; status = before; ending = ReadFault })
serve-fault n before told kept taken l l1 w w1 f s ended consumes sw none =
    stopped n before told kept taken l l1 (stand w f s) (stand w1 f s) ended ReadFault nothing _ consumes (still told (n + 1) w w1 sw) none
    (ap (λ k. record { replies = k; status = before; ending = ReadFault }) (omega arith)) (calm (0 + 0) _ f f refl refl) (0, refl, omega arith)

-- ---- replies that end a connection

pub last-put : (bytes bytes' : List ℕ) (status status' n before : ℕ) (old new : Option (List ℕ)) (served : Served) → bytes ≡ bytes' → status ≡ status'
    → PutsLast bytes status n before old new served → PutsLast bytes' status' n before old new served
last-put bytes bytes' status status' n before old new served b s puts =
    subst (λ t. PutsLast bytes' t n before old new served) s (subst (λ t. PutsLast t status n before old new served) b puts)

pub no-memory : memory_text false ≡ last_reply OutOfMemory
unfolding memory_text memory_error
no-memory = refl

pub memory-turn : (n before : ℕ) (told : Told) (kept rest taken : List ℕ) (l l1 l2 w w1 w2 : Option (List ℕ)) (f s : ℕ) (ended : Bool) (tree : RequestHead) (h : Bool) (bytes : List ℕ) (served : Served)
    → FirstRequest (kept ++ taken) tree rest → h ≡ bytes_eq tree.method (codes "HEAD") → Consumes l l1 taken → l2 ≡ l1 → w1 ≡ w → bytes ≡ memory_text h
    → PutsLast bytes 503 n before w1 w2 served → ServesFrom n before told kept l l2 (stand w f s) (stand w2 f s) ended served
memory-turn n before told kept rest taken l l1 l2 w w1 w2 f s ended tree h bytes served first is consumes sl sw e (inl (so, appends)) =
    let q : Request = request (n + 1) tree in
    let text : bytes ≡ reply_of q (Err OutOfMemory) = e ∙ memory-reply q h is in
    let (m, may) = least-asked told q OutOfMemory in
    let put : Appends w w2 (reply_of q (Err OutOfMemory)) = subst (λ o. Appends o w2 (reply_of q (Err OutOfMemory))) sw (subst (Appends w1 w2) text appends) in
    subst (ServesFrom n before told kept l l2 (stand w f s) (stand w2 f s) ended) (sym so)
    (one-turn n before told kept rest taken l l2 (stand w f s) (stand w2 f s) ended tree (answered.Whole 503 true) (subst (λ o. Consumes l o taken) (sym sl) consumes) first
    (Err OutOfMemory, inr (inr refl), (reply_of q (Err OutOfMemory), put, (refl, memory-last q, λ _. refl)), calm (0 + 0) _ f f refl refl, (m, may, omega arith)))
memory-turn n before told kept rest taken l l1 l2 w w1 w2 f s ended tree h bytes served first is consumes sl sw e (inr (so, (part, (more, some, cut), appends))) =
    let q : Request = request (n + 1) tree in
    let text : bytes ≡ reply_of q (Err OutOfMemory) = e ∙ memory-reply q h is in
    let (m, may) = least-asked told q OutOfMemory in
    let put : Appends w w2 part = subst (λ o. Appends o w2 part) sw appends in
    subst (ServesFrom n before told kept l l2 (stand w f s) (stand w2 f s) ended) (sym so)
    (one-turn n before told kept rest taken l l2 (stand w f s) (stand w2 f s) ended tree answered.WriteFault (subst (λ o. Consumes l o taken) (sym sl) consumes) first
    (Err OutOfMemory, inr (inr refl), (part, put, (part, (more, some, sym text ∙ cut), λ _. refl)), calm (0 + 0) _ f f refl refl, (m, may, omega arith)))

-- bytes that are no request
pub serve-refused : (n before : ℕ) (told : Told) (kept taken : List ℕ) (l l1 l2 w w1 w2 : Option (List ℕ)) (f s : ℕ) (ended : Bool) (cause : Cause) (served : Served)
    → ((cause ≡ BadRequest) × IsBadRequest (kept ++ taken)) ⊎ ((cause ≡ HeadTooLong) × IsTooLong (kept ++ taken)) → Consumes l l1 taken → l2 ≡ l1 → w1 ≡ w
    → PutsRefusal cause n before w1 w2 served → ServesFrom n before told kept l l2 (stand w f s) (stand w2 f s) ended served
serve-refused n before told kept taken l l1 l2 w w1 w2 f s ended cause served why consumes sl sw puts =
    refuses n before told kept taken l l2 (stand w f s) (stand w2 f s) ended cause served (subst (λ o. Consumes l o taken) (sym sl) consumes) why
    (subst (λ o. PutsRefusal cause n before o w2 served) sw puts) refl (omega arith)
