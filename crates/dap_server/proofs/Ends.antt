-- How the answer to one request, or what comes in place of a request, goes on or ends a connection.
use Rattle.std.proofs.Common.{◌≡◌, ℕ, ◌+◌, ◌≤◌, Bool, false, true, ◌||◌, ◌==◌, List, [], ◌∷◌, ◌++◌, Option, refl, sym, ap, ◌∙◌, subst, arith, append-nil, inl, inr, ◌⊎◌}
use Rattle.std.specs.Io.KnownBytes.{Appends, Consumes}
use Rattle.httparse.specs.Grammar.{RequestHead}
use Rattle.dap_errors.specs.Causes.{http_status}
use Rattle.dap_errors.specs.declared.cause.Cause.{Cause}
use Rattle.dap_errors.specs.declared.cause.Cause.TheVariants.{BadRequest, HeadTooLong}
use Rattle.dap_http.specs.Reading.{IsHead}
use Rattle.dap_http.specs.Requests.{FirstRequest, HasNoRequest, IsBadRequest, IsTooLong}
use Rattle.dap_http.specs.declared.head_reader.Head.{Head}
use Rattle.dap_outside.specs.Files.{Told}
use Rattle.dap_server.specs.Connections.{Behind, FailedBy, IsPutBehind, MayRefuse, Stops, has_failed, leaves_open, nothing, part_of_refusal, part_of_reply, refusal}
use Rattle.dap_server.specs.Replies.{Request, Turn, is_last, last_reply, request, wants}
use Rattle.dap_server.specs.declared.served.Ending.{Ending}
use Rattle.dap_server.specs.declared.served.Ending.TheVariants.{Closed, WriteFault, Broken}
use Rattle.dap_server.specs.declared.served.Served.{Served}
use Rattle.dap_server.specs.declared.reply_outcome.Answered.{Answered}
use Rattle.dap_server.specs.declared.reply_outcome.Answered.TheVariants as answered
use Rattle.dap_server.specs.inner.Serving.{Answers, PutsLast, PutsRefusal, Serves, ServesFrom, Stand, next_of, request_in}
use Rattle.dap_server.proofs.Choices.{where_true}
use Rattle.dap_server.proofs.Failing.{calm, failed-as, failed-said}

abbrev made : List ℕ → List ℕ → ℕ → Bool → Request
made method target minor ends = record { method = method; target = target; minor = minor; ends = ends }

pub same-request : (n : ℕ) (h : Head) (tree : RequestHead) (ends : Bool) → IsHead h tree → ends ≡ (h.ends || (n + 1 == 1000)) → request_in h ends ≡ request (n + 1) tree
same-request n h tree ends is e =
    ap (λ m. made m h.target h.minor ends) is.method
    ∙ ap (λ t. made tree.method t h.minor ends) is.target
    ∙ ap (λ k. made tree.method tree.target k ends) is.minor
    ∙ ap (λ b. made tree.method tree.target tree.minor b) (e ∙ ap (λ b. b || (n + 1 == 1000)) is.ends)

-- ---- nothing was answered

-- where that is all that comes behind n requests
pub stopped : (n before : ℕ) (told : Told) (kept taken : List ℕ) (l l' : Option (List ℕ)) (a b : Stand) (ended : Bool) (ending : Ending) (behind : Behind) (served : Served)
    → Consumes l l' taken → ((put : List ℕ) × Appends a.written b.written put × IsPutBehind told (n + 1) behind put)
    → Stops told (n + 1) (kept ++ taken) ended ending behind
    → served ≡ record { replies = n + Rattle.dap_server.specs.Connections.whole_behind behind; status = Rattle.dap_server.specs.Connections.status_behind before behind; ending = ending }
    → FailedBy (Rattle.dap_server.specs.Connections.failed_behind behind + Rattle.dap_server.specs.Connections.breaks ending) (leaves_open [] ending behind) a.faults b.faults
    → ((m : ℕ) × Rattle.dap_server.specs.Connections.BehindMayAsk told behind m × (b.asked ≤ a.asked + m))
    → ServesFrom n before told kept l l' a b ended served
stopped n before told kept taken l l' a b ended ending behind served consumes put stops is failed (m, asks, asked) =
    subst (ServesFrom n before told kept l l' a b ended) (sym is) (
      record { turns = []; left = kept ++ taken; behind = behind },
      taken,
      consumes,
      put,
      record {
        turns = refl;
        ends = subst (λ k. Stops told k (kept ++ taken) ended ending behind) (omega arith) stops;
        counted = omega arith;
        status = refl;
      },
      failed-as (Rattle.dap_server.specs.Connections.failed_behind behind + Rattle.dap_server.specs.Connections.breaks ending) _ _ a.faults b.faults (omega arith) failed,
      (m, (0, m, refl, asks, omega arith), asked),
    )

-- bytes that are no request
pub refused : (n before : ℕ) (told : Told) (kept taken : List ℕ) (l l' : Option (List ℕ)) (a b : Stand) (ended : Bool) (cause : Cause) (served : Served)
    → Consumes l l' taken → MayRefuse (kept ++ taken) cause → PutsLast (last_reply cause) (http_status cause) n before a.written b.written served
    → b.faults ≡ a.faults → b.asked ≤ a.asked → ServesFrom n before told kept l l' a b ended served
refused n before told kept taken l l' a b ended cause served consumes may (inl (is, appends)) same asked =
    stopped n before told kept taken l l' a b ended Closed (refusal cause) served consumes (last_reply cause, appends, refl) may is (calm (0 + 0) _ a.faults b.faults refl same) (0, refl, omega (arith, asked))
refused n before told kept taken l l' a b ended cause served consumes may (inr (is, (part, cut, appends))) same asked =
    stopped n before told kept taken l l' a b ended WriteFault (part_of_refusal cause part) served consumes (part, appends, refl) (may, cut)
    (is ∙ ap (λ k. record { replies = k; status = before; ending = WriteFault }) (omega arith)) (calm (0 + 0) _ a.faults b.faults refl same) (0, refl, omega (arith, asked))

pub no-bad : (bytes : List ℕ) → IsBadRequest bytes → HasNoRequest bytes
no-bad bytes bad = λ head rest first. bad.never [] head rest (rw (append-nil bytes) first.0)

pub refuses : (n before : ℕ) (told : Told) (kept taken : List ℕ) (l l' : Option (List ℕ)) (a b : Stand) (ended : Bool) (cause : Cause) (served : Served)
    → Consumes l l' taken → ((cause ≡ BadRequest) × IsBadRequest (kept ++ taken)) ⊎ ((cause ≡ HeadTooLong) × IsTooLong (kept ++ taken))
    → PutsRefusal cause n before a.written b.written served → b.faults ≡ a.faults → b.asked ≤ a.asked → ServesFrom n before told kept l l' a b ended served
refuses n before told kept taken l l' a b ended cause served consumes (inl (is, bad)) (final, inl same, puts) same_faults asked =
    refused n before told kept taken l l' a b ended final served consumes (inl (same ∙ is, bad)) puts same_faults asked
refuses n before told kept taken l l' a b ended cause served consumes (inl (is, bad)) (final, inr same, puts) same_faults asked =
    refused n before told kept taken l l' a b ended final served consumes (inr (inr (same, no-bad (kept ++ taken) bad))) puts same_faults asked
refuses n before told kept taken l l' a b ended cause served consumes (inr (is, long)) (final, inl same, puts) same_faults asked =
    refused n before told kept taken l l' a b ended final served consumes (inr (inl (same ∙ is, long))) puts same_faults asked
refuses n before told kept taken l l' a b ended cause served consumes (inr (is, long)) (final, inr same, puts) same_faults asked =
    refused n before told kept taken l l' a b ended final served consumes (inr (inr (same, long.none))) puts same_faults asked

-- ---- a request was answered

pub one-turn : (n before : ℕ) (told : Told) (kept kept' taken : List ℕ) (l l' : Option (List ℕ)) (a b : Stand) (ended : Bool) (tree : RequestHead) (result : Answered)
    → Consumes l l' taken → FirstRequest (kept ++ taken) tree kept' → Answers told (request (n + 1) tree) a b result
    → Serves n before told kept kept' l l' a b ended (next_of n before result)
one-turn n before told kept kept' taken l l' a b ended tree (answered.Whole status false) consumes first (answer, may, (put, appends, (is, last, known)), failed, (m, asks, asked)) =
    (record { head = tree; answer = answer }, taken, consumes, (put, appends, known), (first, may), sym last, is, failed-as (has_failed answer + 0) (has_failed answer) _ a.faults b.faults (omega arith) failed, (m, asks, asked))
one-turn n before told kept kept' taken l l' a b ended tree (answered.Whole status true) consumes first (answer, may, (put, appends, (is, last, known)), failed, (m, asks, asked)) =
    let t : Turn = record { head = tree; answer = answer } in (
      record { turns = t ∷ []; left = kept'; behind = nothing },
      taken,
      consumes,
      (put, appends, (put, [], sym (append-nil put), known, refl)),
      record {
        turns = (kept', (first, may), where_true (is_last (request (n + 1) tree) answer) _ _ (sym last) (refl, refl));
        ends = where_true (is_last (request (n + 1) tree) answer) _ _ (sym last) tt;
        counted = omega arith;
        status = is;
      },
      failed-said (has_failed answer + 0) (has_failed answer + 0 + 0 + 0) (wants answer) a.faults b.faults (omega arith) failed,
      (m, (m, 0, (m, 0, asks, refl, omega arith), refl, omega arith), asked),
    )
one-turn n before told kept kept' taken l l' a b ended tree answered.Broken consumes first (answer, may, (put, appends, (part, broken, known)), failed, asks) =
    stopped n before told kept taken l l' a b ended Broken (part_of_reply (record { head = tree; answer = answer }) part) (record { replies = n; status = before; ending = Broken })
    consumes (put, appends, known) ((kept', (first, may)), broken) (ap (λ k. record { replies = k; status = before; ending = Broken }) (omega arith)) failed asks
one-turn n before told kept kept' taken l l' a b ended tree answered.WriteFault consumes first (answer, may, (put, appends, (part, breaks, known)), failed, asks) =
    stopped n before told kept taken l l' a b ended WriteFault (part_of_reply (record { head = tree; answer = answer }) part) (record { replies = n; status = before; ending = WriteFault })
    consumes (put, appends, known) ((kept', (first, may)), breaks) (ap (λ k. record { replies = k; status = before; ending = WriteFault }) (omega arith)) failed asks

pub answered-head : (n before : ℕ) (told : Told) (kept kept' taken : List ℕ) (l l' : Option (List ℕ)) (a b : Stand) (ended : Bool) (h : Head) (ends : Bool) (result : Answered)
    → ((tree : RequestHead) × FirstRequest (kept ++ taken) tree kept' × IsHead h tree) → Consumes l l' taken → ends ≡ (h.ends || (n + 1 == 1000))
    → Answers told (request_in h ends) a b result → Serves n before told kept kept' l l' a b ended (next_of n before result)
answered-head n before told kept kept' taken l l' a b ended h ends result (tree, first, is) consumes e answers =
    one-turn n before told kept kept' taken l l' a b ended tree result consumes first
    (subst (λ (q : Request). Answers told q a b result) (same-request n h tree ends is e) answers)
