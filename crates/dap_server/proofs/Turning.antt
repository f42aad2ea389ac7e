-- Requests in turn: one that was answered, and those behind it.
use Rattle.std.proofs.Common.{◌≡◌, ℕ, ◌+◌, Bool, false, List, ◌∷◌, ◌++◌, length, Option, MatchBool, refl, sym, ap, subst, arith, append_assoc, length-append}
use Rattle.std.proofs.KnownBytes.{Appends-trans, Consumes-trans}
use Rattle.httparse.specs.Grammar.{RequestHead}
use Rattle.httparse.proofs.GrammarLemmas.{ReadsRequest-append}
use Rattle.dap_http.specs.Requests.{FirstRequest}
use Rattle.dap_outside.specs.Files.{Told}
use Rattle.dap_server.specs.Connections.{Connection, IsClosed, IsServedFrom, Stops, ends_after, failures, has_failed, is_last_turn, leaves_open}
use Rattle.dap_server.specs.Replies.{Turn, request, wants}
use Rattle.dap_server.specs.declared.served.Served.{Served}
use Rattle.dap_server.specs.inner.Serving.{GoesOn, ServesFrom, Stand}
use Rattle.dap_server.proofs.Choices.{where_false}
use Rattle.dap_server.proofs.Failing.{failed-as, failed-more}

pub request-stays : (input rest more : List ℕ) (head : RequestHead) → FirstRequest input head rest → FirstRequest (input ++ more) head (rest ++ more)
request-stays input rest more head first =
    ((ReadsRequest-append input head rest more first.0.0, first.0.1), omega (arith, first.1, length-append input more, length-append rest more))

-- one more turn in front of those that are served
pub turn-before : (n before : ℕ) (told : Told) (kept kept' taken taken' : List ℕ) (t : Turn) (ended : Bool) (c : Connection) (served : Served) (status : ℕ)
    → FirstRequest (kept ++ taken) t.head kept' → Rattle.dap_server.specs.Connections.MayAnswer told (request (n + 1) t.head) t.answer
    → is_last_turn (n + 1) t ≡ false → status ≡ Rattle.dap_server.specs.Replies.reply_status t.answer
    → IsServedFrom (n + 1) status told (kept' ++ taken') ended c served
    → IsServedFrom n before told (kept ++ (taken ++ taken')) ended (record { turns = t ∷ c.turns; left = c.left; behind = c.behind }) served
turn-before n before told kept kept' taken taken' t ended c served status first may goes is s =
    let all : (kept ++ taken) ++ taken' ≡ kept ++ (taken ++ taken') = append_assoc kept taken taken' in
    let later : FirstRequest (kept ++ (taken ++ taken')) t.head (kept' ++ taken') = subst (λ (b : List ℕ). FirstRequest b t.head (kept' ++ taken')) all (request-stays (kept ++ taken) kept' taken' t.head first) in
    let count : n + 1 + 1 + length c.turns ≡ n + 1 + length (t ∷ c.turns) = omega arith in
    let same : ends_after (is_last_turn (n + 1) t) (n + 1 + 1) c.turns ≡ ends_after false (n + 1 + 1) c.turns = ap (λ b. ends_after b (n + 1 + 1) c.turns) goes in
    record {
      turns = (kept' ++ taken', (later, may), where_false (is_last_turn (n + 1) t) _ _ goes s.turns);
      ends = rw same (subst (λ k. MatchBool (ends_after false (n + 1 + 1) c.turns) (IsClosed served.ending c.behind) (Stops told k c.left ended served.ending c.behind)) count s.ends);
      counted = omega (arith, s.counted);
      status = rw (sym is) s.status;
    }

pub goes-on : (n before : ℕ) (told : Told) (kept kept' : List ℕ) (l l' l'' : Option (List ℕ)) (a b z : Stand) (ended : Bool) (served : Served) (status : ℕ)
    → GoesOn n told kept kept' l l' a b status → ServesFrom (n + 1) status told kept' l' l'' b z ended served → ServesFrom n before told kept l l'' a z ended served
goes-on n before told kept kept' l l' l'' a b z ended served status (t, taken, consumes, (put, appends, known), (first, may), goes, is, failed, (m, asks, asked))
    (c, taken', consumes', (put', appends', others), s, failed', (m', (own, last, turns, behind, sum), asked')) = (
      record { turns = t ∷ c.turns; left = c.left; behind = c.behind },
      taken ++ taken',
      Consumes-trans l l' l'' taken taken' consumes consumes',
      (put ++ put', Appends-trans a.written b.written z.written put put' appends appends', (put, put', refl, known, others)),
      turn-before n before told kept kept' taken taken' t ended c served status first may goes is s,
      failed-as (has_failed t.answer + failures c served.ending) (failures (record { turns = t ∷ c.turns; left = c.left; behind = c.behind }) served.ending) _ a.faults z.faults (omega arith)
          (failed-more (has_failed t.answer) (failures c served.ending) (wants t.answer) (leaves_open c.turns served.ending c.behind) a.faults b.faults z.faults failed failed'),
      (m + m', ((m + own), last, (m, own, asks, turns, refl), behind, omega (arith, sum)), omega (arith, asked, asked')),
    )
