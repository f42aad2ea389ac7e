-- Where the replies of a connection stand in what it put.
use Rattle.std.proofs.Common.{◌≡◌, ℕ, zero, suc, ◌+◌, ◌<◌, ◌≤◌, ◌^◌, inl, inr, Bool, true, false, List, [], ◌∷◌, ◌++◌, length, map, codes, Some, MatchBool, Result, Ok, Err, refl, sym, ap, ◌∙◌, subst, arith, append_assoc, append-nil}
use Rattle.std.proofs.lemmas.Bool.{or_left}
use Rattle.plain_lemmas.proofs.Truths.{match_true}
use Rattle.httparse.specs.Grammar.{RequestHead}
use Rattle.dap_errors.specs.declared.cause.Cause.{Cause}
use Rattle.dap_errors.specs.declared.cause.Cause.TheVariants.{BadMethod}
use Rattle.dap_http.specs.Delivered.{Delivers}
use Rattle.dap_http.specs.Requests.{FirstRequest, Requests, ends_connection, ends_itself, is_other}
use Rattle.dap_http.specs.declared.kind.Kind.TheVariants.{Dods}
use Rattle.dap_outside.specs.Files.{Told}
use Rattle.dap_server.specs.Connections.{AreTurns, Behind, IsClosed, MayAnswer, behind_text, ends_after, is_last_turn, nothing, part_of_refusal, part_of_reply, put_from, refusal}
use Rattle.dap_server.specs.Files.{Files}
use Rattle.dap_server.specs.Replies.{AreAnswered, IsRequestAnswered, IsRequestAnsweredAmong, Request, Turn, is_head, replies, reply_of, request, wants}
use Rattle.dap_server.specs.Results.{Results, Text, result_text}
use Rattle.dap_server.specs.declared.served.Ending.{Ending}
use Rattle.dap_server.specs.declared.served.Ending.TheVariants.{Closed, Gone, ReadFault, WriteFault, Broken}
use Rattle.both_ends.proofs.Replying.{reply_delivers}
use Rattle.both_ends.proofs.Resulting.{result_is_good}
use Rattle.both_ends.specs.Ends.{AllAreGood, HoldBytes, ServedIsGood, StandsGood, reply_behind}
use Rattle.dap_server.proofs.WholeConnections.{heads}

-- ---- one reply among others

some-turns : (before after : List Turn) (t : Turn) → before ++ t ∷ after ≡ [] → ⊥
some-turns [] after t e = cc e
some-turns (b ∷ before) after t e = cc e

pub replies-split : (k j : ℕ) (before after : List Turn) (t : Turn) → j ≡ k + length before → replies k (before ++ t ∷ after) ≡ replies k before ++ (reply_of (request j t.head) t.answer ++ replies (j + 1) after)
replies-split k j [] after t e = ap (λ (n : ℕ). reply_of (request n t.head) t.answer ++ replies (n + 1) after) (omega (arith, e))
replies-split k j (b ∷ before) after t e =
    ap (λ (l : List ℕ). reply_of (request k b.head) b.answer ++ l) (replies-split (k + 1) j before after t (omega (arith, e)))
    ∙ sym (append_assoc (reply_of (request k b.head) b.answer) (replies (k + 1) before) (reply_of (request j t.head) t.answer ++ replies (j + 1) after))

-- what a turn says of itself: its minor version, and that nothing follows a reply that ends its connection
record Place (before after : List Turn) (t : Turn) (tail : List ℕ) : Type 0 where
  minor : t.head.minor ≤ 1
  last : t.head.minor ≡ 0 → (after ≡ []) × (tail ≡ [])

pub no-head : (q : Request) → q.method ≡ codes "GET" → is_head q ≡ false
no-head q e = rw e refl

delivered : (before after : List Turn) (t : Turn) (tail text : List ℕ) → Place before after t tail → t.head.method ≡ codes "GET" → t.answer ≡ Ok (result_text Dods text)
    → let rest = replies (length before + 1 + 1) after ++ tail in Delivers (reply_behind before t ++ rest) true text rest
delivered before after t tail text p get is =
    subst (λ (r : Result Text Cause). Delivers (reply_of q r ++ rest) true text rest) (sym is) (go t.head.minor refl)
  where
    q : Request
    q = request (length before + 1) t.head

    rest : List ℕ
    rest = replies (length before + 1 + 1) after ++ tail

    no-more : (l : List ℕ) → l ≡ [] → Delivers (reply_of q (Ok (result_text Dods text)) ++ l) true text l
    no-more l e = subst (λ (m : List ℕ). Delivers (reply_of q (Ok (result_text Dods text)) ++ m) true text m) (sym e)
        (subst (λ (b : List ℕ). Delivers b true text []) (sym (append-nil (reply_of q (Ok (result_text Dods text))))) (reply_delivers q text (no-head q get)).0)

    go : (m : ℕ) → t.head.minor ≡ m → Delivers (reply_of q (Ok (result_text Dods text)) ++ rest) true text rest
    go zero e = let (none, empty) = p.last e in no-more rest (ap (λ (l : List Turn). replies (length before + 1 + 1) l ++ tail) none ∙ empty)
    go (suc m) e = (reply_delivers q text (no-head q get)).1 rest (omega (arith, e, p.minor))

stands-good : (files : Files) (put : List ℕ) (before after : List Turn) (t : Turn) (tail text : List ℕ) → HoldBytes files → put ≡ replies 1 (before ++ t ∷ after) ++ tail
    → Results t.head.target files t.answer → Place before after t tail → t.head.method ≡ codes "GET" → t.answer ≡ Ok (result_text Dods text) → length text < 2 ^ 40 → StandsGood files put before t text
stands-good files put before after t tail text hold laid results p get is short =
    let j : ℕ = length before + 1 in
    let rest = replies (j + 1) after ++ tail in
    let d = delivered before after t tail text p get is in
    let g = result_is_good t.head.target files text hold (subst (λ (r : Result Text Cause). Results t.head.target files r) is results) short in
    record {
      rest = rest;
      stands = laid ∙ ap (λ (l : List ℕ). l ++ tail) (replies-split 1 j before after t (omega arith))
          ∙ append_assoc (replies 1 before) (reply_behind before t ++ replies (j + 1) after) tail
          ∙ ap (λ (l : List ℕ). replies 1 before ++ l) (append_assoc (reply_behind before t) (replies (j + 1) after) tail);
      result = g;
      delivers = d;
      verdict = inl (text, rest, d, refl, g.verdict);
    }

-- ---- a head of HTTP/1.0 ends its connection

old-ends : (k : ℕ) (h : RequestHead) → h.minor ≡ 0 → ends_connection k h ≡ true
unfolding ends_itself
old-ends k h e = rw e refl

minor-of : (bytes rest : List ℕ) (h : RequestHead) → FirstRequest bytes h rest → h.minor ≤ 1
minor-of bytes rest h first = first.0.0.0.minor

-- ---- in every run

pub is-get : (q : Request) → q.method ≡ codes "GET" → is_other q.method ≡ false
is-get q e = rw e refl

answered : (files : Files) (q : Request) (answer : Result Text Cause) → q.method ≡ codes "GET" → IsRequestAnswered files q answer → Results q.target files answer
answered files q answer get is = by (is_other q.method) (is-get q get) is where
  by : (b : Bool) → b ≡ false → MatchBool b (answer ≡ Err BadMethod) (Results q.target files answer) → Results q.target files answer
  by true e m = cc e
  by false e m = m

may-result : (files : Files) (q : Request) (answer : Result Text Cause) (t : Text) → q.method ≡ codes "GET" → answer ≡ Ok t → MayAnswer (Some files) q answer → Results q.target files answer
may-result files q answer t get is (inl (others, same, answers)) = answered files q answer get (subst (λ (fs : Files). IsRequestAnsweredAmong (Some files) fs q answer) same answers)
may-result files q answer t get is (inr (inl (failed, served, looks))) = cc (is, failed)
may-result files q answer t get is (inr (inr wanted)) = cc (is, wanted)

-- what stands at the place of a turn
pub record Reached (told : Told) (j : ℕ) (after : List Turn) (t : Turn) : Type 0 where
  pub bytes : List ℕ
  pub rest : List ℕ
  pub first : FirstRequest bytes t.head rest
  pub may : MayAnswer told (request j t.head) t.answer
  pub ends : is_last_turn j t ≡ true → after ≡ []

pub reached : (told : Told) (k j : ℕ) (bytes left : List ℕ) (before after : List Turn) (t : Turn) → j ≡ k + length before → AreTurns told k bytes (before ++ t ∷ after) left → Reached told j after t
reached told k j bytes left [] after t e (rest, (first, may), next) =
    let same : k ≡ j = omega (arith, e) in
    record {
      bytes = bytes;
      rest = rest;
      first = first;
      may = subst (λ (n : ℕ). MayAnswer told (request n t.head) t.answer) same may;
      ends = λ is. by (is_last_turn k t) (ap (λ (n : ℕ). is_last_turn n t) same ∙ is) next;
    }
  where
    by : (b : Bool) → b ≡ true → MatchBool b ((after ≡ []) × (left ≡ rest)) (AreTurns told (k + 1) rest after left) → after ≡ []
    by true is m = m.0
    by false is m = cc is
reached told k j bytes left (b ∷ before) after t e (rest, turn, next) = by (is_last_turn k b) next (λ m. reached told (k + 1) j rest left before after t (omega (arith, e)) m) where
  by : (c : Bool) → MatchBool c ((before ++ t ∷ after ≡ []) × (left ≡ rest)) (AreTurns told (k + 1) rest (before ++ t ∷ after) left) → (AreTurns told (k + 1) rest (before ++ t ∷ after) left → Reached told j after t) → Reached told j after t
  by true m further = absurd (some-turns before after t m.0)
  by false m further = further m

-- the last turn ends the connection where it is one that does
ends-last : (b : Bool) (k j : ℕ) (before : List Turn) (t : Turn) → j ≡ k + length before → ends_after b k (before ++ t ∷ []) ≡ is_last_turn j t
ends-last b k j [] t e = ap (λ (n : ℕ). is_last_turn n t) (omega (arith, e))
ends-last b k j (c ∷ before) t e = ends-last (is_last_turn k c) (k + 1) j before t (omega (arith, e))

closed-nothing : (ending : Ending) (behind : Behind) → IsClosed ending behind → behind_text behind ≡ []
closed-nothing Closed nothing is = refl
closed-nothing Closed (refusal cause) is = absurd is
closed-nothing Closed (part_of_reply t part) is = absurd is
closed-nothing Closed (part_of_refusal cause part) is = absurd is
closed-nothing Gone behind is = absurd is
closed-nothing ReadFault behind is = absurd is
closed-nothing WriteFault behind is = absurd is
closed-nothing Broken behind is = absurd is

pub served_is_good : ServedIsGood
served_is_good files taken ended c served hold s before after t text parts get is short =
    let j : ℕ = length before + 1 in
    let r = reached (Some files) 1 j taken c.left before after t (omega arith) (subst (λ (l : List Turn). AreTurns (Some files) 1 taken l c.left) parts s.turns) in
    let alone = λ (old : t.head.minor ≡ 0). r.ends (or_left (ends_connection j t.head) (wants t.answer) (old-ends j t.head old)) in
    stands-good files (put_from 1 c) before after t (behind_text c.behind) text hold (ap (λ (l : List Turn). replies 1 l ++ behind_text c.behind) parts)
    (may-result files (request j t.head) t.answer (result_text Dods text) get is r.may)
    (record {
      minor = minor-of r.bytes r.rest t.head r.first;
      last = λ old. (
        alone old,
        closed-nothing served.ending c.behind
            (match_true (ends_after false 1 c.turns) _ _
            (ap (λ (l : List Turn). ends_after false 1 l) (parts ∙ ap (λ (l : List Turn). before ++ t ∷ l) (alone old)) ∙ ends-last false 1 j before t (omega arith)
            ∙ or_left (ends_connection j t.head) (wants t.answer) (old-ends j t.head old))
            s.ends),
      );
    }) get is short

-- ---- in a run without a fault

pub record ReachedAll (files : Files) (j : ℕ) (after : List Turn) (t : Turn) : Type 0 where
  pub bytes : List ℕ
  pub rest : List ℕ
  pub first : FirstRequest bytes t.head rest
  pub answers : IsRequestAnswered files (request j t.head) t.answer
  pub ends : ends_connection j t.head ≡ true → after ≡ []

no-heads : (turns : List Turn) → heads turns ≡ [] → turns ≡ []
no-heads [] e = refl
no-heads (t ∷ turns) e = cc e

pub reached-all : (files : Files) (k j : ℕ) (bytes left : List ℕ) (before after : List Turn) (t : Turn) → j ≡ k + length before → Requests k bytes (heads (before ++ t ∷ after)) left → AreAnswered files k (before ++ t ∷ after)
    → ReachedAll files j after t
reached-all files k j bytes left [] after t e (rest, first, next) (answers, others) =
    let same : k ≡ j = omega (arith, e) in
    record {
      bytes = bytes;
      rest = rest;
      first = first;
      answers = subst (λ (n : ℕ). IsRequestAnswered files (request n t.head) t.answer) same answers;
      ends = λ is. no-heads after (by (ends_connection k t.head) (ap (λ (n : ℕ). ends_connection n t.head) same ∙ is) next);
    }
  where
    by : (b : Bool) → b ≡ true → MatchBool b ((heads after ≡ []) × (left ≡ rest)) (Requests (k + 1) rest (heads after) left) → heads after ≡ []
    by true is m = m.0
    by false is m = cc is
reached-all files k j bytes left (b ∷ before) after t e (rest, first, next) (answers, others) =
    by (ends_connection k b.head) next (λ m. reached-all files (k + 1) j rest left before after t (omega (arith, e)) m others)
  where
    by : (c : Bool) → MatchBool c ((heads (before ++ t ∷ after) ≡ []) × (left ≡ rest)) (Requests (k + 1) rest (heads (before ++ t ∷ after)) left)
        → (Requests (k + 1) rest (heads (before ++ t ∷ after)) left → ReachedAll files j after t) → ReachedAll files j after t
    by true m further = absurd (some-turns before after t (no-heads (before ++ t ∷ after) m.0))
    by false m further = further m

pub all_are_good : AllAreGood
all_are_good input files gained served hold all before after t text parts get is short =
    let j : ℕ = length before + 1 in
    let turns = all.replies.turns in
    let r = reached-all files 1 j input all.replies.behind before after t (omega arith) (subst (λ (l : List Turn). Requests 1 input (heads l) all.replies.behind) parts all.replies.requests)
    (subst (λ (l : List Turn). AreAnswered files 1 l) parts all.replies.answered) in
    let alone = λ (old : t.head.minor ≡ 0). r.ends (old-ends j t.head old) in
    stands-good files gained before after t all.tail text hold (all.gained_is ∙ ap (λ (l : List ℕ). l ++ all.tail) (all.replies.are_these ∙ ap (λ (l : List Turn). replies 1 l) parts))
    (answered files (request j t.head) t.answer get r.answers)
    (record {
      minor = minor-of r.bytes r.rest t.head r.first;
      last = λ old. (
        alone old,
        (match_true (ends_after false 1 turns) _ _
            (ap (λ (l : List Turn). ends_after false 1 l) (parts ∙ ap (λ (l : List Turn). before ++ t ∷ l) (alone old)) ∙ ends-last false 1 j before t (omega arith)
            ∙ or_left (ends_connection j t.head) (wants t.answer) (old-ends j t.head old))
            all.ends).0,
      );
    }) get is short
