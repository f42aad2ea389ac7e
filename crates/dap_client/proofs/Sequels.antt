-- Replies that are read one behind the other, and where they stand in the bytes.
use Rattle.std.proofs.Common.{◌≡◌, ℕ, zero, suc, ◌+◌, inl, Bool, true, false, IsTrue, List, [], ◌∷◌, ◌++◌, All, length, map, Option, Some, refl, ap, ◌∙◌, sym, subst, arith}
use Rattle.std.proofs.KnownBytes.{Appends-nil, Consumes-nil}
use Rattle.std.proofs.lemmas.List.{flat_map_more}
use Rattle.std.proofs.lemmas.List.Elements.{All-head, All-nil, All-tail}
use Rattle.std.specs.Io.KnownBytes.{Appends, Consumes, IsAtEnd}
use Rattle.dap_http.proofs.Deliveries.{one-delivery}
use Rattle.dap_client.proofs.OneReply.{one_reply}
use Rattle.dap_client.specs.Answered.{Tells}
use Rattle.dap_client.specs.Fetched.{AreInTime, AreGood, AreRead, AreVerdicts, IsFirst, Reply, SaysVerdict, all_put, all_taken, is_complete, is_fault}
use Rattle.dap_client.specs.Outcomes.{outcome_of}
use Rattle.dap_client.specs.Replies.{IsReplyVerdict, StopsInTime}
use Rattle.dap_client.specs.Verdict.{Form, Verdict}
use Rattle.dap_client.specs.declared.outcome.Outcome.{Outcome}

-- the bytes that wait behind the last of them
abbrev pub waits : List ℕ → List Reply → List ℕ
waits waiting [] = waiting
waits waiting (r ∷ replies) = waits r.rest replies

pub waits-more : (waiting : List ℕ) (replies : List Reply) (r : Reply) → waits waiting (replies ++ r ∷ []) ≡ r.rest
waits-more waiting [] r = refl
waits-more waiting (q ∷ replies) r = waits-more q.rest replies r

pub read-more : (form : Form) (waiting : List ℕ) (replies : List Reply) (r : Reply) → AreRead form waiting replies
    → Tells form (waits waiting replies ++ r.taken) r.ended r.rest r.text r.outcome → AreRead form waiting (replies ++ r ∷ [])
read-more form waiting [] r all told = (told, tt)
read-more form waiting (q ∷ replies) r (first, others) told = (first, read-more form q.rest replies r others told)

pub time-more : (form : Form) (waiting : List ℕ) (replies : List Reply) (r : Reply) → AreInTime form waiting replies → StopsInTime form (waits waiting replies ++ r.taken) → AreInTime form waiting (replies ++ r ∷ [])
time-more form waiting [] r all next = (next, tt)
time-more form waiting (q ∷ replies) r (first, others) next = (first, time-more form q.rest replies r others next)

pub taken-more : (replies : List Reply) (r : Reply) → all_taken (replies ++ r ∷ []) ≡ all_taken replies ++ r.taken
taken-more replies r = sym (flat_map_more (λ (q : Reply). q.taken) [] replies r)

pub put-more : (replies : List Reply) (r : Reply) → all_put (replies ++ r ∷ []) ≡ all_put replies ++ r.text
put-more replies r = sym (flat_map_more (λ (q : Reply). q.text) [] replies r)

-- ---- where they stand

-- whole replies with these outcomes stand at the front of the bytes, and the others behind them
abbrev pub Leads : Form → List ℕ → List Reply → List ℕ → Type 0
Leads form bytes [] behind = bytes ≡ behind
Leads form bytes (r ∷ replies) behind =
    (n : ℕ) × (v : Verdict) × (rest : List ℕ) × IsFirst form bytes v n rest × (r.outcome ≡ outcome_of n v) × Leads form rest replies behind

pub leads-more : (form : Form) (bytes : List ℕ) (replies : List Reply) (r : Reply) (mid behind : List ℕ) (n : ℕ) (v : Verdict) → Leads form bytes replies mid
    → IsFirst form mid v n behind → r.outcome ≡ outcome_of n v → Leads form bytes (replies ++ r ∷ []) behind
leads-more form bytes [] r mid behind n v is first told = (n, v, behind, subst (λ (b : List ℕ). IsFirst form b v n behind) (sym is) first, told, refl)
leads-more form bytes (q ∷ replies) r mid behind n v (m, w, rest, one, said, others) first told =
    (m, w, rest, one, said, leads-more form rest replies r mid behind n v others first told)

pub verdicts-of : (form : Form) (bytes : List ℕ) (replies : List Reply) (r : Reply) (mid : List ℕ) → Leads form bytes replies mid → SaysVerdict form mid r.outcome
    → AreVerdicts form bytes (map (λ (q : Reply). q.outcome) (replies ++ r ∷ []))
verdicts-of form bytes [] r mid is says = subst (λ (b : List ℕ). SaysVerdict form b r.outcome) (sym is) says
verdicts-of form bytes (q ∷ []) r mid (n, v, rest, first, told, others) says = (n, v, rest, first, told, verdicts-of form rest [] r mid others says)
verdicts-of form bytes (q ∷ p ∷ replies) r mid (n, v, rest, first, told, others) says = (n, v, rest, first, told, verdicts-of form rest (p ∷ replies) r mid others says)

abbrev IsWhole : Reply → Type 0
IsWhole r = IsTrue (is_complete r.outcome)

-- all of them are good
pub good-of : (form : Form) (bytes : List ℕ) (replies : List Reply) (behind : List ℕ) (n : ℕ) → length replies ≡ n → All (λ (r : Reply). IsTrue (is_complete r.outcome)) replies
    → Leads form bytes replies behind → AreGood form n bytes
good-of form bytes [] behind zero e all leads = tt
good-of form bytes [] behind (suc n) e all leads = cc e
good-of form bytes (r ∷ replies) behind zero e all leads = cc e
good-of form bytes (r ∷ replies) behind (suc n) e all (m, v, rest, first, told, others) =
    (m, v, rest, first, subst (λ (o : Outcome). IsTrue (is_complete o)) told (All-head IsWhole r replies all), good-of form rest replies behind n (omega (arith, e)) (All-tail IsWhole r replies all) others)

-- behind some of the good ones stand the others
pub good-behind : (form : Form) (bytes : List ℕ) (replies : List Reply) (mid : List ℕ) (k n : ℕ) → n ≡ length replies + k → AreGood form n bytes → Leads form bytes replies mid → AreGood form k mid
good-behind form bytes [] mid k n e good leads = subst (λ (b : List ℕ). AreGood form k b) leads (subst (λ m. AreGood form m bytes) (omega (arith, e)) good)
good-behind form bytes (r ∷ replies) mid k zero e good leads = absurd (omega (arith, e))
good-behind form bytes (r ∷ replies) mid k (suc n) e (m, v, rest, first, whole, good) (m2, v2, rest2, first2, told, leads) =
    let (bodies, rests) = one-delivery bytes true first.body first2.body rest rest2 first.delivers first2.delivers in
    good-behind form rest2 replies mid k n (omega (arith, e)) (subst (λ (b : List ℕ). AreGood form n b) rests good) leads

as-verdict : (form : Form) (bytes rest : List ℕ) (v : Verdict) (n : ℕ) → IsFirst form bytes v n rest → IsReplyVerdict form bytes n v
as-verdict form bytes rest v n first = inl (first.body, rest, first.delivers, first.count, first.verdict)

-- what is said of the first of good ones
pub says-good : (form : Form) (bytes : List ℕ) (k : ℕ) (o : Outcome) → AreGood form (suc k) bytes → SaysVerdict form bytes o → is_fault o ≡ false → IsTrue (is_complete o)
says-good form bytes k o (n, v, rest, first, whole, good) says sound =
    let (m, w, is, told) = says sound in
    let (counts, same) = one_reply form bytes first.delivers.behind first.delivers.coding m n w v first.delivers.has_coding is (as-verdict form bytes rest v n first) in
    subst (λ (x : Outcome). IsTrue (is_complete x)) (sym (told ∙ ap (λ i. outcome_of i w) counts ∙ ap (λ (x : Verdict). outcome_of n x) same)) whole

-- ---- what has been read

-- so many were read, each complete: the bytes that were taken and put, those that wait, and where they stand in what the
-- source had left
pub record SoFar (form : Form) (n : ℕ) (came back before now : Option (List ℕ)) (waiting : List ℕ) : Type 0 where
  pub replies : List Reply
  pub taken : Consumes came back (all_taken replies)
  pub put : Appends before now (all_put replies)
  pub read : AreRead form [] replies
  pub in_time : AreInTime form [] replies
  pub complete : All (λ (r : Reply). IsTrue (is_complete r.outcome)) replies
  pub count : length replies ≡ n
  pub waits_are : waits [] replies ≡ waiting
  pub leads : (input left : List ℕ) → came ≡ Some input → back ≡ Some left → Leads form input replies (waiting ++ left)

-- what the next one tells, where the source's end has been told
pub record NextTold (form : Form) (back next now later : Option (List ℕ)) (waiting waits : List ℕ) (ended : Bool) (outcome : Outcome) : Type 0 where
  pub taken : List ℕ
  pub text : List ℕ
  pub consumes : Consumes back next taken
  pub appends : Appends now later text
  pub tells : Tells form (waiting ++ taken) ended waits text outcome
  pub in_time : StopsInTime form (waiting ++ taken)
  pub at_end : IsTrue ended → IsAtEnd next

pub none-yet : (form : Form) (source sink : Option (List ℕ)) (waiting : List ℕ) → waiting ≡ [] → SoFar form 0 source source sink sink waiting
none-yet form source sink waiting none = record {
  replies = [];
  taken = Consumes-nil source;
  put = Appends-nil sink;
  read = tt;
  in_time = tt;
  complete = All-nil (λ (r : Reply). IsTrue (is_complete r.outcome));
  count = refl;
  waits_are = sym none;
  leads = λ input left came back. some-same input left (sym came ∙ back) ∙ ap (λ t. t ++ left) (sym none);
}
  where
    some-same : (x y : List ℕ) → Some x ≡ Some y → x ≡ y
    some-same x y e = cc e
