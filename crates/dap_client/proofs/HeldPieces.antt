-- A body that is held, piece by piece.
use Rattle.std.proofs.Common.{◌≡◌, ℕ, ◌+◌, ◌-◌, ◌<◌, ◌≤◌, ◌^◌, true, false, List, ◌++◌, length, take, drop, Result, Ok, Err, refl, sym, ap, ◌∙◌, subst, arith, append_assoc, length-append}
use Rattle.std.specs.List.{between}
use Rattle.std.proofs.lemmas.List.{take-append-drop, take-take, take_all, take_at}
use Rattle.std.proofs.lemmas.Slice.{between_is}
use Rattle.xdr_decode.specs.Verdict.{budget}
use Rattle.dap_client.proofs.Behind.{counted}
use Rattle.dap_client.proofs.GoesOn.{body-goes-on}
use Rattle.dap_client.proofs.Telling.{whole-piece}
use Rattle.dap_client.specs.Held.{IsLong}
use Rattle.dap_client.specs.Replies.{Spoils}
use Rattle.dap_client.specs.Verdict.{Form, IsVerdict}
use Rattle.dap_client.specs.inner.Holding.{IsAfter, IsFull, IsGoing, IsHeld, IsHolding, IsJudged, IsTaken}
use Rattle.dap_client.specs.declared.body.Body.{Body}
use Rattle.dap_client.specs.declared.body_outcome.BodyOutcome.{BodyOutcome}
use Rattle.dap_client.specs.declared.holding.Holding.{Holding}
use Rattle.dap_client.specs.declared.holding.Held.TheVariants.{Longer}
use Rattle.dap_client.proofs.HeldBodies.{err-on, err-taken, full-on, judged-on, never-held, never-longer}

pub counted-few : (r : Body) (body : List ℕ) → IsAfter r body → (r.taken ≡ length body) × (length body < 2 ^ 40)
unfolding budget
counted-few r body (put, stands) = let (taken, small) = counted r body put stands in (taken, small)

-- what is held of a body that goes on is not bad yet
pub held-goes-on : (form : Form) (limit : ℕ) (body : List ℕ) (h : Holding) → IsHolding form limit body h → ¬ (Spoils form body)
held-goes-on form limit body h held =
    let (put, stands) = held.after in subst (λ (f : Form). ¬ (Spoils f body)) held.is_form (body-goes-on h.reader body put stands)

-- what is looked at of a part that does not fill the budget
pub all-looked : (before r : Body) (body part looked : List ℕ) → looked ≡ take (2 ^ 40 - before.taken) part → IsAfter before body → IsAfter r (body ++ looked) → looked ≡ part
all-looked before r body part looked is stood stands = go (2 ^ 40 - before.taken) refl is where
  go : (n : ℕ) → n ≡ 2 ^ 40 - before.taken → looked ≡ take n part → looked ≡ part
  go n size same =
      same ∙ whole-piece n part (omega (arith, size, ap length same, length-append body looked, (counted-few before body stood).0, (counted-few r (body ++ looked) stands).0, (counted-few r (body ++ looked) stands).1))

pub read-err : (form : Form) (limit n : ℕ) (body part looked : List ℕ) (e : BodyOutcome) → looked ≡ take n part → IsFull form limit body → IsJudged form (body ++ looked) (Err e) → IsTaken form limit (body ++ part) (Err e)
read-err form limit n body part looked e is (full, (v, verdict, final)) judged =
    let all : (body ++ looked) ++ drop n part ≡ body ++ part = append_assoc body looked (drop n part) ∙ ap (λ l. body ++ l) (ap (λ l. l ++ drop n part) is ∙ take-append-drop n part) in
    let (long, (w, still, ends)) = full-on form limit body looked (full, (v, verdict, final)) in
    subst (λ l. IsTaken form limit l (Err e)) all (err-on form limit (body ++ looked) (drop n part) e (λ field lasting. never-longer form limit (body ++ looked) w long still ends) judged)

-- of the bytes up to the limit, where more stand behind them
pub front-err : (form : Form) (limit : ℕ) (kept front behind : List ℕ) (e : BodyOutcome) → length kept + length front ≡ limit → IsJudged form (kept ++ front) (Err e) → IsTaken form limit (kept ++ (front ++ behind)) (Err e)
front-err form limit kept front behind e full judged =
    subst (λ l. IsTaken form limit l (Err e)) (append_assoc kept front behind)
    (err-on form limit (kept ++ front) behind e (λ field lasting. never-held form limit (kept ++ front) field (omega (arith, full, length-append kept front)) lasting) judged)

up-to : (limit : ℕ) (kept front behind : List ℕ) → length kept + length front ≡ limit → take limit (kept ++ (front ++ behind)) ≡ kept ++ front
up-to limit kept front behind full = ap (take limit) (sym (append_assoc kept front behind)) ∙ take_at (kept ++ front) behind limit (omega (arith, full, length-append kept front))

pub too-long : (form : Form) (limit : ℕ) (kept front behind : List ℕ) → length kept + length front ≡ limit → 0 < length behind → IsGoing form (kept ++ front) (Ok true) → IsLong form limit (kept ++ (front ++ behind))
too-long form limit kept front behind full some (v, is, going) = record {
  longer = omega (arith, full, some, length-append kept (front ++ behind), length-append front behind);
  front = v;
  verdict = subst (λ l. IsVerdict form l v) (sym (up-to limit kept front behind full)) is;
  going = going;
}

pub is-full : (form : Form) (limit : ℕ) (body : List ℕ) → length body ≡ limit → IsGoing form body (Ok false) → IsFull form limit body
is-full form limit body full (v, is, final) = (omega (arith, full), (v, subst (λ l. IsVerdict form l v) (sym (take_all limit body (omega (arith, full)))) is, final))

pub held-full : (form : Form) (limit : ℕ) (body : List ℕ) → IsHeld form limit body Longer → IsFull form limit body
held-full form limit body (more, is) = (omega (arith, more), is)

pub held-on : (form : Form) (limit : ℕ) (body part : List ℕ) → IsFull form limit body → limit < length body + length part → IsHeld form limit (body ++ part) Longer
held-on form limit body part full more = (omega (arith, more, length-append body part), (full-on form limit body part full).1)

pub short-err : (form : Form) (limit : ℕ) (kept part : List ℕ) (e : BodyOutcome) → length kept + length part ≤ limit → IsJudged form (kept ++ part) (Err e) → IsTaken form limit (kept ++ part) (Err e)
short-err form limit kept part e few judged = err-taken form limit (kept ++ part) e (λ field lasting. never-held form limit (kept ++ part) field (omega (arith, few, length-append kept part)) lasting) judged

pub take-between : (xs : List ℕ) (i j : ℕ) → i ≤ j → take i xs ++ between i j xs ≡ take j xs
take-between xs i j le = ap (λ l. take i xs ++ l) (between_is xs i j) ∙ ap (λ l. l ++ drop i (take j xs)) (sym (take-take i j xs le)) ∙ take-append-drop i (take j xs)

pub taken-as : (form other : Form) (limit n : ℕ) (body all : List ℕ) (r : Result Holding BodyOutcome) → other ≡ form → n ≡ limit → all ≡ body → IsTaken other n all r → IsTaken form limit body r
taken-as form other limit n body all r forms limits same taken =
    subst (λ (f : Form). IsTaken f limit body r) forms (subst (λ m. IsTaken other m body r) limits (subst (λ l. IsTaken other n l r) same taken))

pub full-as : (form other : Form) (limit n : ℕ) (body : List ℕ) → other ≡ form → n ≡ limit → IsFull form limit body → IsFull other n body
full-as form other limit n body forms limits full = subst (λ (f : Form). IsFull f n body) (sym forms) (subst (λ m. IsFull form m body) (sym limits) full)

pub front-judged : (form other : Form) (bytes : List ℕ) (i j : ℕ) (e : BodyOutcome) → i ≤ j → other ≡ form → IsJudged other (take i bytes ++ between i j bytes) (Err e) → IsJudged form bytes (Err e)
front-judged form other bytes i j e le same judged =
    let here : IsJudged form (take i bytes ++ between i j bytes) (Err e) = subst (λ (f : Form). IsJudged f (take i bytes ++ between i j bytes) (Err e)) same judged in
    let up : IsJudged form (take j bytes) (Err e) = subst (λ l. IsJudged form l (Err e)) (take-between bytes i j le) here in
    subst (λ l. IsJudged form l (Err e)) (take-append-drop j bytes) (judged-on form (take j bytes) (drop j bytes) e up)
