-- The replies that were read so far, one more, and the last.
use Rattle.std.proofs.Common.{◌≡◌, ℕ, suc, ◌+◌, ◌-◌, ◌≤◌, Bool, true, false, IsTrue, if◌then◌else◌, List, [], ◌∷◌, ◌++◌, length, Option, Some, None, refl, ap, ◌∙◌, sym, subst, arith, length-append}
use Rattle.std.proofs.lemmas.Bool.{true≢false}
use Rattle.std.proofs.lemmas.List.Elements.{All-append, All-cons, All-nil}
use Rattle.std.proofs.KnownBytes.{Appends-trans, Consumes-trans}
use Rattle.std.specs.Io.KnownBytes.{Appends, Consumes, IsAtEnd}
use Rattle.plain_lemmas.proofs.Lists.{seam}
use Rattle.dap_client.proofs.Saying.{says, stands}
use Rattle.dap_client.proofs.Sequels.{Leads, NextTold, SoFar, good-behind, good-of, leads-more, put-more, read-more, says-good, taken-more, time-more, verdicts-of, waits-more}
use Rattle.dap_client.specs.Answered.{Tells}
use Rattle.dap_client.specs.Fetched.{AreGood, IsFirst, IsReadFrom, Reply, SaysVerdict, all_put, all_taken, count_of, is_complete, is_fault}
use Rattle.dap_client.specs.Following.{IsStoppedBy}
use Rattle.dap_client.specs.Outcomes.{outcome_of}
use Rattle.dap_client.specs.Replies.{StopsInTime}
use Rattle.dap_client.specs.Verdict.{Form, Verdict}
use Rattle.dap_client.specs.declared.fetching.Fetched.{Fetched}
use Rattle.dap_client.specs.declared.replies.Stop.{Stop}
use Rattle.dap_client.specs.declared.outcome.Outcome.{Outcome}
use Rattle.dap_client.specs.declared.outcome.Outcome.TheVariants.{Complete, ServerError, BadReply, ReadFault, WriteFault, LinkFault, Memory}

-- what told its bytes tells them on
tells-on : (a b : Option (List ℕ)) (bytes input : List ℕ) → Consumes a b bytes → a ≡ Some input → (left : List ℕ) × (b ≡ Some left) × (input ≡ bytes ++ left)
tells-on None b bytes input moved is = cc is
tells-on (Some xs) None bytes input moved is = absurd moved
tells-on (Some xs) (Some ys) bytes input moved is = let same : xs ≡ input = cc in (ys, refl, sym same ∙ moved)

pub at-end : (b : Option (List ℕ)) (left : List ℕ) → b ≡ Some left → IsAtEnd b → left ≡ []
at-end None left is end = cc is
at-end (Some ys) left is end = let same : ys ≡ left = cc in sym same ∙ end

same-some : (x y : List ℕ) (b : Option (List ℕ)) → b ≡ Some x → b ≡ Some y → x ≡ y
same-some x y b p q = let same : Some x ≡ Some y = sym p ∙ q in cc

stands-so : (form : Form) (bytes more rest text : List ℕ) (ended : Bool) (outcome : Outcome) → is_complete outcome ≡ true → (IsTrue ended → more ≡ []) → Tells form bytes ended rest text outcome
    → (m : ℕ) × (v : Verdict) × IsFirst form (bytes ++ more) v m (rest ++ more) × (outcome ≡ outcome_of m v)
stands-so form bytes more rest text ended (Complete n) is none told = stands form bytes more rest text ended n none told
stands-so form bytes more rest text ended (ServerError code message) is none told = cc is
stands-so form bytes more rest text ended (BadReply field) is none told = cc is
stands-so form bytes more rest text ended ReadFault is none told = cc is
stands-so form bytes more rest text ended WriteFault is none told = cc is
stands-so form bytes more rest text ended LinkFault is none told = cc is
stands-so form bytes more rest text ended Memory is none told = cc is

-- ---- a reply that is read behind others

abbrev reply : List ℕ → List ℕ → List ℕ → Bool → Outcome → Reply
reply taken text rest ended outcome = record { taken = taken; ended = ended; rest = rest; text = text; outcome = outcome }

abbrev pub IsWhole : Reply → Type 0
IsWhole r = IsTrue (is_complete r.outcome)

-- what the source had left before it, and has behind it
record Between (back next : Option (List ℕ)) (taken : List ℕ) (ended : Bool) : Type 0 where
  left : List ℕ
  after : List ℕ
  back_is : back ≡ Some left
  next_is : next ≡ Some after
  left_is : left ≡ taken ++ after
  none : IsTrue ended → after ≡ []

between : (came back next : Option (List ℕ)) (before taken input : List ℕ) (ended : Bool) → Consumes came back before → Consumes back next taken → (IsTrue ended → IsAtEnd next) → came ≡ Some input
    → Between back next taken ended
between came back next before taken input ended first then_taken end is =
    let (left, back_is, parts) = tells-on came back before input first is in
    let (after, next_is, split) = tells-on back next taken left then_taken back_is in
    record { left = left; after = after; back_is = back_is; next_is = next_is; left_is = split; none = λ e. at-end next after next_is (end e) }

pub one-more : (form : Form) (n : ℕ) (came back next before now later : Option (List ℕ)) (waiting rest : List ℕ) (ended : Bool) (outcome : Outcome)
    → SoFar form n came back before now waiting → NextTold form back next now later waiting rest ended outcome → is_complete outcome ≡ true
    → SoFar form (n + 1) came next before later rest
one-more form n came back next before now later waiting rest ended outcome s t whole =
    let r : Reply = reply t.taken t.text rest ended outcome in
    record {
      replies = s.replies ++ r ∷ [];
      taken = subst (λ (l : List ℕ). Consumes came next l) (sym (taken-more s.replies r)) (Consumes-trans came back next (all_taken s.replies) t.taken s.taken t.consumes);
      put = subst (λ (l : List ℕ). Appends before later l) (sym (put-more s.replies r)) (Appends-trans before now later (all_put s.replies) t.text s.put t.appends);
      read = read-more form [] s.replies r s.read (subst (λ (w : List ℕ). Tells form (w ++ t.taken) ended rest t.text outcome) (sym s.waits_are) t.tells);
      in_time = time-more form [] s.replies r s.in_time (subst (λ (w : List ℕ). StopsInTime form (w ++ t.taken)) (sym s.waits_are) t.in_time);
      complete = All-append IsWhole s.replies (r ∷ []) s.complete (All-cons IsWhole r [] whole (All-nil IsWhole));
      count = omega (arith, length-append s.replies (r ∷ []), s.count);
      waits_are = waits-more [] s.replies r;
      leads = λ input left is next_is.
          let b = between came back next (all_taken s.replies) t.taken input ended s.taken t.consumes t.at_end is in
          let (m, v, first, told) = stands-so form (waiting ++ t.taken) b.after rest t.text ended outcome whole b.none t.tells in
          subst (λ (e : List ℕ). Leads form input (s.replies ++ r ∷ []) (rest ++ e)) (same-some b.after left next b.next_is next_is)
          (leads-more form input s.replies r (waiting ++ b.left) (rest ++ b.after) m v (s.leads input b.left is b.back_is)
          (subst (λ (l : List ℕ). IsFirst form l v m (rest ++ b.after)) (sym (seam waiting b.left t.taken b.after b.left_is)) first) told);
    }

-- ---- the last of them

count-whole : (o : Outcome) → count_of o ≡ 1 → is_complete o ≡ true
count-whole (Complete n) e = refl
count-whole (ServerError code message) e = cc e
count-whole (BadReply field) e = cc e
count-whole ReadFault e = cc e
count-whole WriteFault e = cc e
count-whole LinkFault e = cc e
count-whole Memory e = cc e

count-most : (o : Outcome) → count_of o ≤ 1
count-most (Complete n) = omega arith
count-most o = omega arith

pub whole-count : (o : Outcome) → IsTrue (is_complete o) → count_of o ≡ 1
whole-count o is = ap (λ b. if b then 1 else 0) is

all-good : (form : Form) (n count : ℕ) (came next before later : Option (List ℕ)) (rest input left : List ℕ) → SoFar form n came next before later rest → n ≡ count → came ≡ Some input → next ≡ Some left
    → AreGood form count input
all-good form n count came next before later rest input left s e is next_is =
    good-of form input s.replies (rest ++ left) count (s.count ∙ e) s.complete (s.leads input left is next_is)

pub last-one : (form : Form) (n count : ℕ) (came back next before now later : Option (List ℕ)) (waiting rest : List ℕ) (ended : Bool) (outcome : Outcome) (fetched : Fetched)
    → SoFar form n came back before now waiting → NextTold form back next now later waiting rest ended outcome
    → n + 1 ≤ count → (is_complete outcome ≡ true → n + 1 ≡ count) → fetched.last ≡ outcome → fetched.whole ≡ n + count_of outcome
    → IsReadFrom form count came next ended before later fetched
last-one form n count came back next before now later waiting rest ended outcome fetched s t few stops is_last is_whole =
    let r : Reply = reply t.taken t.text rest ended outcome in
    let long : length s.replies + 1 ≤ count = omega (arith, s.count, few) in
    record {
      replies = s.replies ++ r ∷ [];
      taken = subst (λ (l : List ℕ). Consumes came next l) (sym (taken-more s.replies r)) (Consumes-trans came back next (all_taken s.replies) t.taken s.taken t.consumes);
      put = subst (λ (l : List ℕ). Appends before later l) (sym (put-more s.replies r)) (Appends-trans before now later (all_put s.replies) t.text s.put t.appends);
      read = read-more form [] s.replies r s.read (subst (λ (w : List ℕ). Tells form (w ++ t.taken) ended rest t.text outcome) (sym s.waits_are) t.tells);
      in_time = time-more form [] s.replies r s.in_time (subst (λ (w : List ℕ). StopsInTime form (w ++ t.taken)) (sym s.waits_are) t.in_time);
      counted = record {
        before = s.replies;
        final = r;
        parts = refl;
        complete = s.complete;
        most = long;
        stops = λ whole. omega (arith, s.count, stops whole);
        is_last = is_last;
        whole = omega (arith, s.count, is_whole);
        is_ended = refl;
      };
      verdicts = λ input is.
          let b = between came back next (all_taken s.replies) t.taken input ended s.taken t.consumes t.at_end is in
          verdicts-of form input s.replies r (waiting ++ b.left) (s.leads input b.left is b.back_is)
          (subst (λ (l : List ℕ). SaysVerdict form l outcome) (sym (seam waiting b.left t.taken b.after b.left_is)) (says form (waiting ++ t.taken) b.after rest t.text ended outcome b.none t.tells));
      good = λ input is all.
          let b = between came back next (all_taken s.replies) t.taken input ended s.taken t.consumes t.at_end is in
          let one : count_of outcome ≡ 1 = omega (arith, few, all, is_whole, count-most outcome) in
          let more = one-more form n came back next before now later waiting rest ended outcome s t (count-whole outcome one) in
          all-good form (n + 1) count came next before later rest input b.after more (stops (count-whole outcome one)) is b.next_is;
      complete = λ input is good sound.
          let b = between came back next (all_taken s.replies) t.taken input ended s.taken t.consumes t.at_end is in
          let k = count - (n + 1) in
          let parts : count ≡ length s.replies + suc k = omega (arith, s.count, few) in
          let here = good-behind form input s.replies (waiting ++ b.left) (suc k) count parts good (s.leads input b.left is b.back_is) in
          let said = subst (λ (l : List ℕ). SaysVerdict form l outcome) (sym (seam waiting b.left t.taken b.after b.left_is)) (says form (waiting ++ t.taken) b.after rest t.text ended outcome b.none t.tells) in
          let whole = says-good form (waiting ++ b.left) k outcome here said (ap is_fault (sym is_last) ∙ sound) in
          omega (arith, is_whole, whole-count outcome whole, stops whole);
    }

-- the outcome was complete, and nothing stops the next
pub goes-on : (o : Outcome) (stopped : Option Stop) → is_complete o ≡ true → IsStoppedBy o stopped → stopped ≡ None
goes-on (Complete n) stopped is by = by
goes-on (ServerError code message) stopped is by = cc is
goes-on (BadReply field) stopped is by = cc is
goes-on ReadFault stopped is by = cc is
goes-on WriteFault stopped is by = cc is
goes-on LinkFault stopped is by = cc is
goes-on Memory stopped is by = cc is

-- the count of an outcome that is complete, and of one that is not
pub counts : (o : Outcome) (n : ℕ) → is_complete o ≡ true → n + 1 ≡ n + count_of o
counts o n is = omega (arith, whole-count o is)

pub counts-none : (o : Outcome) (n : ℕ) → is_complete o ≡ false → n ≡ n + count_of o
counts-none o n is = let none : count_of o ≡ 0 = ap (λ b. if b then 1 else 0) is in omega (arith, none)

-- a reply tells no fault of the dial
pub no-link : (form : Form) (bytes rest text : List ℕ) (ended : Bool) (outcome : Outcome) → Tells form bytes ended rest text outcome → outcome ≡ LinkFault → ⊥
no-link form bytes rest text ended outcome told is = subst (λ (o : Outcome). Tells form bytes ended rest text o) is told

-- what is complete tells no fault
pub no-read-fault : (outcome : Outcome) → is_complete outcome ≡ true → ¬ (outcome ≡ ReadFault)
no-read-fault outcome is e = absurd (true≢false (sym is ∙ ap is_complete e))

pub no-write-fault : (outcome : Outcome) → is_complete outcome ≡ true → ¬ (outcome ≡ WriteFault)
no-write-fault outcome is e = absurd (true≢false (sym is ∙ ap is_complete e))
