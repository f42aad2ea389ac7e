-- Texts that go through a buffer, one after the other.
use Rattle.std.proofs.Common.{◌≡◌, ℕ, List, [], ◌++◌, Option, refl, sym, ap, ◌∙◌, subst, append_assoc, append-nil, Result, Ok, Err, OnErr, OnOk}
use Rattle.std.proofs.KnownBytes.{Appends-trans, Appends-nil}
use Rattle.std.specs.Io.KnownBytes.{Appends}
use Rattle.std.specs.Prelude.{IsErr}
use Rattle.dap_outside.proofs.Fronts.{front_of, front_more}
use Rattle.dap_outside.specs.Streams.{AppendsFront}
use Rattle.dap_outside.specs.Buffered.{Passes, PassesFront, Puts}

-- all is kept
pub passes_kept : (w : Option (List ℕ)) (held left text : List ℕ) → left ≡ held ++ text → Passes w held w left text
passes_kept w held left text is = record { front = []; sent = Appends-nil w; rest = sym is }

-- what was held is sent, and the text is kept
pub passes_flushed : (a b : Option (List ℕ)) (held none left text : List ℕ) → Appends a b held → none ≡ [] → left ≡ none ++ text → Passes a held b left text
passes_flushed a b held none left text sent empty is =
    record { front = held; sent = sent; rest = ap (λ l. held ++ l) (sym (is ∙ ap (λ l. l ++ text) empty)) }

-- both are sent
pub puts_sent : {T E : Type 0} (r : Result T E) (a b c : Option (List ℕ)) (held none text : List ℕ) → Appends a b held → none ≡ [] → OnOk r (Appends b c text) → OnErr r (AppendsFront b c text)
    → Puts a held c none r text
puts_sent (Ok x) a b c held none text sent empty ok err =
    record { front = held ++ text; sent = Appends-trans a b c held text sent ok; rest = sym (ap (λ l. (held ++ text) ++ l) empty ∙ append-nil (held ++ text)) }
puts_sent (Err x) a b c held none text sent empty ok err = record { sent = front_more a b c held text sent err }

pub front_flushed : (a b : Option (List ℕ)) (held text : List ℕ) → AppendsFront a b held → PassesFront a held b text
front_flushed a b held text sent = record { sent = front_of a b held text sent }

-- two texts
pub passes_two : (a b c : Option (List ℕ)) (held mid left xs ys : List ℕ) → Passes a held b mid xs → Passes b mid c left ys → Passes a held c left (xs ++ ys)
passes_two a b c held mid left xs ys p q =
    record {
      front = p.front ++ q.front;
      sent = Appends-trans a b c p.front q.front p.sent q.sent;
      rest = sym (append_assoc held xs ys) ∙ ap (λ l. l ++ ys) p.rest ∙ append_assoc p.front mid ys ∙ ap (λ l. p.front ++ l) q.rest ∙ sym (append_assoc p.front q.front left);
    }

-- a front of the first of two texts
pub front_first : (a b : Option (List ℕ)) (held xs ys : List ℕ) → PassesFront a held b xs → PassesFront a held b (xs ++ ys)
front_first a b held xs ys p = record { sent = subst (AppendsFront a b) (append_assoc held xs ys) (front_of a b (held ++ xs) ys p.sent) }

-- a text, and a front of the second
pub front_second : (a b c : Option (List ℕ)) (held mid xs ys : List ℕ) → Passes a held b mid xs → PassesFront b mid c ys → PassesFront a held c (xs ++ ys)
front_second a b c held mid xs ys p q =
    let same : held ++ (xs ++ ys) ≡ p.front ++ (mid ++ ys) = sym (append_assoc held xs ys) ∙ ap (λ l. l ++ ys) p.rest ∙ append_assoc p.front mid ys in
    record { sent = subst (AppendsFront a c) (sym same) (front_more a b c p.front (mid ++ ys) p.sent q.sent) }

pub puts_two : {T E : Type 0} (r : Result T E) (a b c : Option (List ℕ)) (held mid left xs ys : List ℕ) → Passes a held b mid xs → Puts b mid c left r ys → Puts a held c left r (xs ++ ys)
puts_two (Ok x) a b c held mid left xs ys p q = passes_two a b c held mid left xs ys p q
puts_two (Err x) a b c held mid left xs ys p q = front_second a b c held mid xs ys p q

-- the same text in other words
pub puts_as : {T E : Type 0} (r : Result T E) (a b : Option (List ℕ)) (held left xs ys : List ℕ) → xs ≡ ys → Puts a held b left r xs → Puts a held b left r ys
puts_as r a b held left xs ys is p = subst (Puts a held b left r) is p

pub front_as : (a b : Option (List ℕ)) (held xs ys : List ℕ) → xs ≡ ys → PassesFront a held b xs → PassesFront a held b ys
front_as a b held xs ys is p = subst (PassesFront a held b) is p

pub passes_as : (a b : Option (List ℕ)) (held left xs ys : List ℕ) → xs ≡ ys → Passes a held b left xs → Passes a held b left ys
passes_as a b held left xs ys is p = subst (Passes a held b left) is p

-- the way out of a `?`
pub puts_failed : {T E : Type 0} (r : Result T E) (a b : Option (List ℕ)) (held left text : List ℕ) → IsErr r → PassesFront a held b text → Puts a held b left r text
puts_failed (Ok x) a b held left text failed p = cc failed
puts_failed (Err x) a b held left text failed p = p

-- a text of which parts were put, and what is still to come
pub record IsOnItsWay (before : Option (List ℕ)) (held : List ℕ) (now : Option (List ℕ)) (left rest text : List ℕ) : Type 0 where
  pub done : List ℕ
  pub passed : Passes before held now left done
  pub parts : done ++ rest ≡ text

pub way_begins : (a : Option (List ℕ)) (held text : List ℕ) → IsOnItsWay a held a held text text
way_begins a held text = record { done = []; passed = passes_kept a held held [] (sym (append-nil held)); parts = refl }

pub way_more : (a b c : Option (List ℕ)) (held mid left rest piece next text : List ℕ) → rest ≡ piece ++ next → IsOnItsWay a held b mid rest text → Passes b mid c left piece
    → IsOnItsWay a held c left next text
way_more a b c held mid left rest piece next text is w p =
    record {
      done = w.done ++ piece;
      passed = passes_two a b c held mid left w.done piece w.passed p;
      parts = append_assoc w.done piece next ∙ ap (λ l. w.done ++ l) (sym is) ∙ w.parts;
    }

pub way_failed : (a b c : Option (List ℕ)) (held mid rest piece next text : List ℕ) → rest ≡ piece ++ next → IsOnItsWay a held b mid rest text → PassesFront b mid c piece
    → PassesFront a held c text
way_failed a b c held mid rest piece next text is w p =
    front_as a c held ((w.done ++ piece) ++ next) text (append_assoc w.done piece next ∙ ap (λ l. w.done ++ l) (sym is) ∙ w.parts)
    (front_first a c held (w.done ++ piece) next (front_second a b c held mid w.done piece w.passed p))

pub way_ends : (a b : Option (List ℕ)) (held left rest text : List ℕ) → rest ≡ [] → IsOnItsWay a held b left rest text → Passes a held b left text
way_ends a b held left rest text none w =
    passes_as a b held left w.done text (sym (append-nil w.done) ∙ ap (λ l. w.done ++ l) (sym none) ∙ w.parts) w.passed

-- all of a text went through an empty buffer, and then what the buffer held
pub passed_and_sent : (a b c : Option (List ℕ)) (held left text : List ℕ) → held ≡ [] → Passes a held b left text → Appends b c left → Appends a c text
passed_and_sent a b c held left text empty p sent =
    subst (Appends a c) (sym p.rest ∙ ap (λ l. l ++ text) empty) (Appends-trans a b c p.front left p.sent sent)

pub passed_and_stopped : (a b c : Option (List ℕ)) (held left text : List ℕ) → held ≡ [] → Passes a held b left text → AppendsFront b c left → AppendsFront a c text
passed_and_stopped a b c held left text empty p sent =
    subst (AppendsFront a c) (sym p.rest ∙ ap (λ l. l ++ text) empty) (front_more a b c p.front left p.sent sent)

pub sent_or_stopped : {T E : Type 0} (r : Result T E) (a b c : Option (List ℕ)) (held left text : List ℕ) → held ≡ [] → Passes a held b left text → OnOk r (Appends b c left) → OnErr r (AppendsFront b c left)
    → OnOk r (Appends a c text) × OnErr r (AppendsFront a c text)
sent_or_stopped (Ok x) a b c held left text empty p ok err = (passed_and_sent a b c held left text empty p ok, tt)
sent_or_stopped (Err x) a b c held left text empty p ok err = (tt, passed_and_stopped a b c held left text empty p err)

pub stopped_before : (a b : Option (List ℕ)) (held text : List ℕ) → held ≡ [] → PassesFront a held b text → AppendsFront a b text
stopped_before a b held text empty p = subst (AppendsFront a b) (ap (λ l. l ++ text) empty) p.sent
