-- The parser's moves, state by state.
use Rattle.viable.proofs.Runs.{run_valid}
use Rattle.std.proofs.Common.{◌≡◌, List, [], ◌∷◌, ℕ, ◌+◌, ◌<◌, length, drop, get_or, refl, sym, ap, subst, ◌∙◌, Some, None, Bool, true, false, not, ◌==◌, IsTrue, inl, inr, drop-cons, add-one}
use Rattle.std.proofs.lemmas.Bool.{cases_lt, not-true, eqb-true}
use Rattle.plain_lemmas.proofs.Options.{same_value}
use Rattle.constraint_parse.specs.Language.{is_digit, is_name_byte, Operator, equal, not_equal, less, less_equal, greater, greater_equal, matches, Token, name, number, argument, operator, comma, ampersand, dot, colon, open_bracket, close_bracket, open_brace, close_brace, ItemTree, path, call, StepTree, SlabTree, index, range, strided, ItemsTree, ClauseTree, ValueTree, among}
use Rattle.viable.specs.Runs.{ends_with, IsRunTo}
use Rattle.constraint_parse.specs.inner.Machine.{State, Naming, Stepped, Opened, SecondOpened, ThirdOpened, Numbered, SecondNumbered, ThirdNumbered, Called, ClauseNaming, ClauseNamed, Compared, Bracing, Braced, Clausal, step, finish, step_of, with_last}
use Rattle.constraint_parse.specs.inner.Standing.{StandsAt, IsFaultAt, IsPlace, Lacks, ReadsName, ReadsNumber, StandsBehind}
use Rattle.constraint_parse.proofs.Bytes.{name_not_blank, digit_not_blank, Opens}
use Rattle.constraint_parse.proofs.Places.{mark_passes, run_passes, Shuts, byte_faults, end_faults}
use Rattle.constraint_parse.proofs.Marks.{mark_open_bracket, mark_close_bracket, mark_comma, mark_ampersand, mark_open_brace, mark_close_brace, mark_dot, mark_colon}

-- in this place a byte of this class does not stand, so a state that wants a run of it faults
run_faults : {text : List ℕ} {at : ℕ} {s : State} (st : StandsAt text at s) (p : ℕ → Bool) (run : List ℕ)
    → IsPlace text at → IsRunTo p text at at run → finish s ≡ None
    → ((m : Token) (o : State) (b : ℕ) → step s m ≡ Some o → Opens m b → IsTrue (p b))
    → IsFaultAt text at
run_faults {text} {at} {s} st p run place r unfinished only =
    elim (cases_lt at (length text)) [
      | inl h ↦ byte_faults st h (not-true _ (place.unblank h))
          (λ m o e b.
          let y : p (get_or text at 0) ≡ true = only m o _ e b in
          let n : IsTrue (ends_with p (get_or text at 0 ∷ drop (at + 1) text)) = (let d : drop at text ≡ get_or text at 0 ∷ drop (at + 1) text = rw add-one (drop-cons text at 0 h) in rw d at r.longest) in
          (let q : not true ≡ true = ap not (sym y) ∙ n in cc))
      | inr h ↦ end_faults st h unfinished
    ]

-- a byte that is a mark is in no run
pub shut_by : (p : ℕ → Bool) (c b : ℕ) → p c ≡ false → IsTrue (b == c) → IsTrue (p b) → ⊥
shut_by p c b n e h = let y : p c ≡ true = subst (λ (x : ℕ). IsTrue (p x)) (eqb-true b c e) h in cc

stepped_shuts : (items : List ItemTree) (steps : List StepTree) (n : List ℕ) (slabs : List SlabTree) → Shuts (Stepped items steps n slabs) is_name_byte
stepped_shuts items steps n slabs open_bracket o b e h y = shut_by is_name_byte 91 b refl h y
stepped_shuts items steps n slabs dot o b e h y = shut_by is_name_byte 46 b refl h y
stepped_shuts items steps n slabs comma o b e h y = shut_by is_name_byte 44 b refl h y
stepped_shuts items steps n slabs ampersand o b e h y = shut_by is_name_byte 38 b refl h y
stepped_shuts items steps n slabs (argument a) o b e h y = shut_by is_name_byte 40 b refl h y
stepped_shuts items steps n slabs _ o b e h y = cc

clause_named_shuts : (items : ItemsTree) (clauses : List ClauseTree) (labels : List (List ℕ)) (n : List ℕ) → Shuts (ClauseNamed items clauses labels n) is_name_byte
clause_named_shuts items clauses labels n dot o b e h y = shut_by is_name_byte 46 b refl h y
clause_named_shuts items clauses labels n (argument a) o b e h y = shut_by is_name_byte 40 b refl h y
clause_named_shuts items clauses labels n (operator equal) o b e h y = shut_by is_name_byte 61 b refl h y
clause_named_shuts items clauses labels n (operator not_equal) o b e h y = shut_by is_name_byte 33 b refl h y
clause_named_shuts items clauses labels n (operator less) o b e h y = shut_by is_name_byte 60 b refl h y
clause_named_shuts items clauses labels n (operator less_equal) o b e h y = shut_by is_name_byte 60 b refl h y
clause_named_shuts items clauses labels n (operator greater) o b e h y = shut_by is_name_byte 62 b refl h y
clause_named_shuts items clauses labels n (operator greater_equal) o b e h y = shut_by is_name_byte 62 b refl h y
clause_named_shuts items clauses labels n (operator matches) o b e h y = shut_by is_name_byte 61 b refl h y
clause_named_shuts items clauses labels n _ o b e h y = cc

numbered_shuts : (items : List ItemTree) (steps : List StepTree) (n : List ℕ) (slabs : List SlabTree) (a : List ℕ) → Shuts (Numbered items steps n slabs a) is_digit
numbered_shuts items steps n slabs a colon o b e h y = shut_by is_digit 58 b refl h y
numbered_shuts items steps n slabs a close_bracket o b e h y = shut_by is_digit 93 b refl h y
numbered_shuts items steps n slabs a _ o b e h y = cc

numbered2_shuts : (items : List ItemTree) (steps : List StepTree) (n : List ℕ) (slabs : List SlabTree) (a a' : List ℕ) → Shuts (SecondNumbered items steps n slabs a a') is_digit
numbered2_shuts items steps n slabs a a' colon o b e h y = shut_by is_digit 58 b refl h y
numbered2_shuts items steps n slabs a a' close_bracket o b e h y = shut_by is_digit 93 b refl h y
numbered2_shuts items steps n slabs a a' _ o b e h y = cc

numbered3_shuts : (items : List ItemTree) (steps : List StepTree) (n : List ℕ) (slabs : List SlabTree) (a a' a'' : List ℕ) → Shuts (ThirdNumbered items steps n slabs a a' a'') is_digit
numbered3_shuts items steps n slabs a a' a'' close_bracket o b e h y = shut_by is_digit 93 b refl h y
numbered3_shuts items steps n slabs a a' a'' _ o b e h y = cc

-- a name leads on to a state in which no byte of a name may follow
pub name_only : (s : State) → ReadsName s → (m : Token) (o : State) → step s m ≡ Some o → (x : List ℕ) × (m ≡ name x) × Shuts o is_name_byte
name_only (Naming items steps) k (name x) o e = (x, refl, subst (λ (z : State). Shuts z is_name_byte) (same_value _ o e) (stepped_shuts items steps x []))
name_only (Naming items steps) k _ o e = cc
name_only (ClauseNaming items clauses labels) k (name x) o e = (x, refl, subst (λ (z : State). Shuts z is_name_byte) (same_value _ o e) (clause_named_shuts items clauses labels x))
name_only (ClauseNaming items clauses labels) k _ o e = cc
name_only _ k m o e = absurd k

pub number_only : (s : State) → ReadsNumber s → (m : Token) (o : State) → step s m ≡ Some o → (x : List ℕ) × (m ≡ number x) × Shuts o is_digit
number_only (Opened items steps n slabs) k (number x) o e = (x, refl, subst (λ (z : State). Shuts z is_digit) (same_value _ o e) (numbered_shuts items steps n slabs x))
number_only (Opened items steps n slabs) k _ o e = cc
number_only (SecondOpened items steps n slabs a) k (number x) o e = (x, refl, subst (λ (z : State). Shuts z is_digit) (same_value _ o e) (numbered2_shuts items steps n slabs a x))
number_only (SecondOpened items steps n slabs a) k _ o e = cc
number_only (ThirdOpened items steps n slabs a b) k (number x) o e = (x, refl, subst (λ (z : State). Shuts z is_digit) (same_value _ o e) (numbered3_shuts items steps n slabs a b x))
number_only (ThirdOpened items steps n slabs a b) k _ o e = cc
number_only _ k m o e = absurd k

name_unfinished : (s : State) → ReadsName s → finish s ≡ None
name_unfinished (Naming items steps) k = refl
name_unfinished (ClauseNaming items clauses labels) k = refl
name_unfinished _ k = absurd k

number_unfinished : (s : State) → ReadsNumber s → finish s ≡ None
number_unfinished (Opened items steps n slabs) k = refl
number_unfinished (SecondOpened items steps n slabs a) k = refl
number_unfinished (ThirdOpened items steps n slabs a b) k = refl
number_unfinished _ k = absurd k

pub name_passes : {text : List ℕ} {at : ℕ} {s : State} (st : StandsAt text at s) → ReadsName s → (to : ℕ) (run : List ℕ) → IsRunTo is_name_byte text at to run → at < to → StandsBehind text to s (name run)
name_passes {text} {at} {s} st k to run r lt next e =
    run_passes st name is_name_byte to run next r lt (λ x. refl) (run_valid is_name_byte) (λ h. h) e name_not_blank (λ m o b q h y. name_only s k m o q)

pub number_passes : {text : List ℕ} {at : ℕ} {s : State} (st : StandsAt text at s) → ReadsNumber s → (to : ℕ) (run : List ℕ) → IsRunTo is_digit text at to run → at < to → StandsBehind text to s (number run)
number_passes {text} {at} {s} st k to run r lt next e =
    run_passes st number is_digit to run next r lt (λ x. refl) (run_valid is_digit) (λ h. h) e digit_not_blank (λ m o b q h y. number_only s k m o q)

pub name_faults : {text : List ℕ} {at : ℕ} {s : State} (st : StandsAt text at s) → ReadsName s → IsPlace text at → (run : List ℕ) → IsRunTo is_name_byte text at at run → IsFaultAt text at
name_faults {text} {at} {s} st k place run r = run_faults st is_name_byte run place r (name_unfinished s k)
    (λ m o b e h. let (x, is, shut) = name_only s k m o e in subst (λ (t : Token). Opens t b) is h)

pub number_faults : {text : List ℕ} {at : ℕ} {s : State} (st : StandsAt text at s) → ReadsNumber s → IsPlace text at → (run : List ℕ) → IsRunTo is_digit text at at run → IsFaultAt text at
number_faults {text} {at} {s} st k place run r = run_faults st is_digit run place r (number_unfinished s k)
    (λ m o b e h. let (x, is, shut) = number_only s k m o e in subst (λ (t : Token). Opens t b) is h)

-- this byte leads on

pub stepped_open : {text : List ℕ} {at : ℕ} {items : List ItemTree} {steps : List StepTree} {n : List ℕ} {slabs : List SlabTree} → StandsAt text at (Stepped items steps n slabs) → at < length text → get_or text at 0 ≡ 91 → StandsAt text (at + 1) (Opened items steps n slabs)
stepped_open st h b = mark_passes st open_bracket 91 _ h b refl refl refl (λ m o e k. mark_open_bracket m k)

pub stepped_dot : {text : List ℕ} {at : ℕ} {items : List ItemTree} {steps : List StepTree} {n : List ℕ} {slabs : List SlabTree} → StandsAt text at (Stepped items steps n slabs) → at < length text → get_or text at 0 ≡ 46 → StandsAt text (at + 1) (Naming items (with_last steps (step_of n slabs)))
stepped_dot {text} {at} {items} {steps} {n} {slabs} st h b = mark_passes st dot 46 _ h b refl refl refl (λ m o e k. mark_dot m (λ x is. let f = subst (λ (t : Token). step (Stepped items steps n slabs) t ≡ Some o) is e in cc) k)

pub stepped_comma : {text : List ℕ} {at : ℕ} {items : List ItemTree} {steps : List StepTree} {n : List ℕ} {slabs : List SlabTree} → StandsAt text at (Stepped items steps n slabs) → at < length text → get_or text at 0 ≡ 44 → StandsAt text (at + 1) (Naming (with_last items (path steps (step_of n slabs))) [])
stepped_comma st h b = mark_passes st comma 44 _ h b refl refl refl (λ m o e k. mark_comma m k)

pub called_comma : {text : List ℕ} {at : ℕ} {items : List ItemTree} {n a : List ℕ} → StandsAt text at (Called items n a) → at < length text → get_or text at 0 ≡ 44 → StandsAt text (at + 1) (Naming (with_last items (call n a)) [])
called_comma st h b = mark_passes st comma 44 _ h b refl refl refl (λ m o e k. mark_comma m k)

pub numbered_colon : {text : List ℕ} {at : ℕ} {items : List ItemTree} {steps : List StepTree} {n : List ℕ} {slabs : List SlabTree} {a : List ℕ} → StandsAt text at (Numbered items steps n slabs a) → at < length text → get_or text at 0 ≡ 58 → StandsAt text (at + 1) (SecondOpened items steps n slabs a)
numbered_colon {text} {at} {items} {steps} {n} {slabs} {a} st h b = mark_passes st colon 58 _ h b refl refl refl (λ m o e k. mark_colon m (λ x is. let f = subst (λ (t : Token). step (Numbered items steps n slabs a) t ≡ Some o) is e in cc) k)

pub numbered2_colon : {text : List ℕ} {at : ℕ} {items : List ItemTree} {steps : List StepTree} {n : List ℕ} {slabs : List SlabTree} {a b' : List ℕ} → StandsAt text at (SecondNumbered items steps n slabs a b') → at < length text → get_or text at 0 ≡ 58 → StandsAt text (at + 1) (ThirdOpened items steps n slabs a b')
numbered2_colon {text} {at} {items} {steps} {n} {slabs} {a} {b'} st h b = mark_passes st colon 58 _ h b refl refl refl (λ m o e k. mark_colon m (λ x is. let f = subst (λ (t : Token). step (SecondNumbered items steps n slabs a b') t ≡ Some o) is e in cc) k)

pub numbered_close : {text : List ℕ} {at : ℕ} {items : List ItemTree} {steps : List StepTree} {n : List ℕ} {slabs : List SlabTree} {a : List ℕ} → StandsAt text at (Numbered items steps n slabs a) → at < length text → get_or text at 0 ≡ 93 → StandsAt text (at + 1) (Stepped items steps n (with_last slabs (index a)))
numbered_close st h b = mark_passes st close_bracket 93 _ h b refl refl refl (λ m o e k. mark_close_bracket m k)

pub numbered2_close : {text : List ℕ} {at : ℕ} {items : List ItemTree} {steps : List StepTree} {n : List ℕ} {slabs : List SlabTree} {a b' : List ℕ} → StandsAt text at (SecondNumbered items steps n slabs a b') → at < length text → get_or text at 0 ≡ 93 → StandsAt text (at + 1) (Stepped items steps n (with_last slabs (range a b')))
numbered2_close st h b = mark_passes st close_bracket 93 _ h b refl refl refl (λ m o e k. mark_close_bracket m k)

pub numbered3_close : {text : List ℕ} {at : ℕ} {items : List ItemTree} {steps : List StepTree} {n : List ℕ} {slabs : List SlabTree} {a s' b' : List ℕ} → StandsAt text at (ThirdNumbered items steps n slabs a s' b') → at < length text → get_or text at 0 ≡ 93 → StandsAt text (at + 1) (Stepped items steps n (with_last slabs (strided a s' b')))
numbered3_close st h b = mark_passes st close_bracket 93 _ h b refl refl refl (λ m o e k. mark_close_bracket m k)

pub clausal_ampersand : {text : List ℕ} {at : ℕ} {items : ItemsTree} {clauses : List ClauseTree} → StandsAt text at (Clausal items clauses) → at < length text → get_or text at 0 ≡ 38 → StandsAt text (at + 1) (ClauseNaming items clauses [])
clausal_ampersand st h b = mark_passes st ampersand 38 _ h b refl refl refl (λ m o e k. mark_ampersand m k)

pub clause_named_dot : {text : List ℕ} {at : ℕ} {items : ItemsTree} {clauses : List ClauseTree} {labels : List (List ℕ)} {n : List ℕ} → StandsAt text at (ClauseNamed items clauses labels n) → at < length text → get_or text at 0 ≡ 46 → StandsAt text (at + 1) (ClauseNaming items clauses (with_last labels n))
clause_named_dot {text} {at} {items} {clauses} {labels} {n} st h b = mark_passes st dot 46 _ h b refl refl refl (λ m o e k. mark_dot m (λ x is. let f = subst (λ (t : Token). step (ClauseNamed items clauses labels n) t ≡ Some o) is e in cc) k)

pub compared_open : {text : List ℕ} {at : ℕ} {items : ItemsTree} {clauses : List ClauseTree} {labels : List (List ℕ)} {n : List ℕ} {o' : Operator} → StandsAt text at (Compared items clauses labels n o') → at < length text → get_or text at 0 ≡ 123 → StandsAt text (at + 1) (Bracing items clauses labels n o' [])
compared_open st h b = mark_passes st open_brace 123 _ h b refl refl refl (λ m o e k. mark_open_brace m k)

pub braced_comma : {text : List ℕ} {at : ℕ} {items : ItemsTree} {clauses : List ClauseTree} {labels : List (List ℕ)} {n : List ℕ} {o' : Operator} {values : List ValueTree} {value : ValueTree} → StandsAt text at (Braced items clauses labels n o' values value) → at < length text → get_or text at 0 ≡ 44 → StandsAt text (at + 1) (Bracing items clauses labels n o' (with_last values value))
braced_comma st h b = mark_passes st comma 44 _ h b refl refl refl (λ m o e k. mark_comma m k)

pub braced_close : {text : List ℕ} {at : ℕ} {items : ItemsTree} {clauses : List ClauseTree} {labels : List (List ℕ)} {n : List ℕ} {o' : Operator} {values : List ValueTree} {value : ValueTree} → StandsAt text at (Braced items clauses labels n o' values value) → at < length text → get_or text at 0 ≡ 125 → StandsAt text (at + 1) (Clausal items (with_last clauses (among labels n o' values value)))
braced_close st h b = mark_passes st close_brace 125 _ h b refl refl refl (λ m o e k. mark_close_brace m k)

-- no token of the state begins at the place, and the text may not end there
pub state_faults : {text : List ℕ} {at : ℕ} {s : State} (st : StandsAt text at s) → IsPlace text at → finish s ≡ None
    → ((m : Token) (o : State) → step s m ≡ Some o → at < length text → Opens m (get_or text at 0) → ⊥) → IsFaultAt text at
state_faults {text} {at} {s} st place unfinished only =
    elim (cases_lt at (length text)) [
      | inl h ↦ byte_faults st h (not-true _ (place.unblank h)) (λ m o e k. only m o e h k)
      | inr h ↦ end_faults st h unfinished
    ]

-- A byte stands at the place from which no token of the state begins.
pub byte_stands_faults : {text : List ℕ} {at : ℕ} {s : State} (st : StandsAt text at s) → IsPlace text at → at < length text
    → ((m : Token) (o : State) → step s m ≡ Some o → Opens m (get_or text at 0) → ⊥) → IsFaultAt text at
byte_stands_faults {text} {at} {s} st place h only = byte_faults st h (not-true _ (place.unblank h)) only

-- faults at marks
pub numbered_faults : {text : List ℕ} {at : ℕ} {items : List ItemTree} {steps : List StepTree} {n : List ℕ} {slabs : List SlabTree} {a : List ℕ}
    → StandsAt text at (Numbered items steps n slabs a) → IsPlace text at → Lacks text at 58 → Lacks text at 93 → IsFaultAt text at
numbered_faults {text} {at} {items} {steps} {n} {slabs} {a} st place x y = state_faults st place refl only
  where
    only : (m : Token) (o : State) → step (Numbered items steps n slabs a) m ≡ Some o → at < length text → Opens m (get_or text at 0) → ⊥
    only colon o e h k = x h (eqb-true _ 58 k)
    only close_bracket o e h k = y h (eqb-true _ 93 k)
    only _ o e h k = cc

pub numbered2_faults : {text : List ℕ} {at : ℕ} {items : List ItemTree} {steps : List StepTree} {n : List ℕ} {slabs : List SlabTree} {a b' : List ℕ}
    → StandsAt text at (SecondNumbered items steps n slabs a b') → IsPlace text at → Lacks text at 58 → Lacks text at 93 → IsFaultAt text at
numbered2_faults {text} {at} {items} {steps} {n} {slabs} {a} {b'} st place x y = state_faults st place refl only
  where
    only : (m : Token) (o : State) → step (SecondNumbered items steps n slabs a b') m ≡ Some o → at < length text → Opens m (get_or text at 0) → ⊥
    only colon o e h k = x h (eqb-true _ 58 k)
    only close_bracket o e h k = y h (eqb-true _ 93 k)
    only _ o e h k = cc

pub numbered3_faults : {text : List ℕ} {at : ℕ} {items : List ItemTree} {steps : List StepTree} {n : List ℕ} {slabs : List SlabTree} {a s' b' : List ℕ}
    → StandsAt text at (ThirdNumbered items steps n slabs a s' b') → IsPlace text at → Lacks text at 93 → IsFaultAt text at
numbered3_faults {text} {at} {items} {steps} {n} {slabs} {a} {s'} {b'} st place y = state_faults st place refl only
  where
    only : (m : Token) (o : State) → step (ThirdNumbered items steps n slabs a s' b') m ≡ Some o → at < length text → Opens m (get_or text at 0) → ⊥
    only close_bracket o e h k = y h (eqb-true _ 93 k)
    only _ o e h k = cc

-- a byte that begins no clause, where only a clause may follow
pub clausal_faults : {text : List ℕ} {at : ℕ} {items : ItemsTree} {clauses : List ClauseTree}
    → StandsAt text at (Clausal items clauses) → IsPlace text at → at < length text → Lacks text at 38 → IsFaultAt text at
clausal_faults {text} {at} {items} {clauses} st place h x = byte_stands_faults st place h only
  where
    only : (m : Token) (o : State) → step (Clausal items clauses) m ≡ Some o → Opens m (get_or text at 0) → ⊥
    only ampersand o e k = x h (eqb-true _ 38 k)
    only _ o e k = cc
