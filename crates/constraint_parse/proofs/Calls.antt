-- Calls: a name and an argument in parentheses.
use Rattle.std.proofs.Common.{◌≡◌, List, [], ◌∷◌, ◌++◌, ℕ, ◌+◌, ◌<◌, length, drop, get_or, refl, sym, ap, subst, ◌∙◌, append_assoc, Some, true, IsTrue, arith, inl, inr, drop-cons, add-one, length-append}
use Rattle.std.specs.List.{list_all}
use Rattle.std.proofs.lemmas.Bool.{cases_lt}
use Rattle.std.proofs.lemmas.List.{drop_all}
use Rattle.plain_lemmas.proofs.Lists.{has_item}
use Rattle.viable.proofs.Standing.{faults_inside}
use Rattle.constraint_parse.specs.Language.{is_argument_byte, equal, not_equal, less, less_equal, greater, greater_equal, matches, Token, argument, operator, token_bytes, is_token, ConstraintTree, call_clause}
use Rattle.constraint_parse.specs.inner.Machine.{State, Stepped, Called, ClauseNamed, Clausal, step, with_last}
use Rattle.constraint_parse.specs.inner.Standing.{Rest, StandsAt, IsFaultAt, Lacks, ReadsCall}
use Rattle.viable.specs.Runs.{ends_with, IsRunTo}
use Rattle.constraint_parse.proofs.Bytes.{Opens, opened}
use Rattle.constraint_parse.proofs.Places.{steps_of, token_passes, next_byte, rest_back, live}
use Rattle.viable.proofs.Runs.{run_unique}

pub argument_opens : (m : Token) → Opens m 40 → (a : List ℕ) × (m ≡ argument a)
argument_opens (argument a) h = (a, refl)
argument_opens (operator equal) h = cc
argument_opens (operator not_equal) h = cc
argument_opens (operator less) h = cc
argument_opens (operator less_equal) h = cc
argument_opens (operator greater) h = cc
argument_opens (operator greater_equal) h = cc
argument_opens (operator matches) h = cc
argument_opens _ h = cc

-- The first token of what begins with an opening parenthesis is an argument.
argument_first : (s : State) (bs : List ℕ) (tree : ConstraintTree) → Rest s (40 ∷ bs) tree → (a rest : List ℕ) × IsTrue (list_all is_argument_byte a) × (bs ≡ a ++ 41 ∷ rest)
argument_first s bs tree r =
    let f = steps_of s 40 bs tree refl r in
    let (a, is) = argument_opens f.first (opened f.first 40 bs f.rest f.is_one f.bytes_are) in
    let ok : IsTrue (list_all is_argument_byte a) = subst (λ (t : Token). IsTrue (is_token t)) is f.is_one in
    let e : 40 ∷ bs ≡ (40 ∷ a ++ 41 ∷ []) ++ f.rest = f.bytes_are ∙ ap (λ (t : Token). token_bytes t ++ f.rest) is in
    let e' : bs ≡ (a ++ 41 ∷ []) ++ f.rest = cc in
    (a, f.rest, ok, e' ∙ append_assoc a (41 ∷ []) f.rest)

-- the byte that comes next, read from the text
pub byte_is : (text : List ℕ) (at c : ℕ) (cs : List ℕ) → drop at text ≡ c ∷ cs → (at < length text) × (get_or text at 0 ≡ c)
byte_is text at c cs e = elim (cases_lt at (length text)) [
  | inl h ↦ (h, (let d : get_or text at 0 ∷ drop (at + 1) text ≡ c ∷ cs = sym (rw add-one (drop-cons text at 0 h)) ∙ e in cc))
  | inr h ↦ absurd (let d : [] ≡ c ∷ cs = sym (drop_all at text h) ∙ e in cc)
]

parts_of : {text : List ℕ} {at : ℕ} {s : State} (st : StandsAt text at s) (end : ℕ) (run : List ℕ) → at < length text → get_or text at 0 ≡ 40 → IsRunTo is_argument_byte text (at + 1) end run → st.after ≡ (40 ∷ run) ++ drop end text
parts_of {text} {at} st end run h b r = next_byte st h ∙ ap (λ (x : ℕ). x ∷ drop (at + 1) text) b ∙ ap (λ (x : List ℕ). 40 ∷ x) r.is_run_of.whole

pub argument_passes : {text : List ℕ} {at : ℕ} {s : State} (st : StandsAt text at s) (end : ℕ) (run : List ℕ) → at < length text → get_or text at 0 ≡ 40 → IsRunTo is_argument_byte text (at + 1) end run
    → end < length text → get_or text end 0 ≡ 41 → (next : State) → step s (argument run) ≡ Some next → StandsAt text (end + 1) next
argument_passes {text} {at} {s} st end run h b r h' b' next e =
    let closing : drop end text ≡ 41 ∷ drop (end + 1) text = (let d : drop end text ≡ get_or text end 0 ∷ drop (end + 1) text = rw add-one (drop-cons text end 0 h') in d ∙ ap (λ (x : ℕ). x ∷ drop (end + 1) text) b') in
    token_passes st (argument run) next (drop (end + 1) text) (end + 1)
    (parts_of st end run h b r ∙ ap (λ (x : List ℕ). (40 ∷ run) ++ x) closing ∙ sym (append_assoc (40 ∷ run) (41 ∷ []) (drop (end + 1) text)))
    (let p : end ≡ (at + 1) + length run = r.is_run_of.to_is in omega (arith, p, length-append (40 ∷ run) (41 ∷ [])))
    r.is_run_of.of_class e
    (λ more tree same f.
    let (a, is) = argument_opens f.first (opened f.first 40 ((run ++ 41 ∷ []) ++ more) f.rest f.is_one f.bytes_are) in
    let ok : IsTrue (list_all is_argument_byte a) = subst (λ (t : Token). IsTrue (is_token t)) is f.is_one in
    let e1 : 40 ∷ ((run ++ 41 ∷ []) ++ more) ≡ 40 ∷ ((a ++ 41 ∷ []) ++ f.rest) = f.bytes_are ∙ ap (λ (t : Token). token_bytes t ++ f.rest) is in
    let e2 : (run ++ 41 ∷ []) ++ more ≡ (a ++ 41 ∷ []) ++ f.rest = cc in
    let e3 : run ++ 41 ∷ more ≡ a ++ 41 ∷ f.rest = sym (append_assoc run (41 ∷ []) more) ∙ e2 ∙ append_assoc a (41 ∷ []) f.rest in
    let (one, rest) = run_unique is_argument_byte run a (41 ∷ more) (41 ∷ f.rest) e3 r.is_run_of.of_class ok refl refl in
    (is ∙ ap argument (sym one), (let q : f.rest ≡ more = cc in q)))

pub argument_faults : {text : List ℕ} {at : ℕ} {s : State} (st : StandsAt text at s) (end : ℕ) (run : List ℕ) → at < length text → get_or text at 0 ≡ 40 → IsRunTo is_argument_byte text (at + 1) end run
    → Lacks text end 41 → (next : State) → step s (argument run) ≡ Some next → IsFaultAt text end
argument_faults {text} {at} {s} st end run h b r lacks next e =
    let l = live next in
    faults_inside st (40 ∷ run) (drop end text) end (parts_of st end run h b r)
    (let p : end ≡ (at + 1) + length run = r.is_run_of.to_is in omega (arith, p))
    (41 ∷ l.0, l.1, l.2, subst (λ (x : List ℕ). Rest s x l.2) (append_assoc (40 ∷ run) (41 ∷ []) l.0) (rest_back s next (argument run) l.0 l.2 e r.is_run_of.of_class l.3))
    (λ nil v q.
    let (a, rest, ok, is) = argument_first s run v q in
    let y : is_argument_byte 41 ≡ true = has_item is_argument_byte a 41 rest (subst (λ (x : List ℕ). IsTrue (list_all is_argument_byte x)) is r.is_run_of.of_class) in cc)
    (λ c cs is more v q.
    let (a, rest, ok, e1) = argument_first s (run ++ c ∷ more) v q in
    let n : IsTrue (ends_with is_argument_byte (c ∷ cs)) = subst (λ (x : List ℕ). IsTrue (ends_with is_argument_byte x)) is r.longest in
    let (one, tail) = run_unique is_argument_byte run a (c ∷ more) (41 ∷ rest) e1 r.is_run_of.of_class ok n refl in
    let byte : c ≡ 41 = cc in
    let (within, there) = byte_is text end c cs is in
    lacks within (there ∙ byte))

pub call_passes : (s : State) → ReadsCall s → (run : List ℕ) → (next : State) × (step s (argument run) ≡ Some next)
call_passes (Stepped items [] n []) k run = (Called items n run, refl)
call_passes (ClauseNamed items clauses [] n) k run = (Clausal items (with_last clauses (call_clause n run)), refl)
call_passes _ k run = absurd k
