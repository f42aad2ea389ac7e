-- Operators: which stands at a place.
use Rattle.std.proofs.Common.{◌≡◌, List, [], ◌∷◌, ◌++◌, ℕ, ◌+◌, ◌<◌, length, drop, get_or, refl, ap, subst, ◌∙◌, Some, Bool, true, false, ◌||◌, ◌==◌, IsTrue, arith, inl, inr, drop-cons, add-one}
use Rattle.std.proofs.lemmas.Bool.{eqb-true, eqb-false, ne_eqb, cases_lt}
use Rattle.std.proofs.lemmas.List.{drop_all}
use Rattle.viable.specs.inner.Standing.{SameHead}
use Rattle.viable.proofs.Standing.{faults_inside}
use Rattle.constraint_parse.specs.Language.{is_blank, is_word_byte, Operator, equal, not_equal, less, less_equal, greater, greater_equal, matches, operator_bytes, Token, name, number, word, argument, quoted, operator, dot, open_brace, token_bytes, ItemsTree, ClauseTree, ConstraintTree}
use Rattle.constraint_parse.specs.inner.Machine.{State, ClauseNamed, Compared, step}
use Rattle.constraint_parse.specs.inner.Standing.{Rest, StandsAt, IsFaultAt, IsPlace, Lacks}
use Rattle.viable.specs.Runs.{ends_with}
use Rattle.viable.proofs.Tests.{or_parts}
use Rattle.constraint_parse.proofs.Bytes.{Opens, opened}
use Rattle.constraint_parse.proofs.Places.{steps_of, token_passes, next_byte, Shuts, ends_before}
use Rattle.viable.proofs.Runs.{same_end}
use Rattle.constraint_parse.proofs.Moves.{state_faults}
use Rattle.constraint_parse.proofs.Calls.{byte_is}

apart : {b c : ℕ} {bs cs : List ℕ} → b ∷ bs ≡ c ∷ cs → (b == c) ≡ false → ⊥
apart {b} {c} {bs} {cs} e n = eqb-false b c n (let h : b ≡ c = cc in h)

-- a byte with which an operator may go on
unfoldable pub tail_byte : ℕ → Bool
tail_byte b = b == 126 || b == 61

abbrev pub NextOk : Operator → List ℕ → Type 0
NextOk equal more = IsTrue (ends_with (λ b. b == 126) more)
NextOk less more = IsTrue (ends_with (λ b. b == 61) more)
NextOk greater more = IsTrue (ends_with (λ b. b == 61) more)
NextOk _ more = Unit {0}

next_ok_same : (o : Operator) (xs ys : List ℕ) → SameHead xs ys → NextOk o ys → NextOk o xs
next_ok_same equal xs ys h n = same_end (λ b. b == 126) xs ys h n
next_ok_same less xs ys h n = same_end (λ b. b == 61) xs ys h n
next_ok_same greater xs ys h n = same_end (λ b. b == 61) xs ys h n
next_ok_same _ xs ys h n = tt

pub compared_shuts : (items : ItemsTree) (clauses : List ClauseTree) (front : List (List ℕ)) (n : List ℕ) (o : Operator) → Shuts (Compared items clauses front n o) tail_byte
unfolding tail_byte
compared_shuts items clauses front n o (quoted p) next b e h y = elim (or_parts _ _ y) [
  | inl t ↦ (let z : (126 == 34) ≡ true = subst (λ (x : ℕ). IsTrue (x == 34)) (eqb-true b 126 t) h in cc)
  | inr t ↦ (let z : (61 == 34) ≡ true = subst (λ (x : ℕ). IsTrue (x == 34)) (eqb-true b 61 t) h in cc)
]
compared_shuts items clauses front n o open_brace next b e h y = elim (or_parts _ _ y) [
  | inl t ↦ (let z : (126 == 123) ≡ true = subst (λ (x : ℕ). IsTrue (x == 123)) (eqb-true b 126 t) h in cc)
  | inr t ↦ (let z : (61 == 123) ≡ true = subst (λ (x : ℕ). IsTrue (x == 123)) (eqb-true b 61 t) h in cc)
]
compared_shuts items clauses front n o (word w) next b e h y = elim (or_parts _ _ y) [
  | inl t ↦ (let z : is_word_byte 126 ≡ true = subst (λ (x : ℕ). IsTrue (is_word_byte x)) (eqb-true b 126 t) h in cc)
  | inr t ↦ (let z : is_word_byte 61 ≡ true = subst (λ (x : ℕ). IsTrue (is_word_byte x)) (eqb-true b 61 t) h in cc)
]
compared_shuts items clauses front n o _ next b e h y = cc

pub tail_unblank : (b : ℕ) → IsTrue (tail_byte b) → is_blank b ≡ false
unfolding tail_byte
tail_unblank b y = elim (or_parts _ _ y) [ inl t ↦ rw (eqb-true b 126 t) refl | inr t ↦ rw (eqb-true b 61 t) refl ]

pub pick : (o o' : Operator) (more rest : List ℕ) → operator_bytes o ++ more ≡ operator_bytes o' ++ rest → NextOk o more → IsTrue (ends_with tail_byte rest) → (o' ≡ o) × (rest ≡ more)
unfolding tail_byte
pick equal equal more rest e n t = (refl, (let h : rest ≡ more = cc in h))
pick not_equal not_equal more rest e n t = (refl, (let h : rest ≡ more = cc in h))
pick less less more rest e n t = (refl, (let h : rest ≡ more = cc in h))
pick less_equal less_equal more rest e n t = (refl, (let h : rest ≡ more = cc in h))
pick greater greater more rest e n t = (refl, (let h : rest ≡ more = cc in h))
pick greater_equal greater_equal more rest e n t = (refl, (let h : rest ≡ more = cc in h))
pick matches matches more rest e n t = (refl, (let h : rest ≡ more = cc in h))
pick equal matches more rest e n t = absurd (let m : more ≡ 126 ∷ rest = cc in let k : IsTrue (ends_with (λ b. b == 126) (126 ∷ rest)) = subst (λ (x : List ℕ). IsTrue (ends_with (λ b. b == 126) x)) m n in cc)
pick matches equal more rest e n t = absurd (let m : rest ≡ 126 ∷ more = cc in let k : IsTrue (ends_with (λ b. b == 126 || b == 61) (126 ∷ more)) = subst (λ (x : List ℕ). IsTrue (ends_with (λ b. b == 126 || b == 61) x)) m t in cc)
pick less less_equal more rest e n t = absurd (let m : more ≡ 61 ∷ rest = cc in let k : IsTrue (ends_with (λ b. b == 61) (61 ∷ rest)) = subst (λ (x : List ℕ). IsTrue (ends_with (λ b. b == 61) x)) m n in cc)
pick less_equal less more rest e n t = absurd (let m : rest ≡ 61 ∷ more = cc in let k : IsTrue (ends_with (λ b. b == 126 || b == 61) (61 ∷ more)) = subst (λ (x : List ℕ). IsTrue (ends_with (λ b. b == 126 || b == 61) x)) m t in cc)
pick greater greater_equal more rest e n t = absurd (let m : more ≡ 61 ∷ rest = cc in let k : IsTrue (ends_with (λ b. b == 61) (61 ∷ rest)) = subst (λ (x : List ℕ). IsTrue (ends_with (λ b. b == 61) x)) m n in cc)
pick greater_equal greater more rest e n t = absurd (let m : rest ≡ 61 ∷ more = cc in let k : IsTrue (ends_with (λ b. b == 126 || b == 61) (61 ∷ more)) = subst (λ (x : List ℕ). IsTrue (ends_with (λ b. b == 126 || b == 61) x)) m t in cc)
pick _ _ more rest e n t = absurd (apart e refl)

no_dot : (o : Operator) (more rest : List ℕ) → operator_bytes o ++ more ≡ 46 ∷ rest → ⊥
no_dot equal more rest e = apart e refl
no_dot not_equal more rest e = apart e refl
no_dot less more rest e = apart e refl
no_dot less_equal more rest e = apart e refl
no_dot greater more rest e = apart e refl
no_dot greater_equal more rest e = apart e refl
no_dot matches more rest e = apart e refl

no_call : (o : Operator) (more rest : List ℕ) → operator_bytes o ++ more ≡ 40 ∷ rest → ⊥
no_call equal more rest e = apart e refl
no_call not_equal more rest e = apart e refl
no_call less more rest e = apart e refl
no_call less_equal more rest e = apart e refl
no_call greater more rest e = apart e refl
no_call greater_equal more rest e = apart e refl
no_call matches more rest e = apart e refl

pub kind : (items : ItemsTree) (clauses : List ClauseTree) (front : List (List ℕ)) (n : List ℕ) (o : Operator) (m : Token) (next : State) (more rest : List ℕ)
    → step (ClauseNamed items clauses front n) m ≡ Some next → operator_bytes o ++ more ≡ token_bytes m ++ rest
    → (o' : Operator) × (m ≡ operator o') × (Compared items clauses front n o' ≡ next)
kind items clauses front n o (operator o') next more rest e b = (o', refl, (let h : Compared items clauses front n o' ≡ next = cc in h))
kind items clauses front n o dot next more rest e b = absurd (no_dot o more rest b)
kind items clauses front n o (argument a) next more rest e b = absurd (no_call o more _ b)
kind items clauses front n o _ next more rest e b = cc

pub operator_passes : {text : List ℕ} {at : ℕ} {items : ItemsTree} {clauses : List ClauseTree} {front : List (List ℕ)} {n : List ℕ} (st : StandsAt text at (ClauseNamed items clauses front n)) (o : Operator) (rest : List ℕ) (to : ℕ)
    → st.after ≡ operator_bytes o ++ rest → to ≡ at + length (operator_bytes o) → NextOk o rest → StandsAt text to (Compared items clauses front n o)
operator_passes {text} {at} {items} {clauses} {front} {n} st o rest to e p ok =
    token_passes st (operator o) (Compared items clauses front n o) rest to e p refl refl
    (λ more tree same f.
    let (o', is, nx) = kind items clauses front n o f.first f.next more f.rest f.step_is f.bytes_are in
    let e1 : operator_bytes o ++ more ≡ operator_bytes o' ++ f.rest = f.bytes_are ∙ ap (λ (t : Token). token_bytes t ++ f.rest) is in
    let shut : Shuts f.next tail_byte = subst (λ (x : State). Shuts x tail_byte) nx (compared_shuts items clauses front n o') in
    let (one, tail) = pick o o' more f.rest e1 (next_ok_same o more rest same ok) (ends_before f.next tail_byte tail_unblank shut f.rest tree f.goes_on) in
    (is ∙ ap operator one, tail))

pub after_one : {text : List ℕ} {at : ℕ} {s : State} (st : StandsAt text at s) (c : ℕ) → at < length text → get_or text at 0 ≡ c → st.after ≡ c ∷ drop (at + 1) text
after_one {text} {at} {s} st c h b = next_byte st h ∙ ap (λ (x : ℕ). x ∷ drop (at + 1) text) b

pub after_two : {text : List ℕ} {at : ℕ} {s : State} (st : StandsAt text at s) (c d : ℕ) → at < length text → get_or text at 0 ≡ c → at + 1 < length text → get_or text (at + 1) 0 ≡ d → st.after ≡ c ∷ d ∷ drop (at + 2) text
after_two {text} {at} {s} st c d h b h' b' =
    let two : at + 1 + 1 ≡ at + 2 = omega arith in
    let more : drop (at + 1) text ≡ get_or text (at + 1) 0 ∷ drop (at + 1 + 1) text = (let z : drop (at + 1) text ≡ get_or text (at + 1) 0 ∷ drop ((at + 1) + 1) text = drop_next text (at + 1) h' in z) in
    after_one st c h b ∙ ap (λ (x : List ℕ). c ∷ x) (more ∙ ap (λ (x : ℕ). x ∷ drop (at + 1 + 1) text) b' ∙ ap (λ (k : ℕ). d ∷ drop k text) two)
  where
    drop_next : (text : List ℕ) (i : ℕ) → i < length text → drop i text ≡ get_or text i 0 ∷ drop (i + 1) text
    drop_next text i h = rw add-one (drop-cons text i 0 h)

pub lacks_ends : (text : List ℕ) (at c : ℕ) → Lacks text at c → IsTrue (ends_with (λ b. b == c) (drop at text))
lacks_ends text at c lacks = elim (cases_lt at (length text)) [
  | inl h ↦ (let d : drop at text ≡ get_or text at 0 ∷ drop (at + 1) text = rw add-one (drop-cons text at 0 h) in rw (d, ne_eqb _ c (lacks h)) refl)
  | inr h ↦ rw (drop_all at text h) refl
]

bang : (m : Token) (bs rest : List ℕ) → Opens m 33 → 33 ∷ bs ≡ token_bytes m ++ rest → bs ≡ 61 ∷ rest
bang (operator not_equal) bs rest h e = cc
bang (operator equal) bs rest h e = cc
bang (operator less) bs rest h e = cc
bang (operator less_equal) bs rest h e = cc
bang (operator greater) bs rest h e = cc
bang (operator greater_equal) bs rest h e = cc
bang (operator matches) bs rest h e = cc
bang (name x) bs rest h e = absurd (let z : false ≡ true = h in cc)
bang (number x) bs rest h e = absurd (let z : false ≡ true = h in cc)
bang (word x) bs rest h e = absurd (let z : false ≡ true = h in cc)
bang _ bs rest h e = absurd (let z : false ≡ true = h in cc)

after_bang : (s : State) (bs : List ℕ) (tree : ConstraintTree) → Rest s (33 ∷ bs) tree → (rest : List ℕ) × (bs ≡ 61 ∷ rest)
after_bang s bs tree r =
    let f = steps_of s 33 bs tree refl r in
    (f.rest, bang f.first bs f.rest (opened f.first 33 bs f.rest f.is_one f.bytes_are) f.bytes_are)

pub bang_faults : {text : List ℕ} {at : ℕ} {items : ItemsTree} {clauses : List ClauseTree} {front : List (List ℕ)} {n : List ℕ} (st : StandsAt text at (ClauseNamed items clauses front n))
    → at < length text → get_or text at 0 ≡ 33 → Lacks text (at + 1) 61 → IsFaultAt text (at + 1)
bang_faults {text} {at} {items} {clauses} {front} {n} st h b lacks =
    faults_inside st (33 ∷ []) (drop (at + 1) text) (at + 1) (after_one st 33 h b) refl
    (61 ∷ 48 ∷ [], refl, _, (operator not_equal ∷ word (48 ∷ []) ∷ [], ([], 48 ∷ [], refl, refl, refl, ([], [], refl, refl, refl, refl)), refl))
    (λ nil v r. let (rest, is) = after_bang (ClauseNamed items clauses front n) [] v r in cc)
    (λ c cs is more v r.
    let (rest, q) = after_bang (ClauseNamed items clauses front n) (c ∷ more) v r in
    let byte : c ≡ 61 = cc in
    let (within, there) = byte_is text (at + 1) c cs is in
    lacks within (there ∙ byte))

pub operator_faults : {text : List ℕ} {at : ℕ} {items : ItemsTree} {clauses : List ClauseTree} {front : List (List ℕ)} {n : List ℕ} (st : StandsAt text at (ClauseNamed items clauses front n)) → IsPlace text at
    → Lacks text at 46 → (front ≡ [] → Lacks text at 40) → Lacks text at 61 → Lacks text at 33 → Lacks text at 60 → Lacks text at 62 → IsFaultAt text at
operator_faults {text} {at} {items} {clauses} {front} {n} st place a b c d e f = state_faults st place refl (only front b)
  where
    only : (front' : List (List ℕ)) → (front' ≡ [] → Lacks text at 40) → (m : Token) (o : State) → step (ClauseNamed items clauses front' n) m ≡ Some o → at < length text → Opens m (get_or text at 0) → ⊥
    only front' b' dot o s h k = a h (eqb-true _ 46 k)
    only [] b' (argument x) o s h k = b' refl h (eqb-true _ 40 k)
    only (y ∷ front') b' (argument x) o s h k = cc
    only front' b' (operator equal) o s h k = c h (eqb-true _ 61 k)
    only front' b' (operator matches) o s h k = c h (eqb-true _ 61 k)
    only front' b' (operator not_equal) o s h k = d h (eqb-true _ 33 k)
    only front' b' (operator less) o s h k = e h (eqb-true _ 60 k)
    only front' b' (operator less_equal) o s h k = e h (eqb-true _ 60 k)
    only front' b' (operator greater) o s h k = f h (eqb-true _ 62 k)
    only front' b' (operator greater_equal) o s h k = f h (eqb-true _ 62 k)
    only front' b' _ o s h k = cc
