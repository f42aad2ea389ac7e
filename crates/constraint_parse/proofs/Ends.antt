-- Where items end, and clauses begin.
use Rattle.std.proofs.Common.{◌≡◌, List, [], ◌∷◌, ℕ, ◌+◌, ◌<◌, ◌≤◌, length, drop, get_or, refl, ap, subst, ◌∙◌, Some, false, arith, inl, inr}
use Rattle.std.proofs.lemmas.Bool.{cases_lt, not-true, eqb-true, eq-eqb}
use Rattle.std.specs.Option.{option_and_then}
use Rattle.viable.specs.inner.Standing.{SameHead}
use Rattle.viable.proofs.Standing.{moves}
use Rattle.constraint_parse.specs.Language.{is_blank, is_name_byte, Token, name, argument, comma, ampersand, dot, open_bracket, ConstraintTree, ItemTree, path, call, StepTree, SlabTree, no_items, some_items}
use Rattle.constraint_parse.specs.inner.Machine.{State, Start, Naming, Stepped, Called, Clausal, step, finish, read, step_of, with_last}
use Rattle.constraint_parse.specs.inner.Standing.{Rest, StandsAt, IsPlace, Lacks, StandsBehindItem, MayCall}
use Rattle.constraint_parse.proofs.Bytes.{Opens, opened}
use Rattle.constraint_parse.proofs.Places.{steps_of, next_byte, at_end, nothing_read}
use Rattle.constraint_parse.proofs.Moves.{shut_by, stepped_comma, called_comma}

-- Two states from which the same goes on at this place.
pub becomes : {text : List ℕ} {at : ℕ} {s : State} (st : StandsAt text at s) (next : State) → IsPlace text at
    → (length text ≤ at → (tree : ConstraintTree) → finish s ≡ Some tree → finish next ≡ Some tree)
    → ((tokens : List Token) (tree : ConstraintTree) → read next tokens ≡ Some tree → read s tokens ≡ Some tree)
    → (at < length text → (m : Token) (o : State) → step s m ≡ Some o → Opens m (get_or text at 0) → step next m ≡ Some o)
    → StandsAt text at next
becomes {text} {at} {s} st next place fin back on =
    moves st [] st.after at next refl (omega arith)
    (λ more tree r. (r.0, r.1, back r.0 tree r.2))
    (λ more tree same r. elim (cases_lt at (length text)) [
      | inl h ↦ byte h more tree (let e : st.after ≡ get_or text at 0 ∷ drop (at + 1) text = next_byte st h in subst (λ (x : List ℕ). SameHead more x) e same) r
      | inr h ↦ nil h more tree (subst (λ (x : List ℕ). SameHead more x) (at_end st h) same) r
    ])
  where
    nil : length text ≤ at → (more : List ℕ) (tree : ConstraintTree) → SameHead more [] → Rest s more tree → Rest next more tree
    nil h [] tree same r = ([], refl, fin h tree (nothing_read s tree r))
    nil h (b ∷ more) tree same r = absurd same

    byte : at < length text → (more : List ℕ) (tree : ConstraintTree) → SameHead more (get_or text at 0 ∷ drop (at + 1) text) → Rest s more tree → Rest next more tree
    byte h [] tree same r = absurd same
    byte h (b ∷ more) tree same r =
        let u : is_blank b ≡ false = rw same (not-true _ (place.unblank h)) in
        let f = steps_of s b more tree u r in
        let k : Opens f.first (get_or text at 0) = subst (λ (x : ℕ). Opens f.first x) same (opened f.first b more f.rest f.is_one f.bytes_are) in
        let e : step next f.first ≡ Some f.next = on h f.first f.next f.step_is k in
        (f.first ∷ f.goes_on.0, ([], f.rest, refl, f.is_one, f.bytes_are, f.goes_on.1), ap (option_and_then (λ x. read x f.goes_on.0)) e ∙ f.goes_on.2)

-- Where no ampersand comes first, an item does.
pub start_naming : {text : List ℕ} {at : ℕ} → StandsAt text at Start → IsPlace text at → at < length text → Lacks text at 38 → StandsAt text at (Naming [] [])
start_naming {text} {at} st place h lacks = becomes st (Naming [] []) place (λ ge tree e. absurd (omega arith)) back on
  where
    back : (tokens : List Token) (tree : ConstraintTree) → read (Naming [] []) tokens ≡ Some tree → read Start tokens ≡ Some tree
    back [] tree e = cc
    back (name x ∷ tokens) tree e = e
    back (_ ∷ tokens) tree e = cc

    on : at < length text → (m : Token) (o : State) → step Start m ≡ Some o → Opens m (get_or text at 0) → step (Naming [] []) m ≡ Some o
    on h (name x) o e k = e
    on h ampersand o e k = absurd (lacks h (eqb-true _ 38 k))
    on h _ o e k = cc

pub start_clausal : {text : List ℕ} {at : ℕ} → StandsAt text at Start → IsPlace text at → (at < length text → get_or text at 0 ≡ 38) → StandsAt text at (Clausal no_items [])
start_clausal {text} {at} st place is = becomes st (Clausal no_items []) place (λ ge tree e. e) back on
  where
    back : (tokens : List Token) (tree : ConstraintTree) → read (Clausal no_items []) tokens ≡ Some tree → read Start tokens ≡ Some tree
    back [] tree e = e
    back (ampersand ∷ tokens) tree e = e
    back (_ ∷ tokens) tree e = cc

    on : at < length text → (m : Token) (o : State) → step Start m ≡ Some o → Opens m (get_or text at 0) → step (Clausal no_items []) m ≡ Some o
    on h (name x) o e k = absurd (shut_by is_name_byte 38 (get_or text at 0) refl (eq-eqb _ _ (is h)) k)
    on h ampersand o e k = e
    on h _ o e k = cc

-- behind the last item only clauses follow
pub stepped_clausal : {text : List ℕ} {at : ℕ} {items : List ItemTree} {steps : List StepTree} {n : List ℕ} {slabs : List SlabTree}
    → StandsAt text at (Stepped items steps n slabs) → IsPlace text at → Lacks text at 91 → Lacks text at 46 → Lacks text at 44 → (MayCall steps slabs → Lacks text at 40)
    → StandsAt text at (Clausal (some_items items (path steps (step_of n slabs))) [])
stepped_clausal {text} {at} {items} {steps} {n} {slabs} st place a b c d = becomes st (Clausal (some_items items (path steps (step_of n slabs))) []) place (λ ge tree e. e) back (on steps slabs d)
  where
    back : (tokens : List Token) (tree : ConstraintTree) → read (Clausal (some_items items (path steps (step_of n slabs))) []) tokens ≡ Some tree → read (Stepped items steps n slabs) tokens ≡ Some tree
    back [] tree e = e
    back (ampersand ∷ tokens) tree e = e
    back (_ ∷ tokens) tree e = cc

    on : (steps' : List StepTree) (slabs' : List SlabTree) → (MayCall steps' slabs' → Lacks text at 40) → at < length text → (m : Token) (o : State) → step (Stepped items steps' n slabs') m ≡ Some o → Opens m (get_or text at 0) → step (Clausal (some_items items (path steps' (step_of n slabs'))) []) m ≡ Some o
    on steps' slabs' d h open_bracket o e k = absurd (a h (eqb-true _ 91 k))
    on steps' slabs' d h dot o e k = absurd (b h (eqb-true _ 46 k))
    on steps' slabs' d h comma o e k = absurd (c h (eqb-true _ 44 k))
    on steps' slabs' d h ampersand o e k = e
    on [] [] d h (argument x) o e k = absurd (d (refl, refl) h (eqb-true _ 40 k))
    on [] (y ∷ slabs') d h (argument x) o e k = cc
    on (y ∷ steps') slabs' d h (argument x) o e k = cc
    on steps' slabs' d h _ o e k = cc

pub called_clausal : {text : List ℕ} {at : ℕ} {items : List ItemTree} {n a : List ℕ}
    → StandsAt text at (Called items n a) → IsPlace text at → Lacks text at 44
    → StandsAt text at (Clausal (some_items items (call n a)) [])
called_clausal {text} {at} {items} {n} {a} st place c = becomes st (Clausal (some_items items (call n a)) []) place (λ ge tree e. e) back on
  where
    back : (tokens : List Token) (tree : ConstraintTree) → read (Clausal (some_items items (call n a)) []) tokens ≡ Some tree → read (Called items n a) tokens ≡ Some tree
    back [] tree e = e
    back (ampersand ∷ tokens) tree e = e
    back (_ ∷ tokens) tree e = cc

    on : at < length text → (m : Token) (o : State) → step (Called items n a) m ≡ Some o → Opens m (get_or text at 0) → step (Clausal (some_items items (call n a)) []) m ≡ Some o
    on h comma o e k = absurd (c h (eqb-true _ 44 k))
    on h ampersand o e k = e
    on h _ o e k = cc

pub after_comma : {text : List ℕ} {at : ℕ} (items : List ItemTree) (t : ItemTree) → StandsBehindItem text at items t → at < length text → get_or text at 0 ≡ 44 → StandsAt text (at + 1) (Naming (with_last items t) [])
after_comma items (path front last) after h b = stepped_comma after.0 h b
after_comma items (call n a) after h b = called_comma after h b

pub after_clausal : {text : List ℕ} {at : ℕ} (items : List ItemTree) (t : ItemTree) → StandsBehindItem text at items t → IsPlace text at → Lacks text at 44 → StandsAt text at (Clausal (some_items items t) [])
after_clausal items (path front last) after place c = stepped_clausal after.0 place after.1 after.2 c after.3
after_clausal items (call n a) after place c = called_clausal after place c
