-- From bytes to states: how the parser goes on, and where the text is at fault.
use Rattle.viable.proofs.Runs.{run_unique, same_end, run_is, run_begins}
use Rattle.std.proofs.Common.{◌≡◌, List, [], ◌∷◌, ◌++◌, ℕ, ◌+◌, ◌<◌, ◌≤◌, length, drop, get_or, refl, sym, ap, subst, ◌∙◌, Some, None, Bool, true, false, not, IsTrue, arith, drop-cons, add-one, length-append}
use Rattle.std.proofs.Math.Seq.{drop-append_seam}
use Rattle.std.specs.List.{list_all}
use Rattle.std.specs.Option.{option_and_then}
use Rattle.std.proofs.lemmas.Option.{option_and_then_some}
use Rattle.viable.specs.inner.Standing.{SameHead}
use Rattle.viable.specs.Prefix.{is_byte}
use Rattle.viable.proofs.Standing.{moves, faults_inside}
use Rattle.constraint_parse.specs.Language.{is_blank, equal, Token, name, number, word, operator, close_bracket, close_brace, token_bytes, is_token, ConstraintTree, constraint_tokens, IsSpaced, IsTextOf}
use Rattle.viable.specs.Runs.{is_run, ends_with, IsRunTo}
use Rattle.constraint_parse.specs.inner.Machine.{State, Start, Naming, Stepped, Opened, SecondOpened, ThirdOpened, Numbered, SecondNumbered, ThirdNumbered, Called, ClauseNaming, ClauseNamed, Compared, Bracing, Braced, Clausal, step, finish, read}
use Rattle.constraint_parse.specs.inner.Standing.{Rest, StandsAt, IsFaultAt}
use Rattle.constraint_parse.proofs.Bytes.{Opens, opened, token_head, first_token, blank_more, blank_less}
use Rattle.constraint_parse.proofs.Complete.{complete}
use Rattle.constraint_parse.proofs.Sound.{sound}

pub starts : (text : List ℕ) → StandsAt text 0 Start
starts text = record {
  before = [];
  after = text;
  whole = refl;
  place = refl;
  sound = λ more tree r. let P : List Token → Type 0 = λ x. IsSpaced more x in subst P (sound r.0 tree r.2) r.1;
  complete = λ more tree same r. (constraint_tokens tree, r, complete tree.items tree.clauses);
}

-- what comes next
pub after_is : {text : List ℕ} {at : ℕ} {s : State} (st : StandsAt text at s) → drop at text ≡ st.after
after_is {text} {at} {s} st =
    let e : text ≡ st.before ++ st.after = st.whole in
    let p : at ≡ length st.before = st.place in
    rw (p, e) (drop-append_seam st.before st.after)

pub next_byte : {text : List ℕ} {at : ℕ} {s : State} (st : StandsAt text at s) → at < length text → st.after ≡ get_or text at 0 ∷ drop (at + 1) text
next_byte {text} {at} {s} st h = sym (after_is st) ∙ (let e : drop at text ≡ get_or text at 0 ∷ drop (at + 1) text = rw add-one (drop-cons text at 0 h) in e)

pub blank_passes : {text : List ℕ} {at : ℕ} {s : State} → StandsAt text at s → at < length text → IsTrue (is_blank (get_or text at 0)) → StandsAt text (at + 1) s
blank_passes {text} {at} {s} st h blank =
    moves st (get_or text at 0 ∷ []) (drop (at + 1) text) (at + 1) s (next_byte st h) refl
    (λ more tree r. (r.0, blank_more _ more r.0 blank r.1, r.2))
    (λ more tree same r. (r.0, blank_less _ more r.0 blank r.1, r.2))

-- what the first token and the rest of a text give from a state
pub record Steps (s : State) (text : List ℕ) (tree : ConstraintTree) : Type 0 where
  pub first : Token
  pub rest : List ℕ
  pub next : State
  pub is_one : IsTrue (is_token first)
  pub bytes_are : text ≡ token_bytes first ++ rest
  pub step_is : step s first ≡ Some next
  pub goes_on : Rest next rest tree

pub steps_of : (s : State) (b : ℕ) (bs : List ℕ) (tree : ConstraintTree) → is_blank b ≡ false → Rest s (b ∷ bs) tree → Steps s (b ∷ bs) tree
steps_of s b bs tree unblank (tokens, spaced, r) =
    let f = first_token b bs tokens unblank spaced in
    option_and_then_some (λ next. read next f.others) (step s f.first) tree (let g : read s (f.first ∷ f.others) ≡ Some tree = ap (read s) (sym f.tokens_are) ∙ r in g)
    (λ next e g. record { first = f.first; rest = f.rest; next = next; is_one = f.is_one; bytes_are = f.bytes_are; step_is = e; goes_on = (f.others, f.spaced, g) })

-- what follows a token follows it
pub rest_back : (s next : State) (t : Token) (more : List ℕ) (tree : ConstraintTree) → step s t ≡ Some next → IsTrue (is_token t) → Rest next more tree → Rest s (token_bytes t ++ more) tree
rest_back s next t more tree st_is ok r = (t ∷ r.0, ([], more, refl, ok, refl, r.1), ap (option_and_then (λ n. read n r.0)) st_is ∙ r.2)

pub token_passes : {text : List ℕ} {at : ℕ} {s : State} (st : StandsAt text at s) (t : Token) (next : State) (rest : List ℕ) (to : ℕ)
    → st.after ≡ token_bytes t ++ rest → to ≡ at + length (token_bytes t) → IsTrue (is_token t) → step s t ≡ Some next
    → ((more : List ℕ) (tree : ConstraintTree) → SameHead more rest → (f : Steps s (token_bytes t ++ more) tree) → (f.first ≡ t) × (f.rest ≡ more))
    → StandsAt text to next
token_passes {text} {at} {s} st t next rest to e p ok st_is only =
    moves st (token_bytes t) rest to next e p
    (λ more tree r. (t ∷ r.0, ([], more, refl, ok, refl, r.1), ap (option_and_then (λ n. read n r.0)) st_is ∙ r.2))
    (λ more tree same r.
    let (b, bs, e', unblank) = token_head t more ok in
    let f : Steps s (token_bytes t ++ more) tree = rw (e') (steps_of s b bs tree unblank (rw (e') at r)) in
    let (t_is, rest_is) = only more tree same f in
    let n : Some f.next ≡ Some next = sym f.step_is ∙ ap (step s) t_is ∙ st_is in
    let n' : f.next ≡ next = cc in
    let P : State → List ℕ → Type 0 = λ x y. Rest x y tree in
    subst (λ (x : State). Rest x more tree) n' (subst (λ (y : List ℕ). Rest f.next y tree) rest_is f.goes_on))

-- a token of one byte
pub mark_passes : {text : List ℕ} {at : ℕ} {s : State} (st : StandsAt text at s) (t : Token) (c : ℕ) (next : State)
    → at < length text → get_or text at 0 ≡ c → token_bytes t ≡ c ∷ [] → IsTrue (is_token t) → step s t ≡ Some next
    → ((m : Token) (o : State) → step s m ≡ Some o → Opens m c → m ≡ t)
    → StandsAt text (at + 1) next
mark_passes {text} {at} {s} st t c next h byte is ok st_is only =
    token_passes st t next (drop (at + 1) text) (at + 1)
    (rw is (next_byte st h ∙ ap (λ (x : ℕ). x ∷ drop (at + 1) text) byte))
    (rw is refl) ok st_is
    (λ more tree same f.
    let e : c ∷ more ≡ token_bytes f.first ++ f.rest = ap (λ (x : List ℕ). x ++ more) (sym is) ∙ f.bytes_are in
    let one : f.first ≡ t = only f.first f.next f.step_is (opened f.first c more f.rest f.is_one e) in
    let e' : c ∷ more ≡ c ∷ f.rest = e ∙ ap (λ (x : Token). token_bytes x ++ f.rest) one ∙ ap (λ (x : List ℕ). x ++ f.rest) is in
    (one, cc))

-- in this state no byte of the class may follow
abbrev pub Shuts : State → (ℕ → Bool) → Type 0
Shuts s p = (m : Token) (o : State) (b : ℕ) → step s m ≡ Some o → Opens m b → IsTrue (p b) → ⊥

pub ends_before : (s : State) (p : ℕ → Bool) → ((b : ℕ) → IsTrue (p b) → is_blank b ≡ false) → Shuts s p → (after : List ℕ) (tree : ConstraintTree) → Rest s after tree → IsTrue (ends_with p after)
ends_before s p unblank shut [] tree r = refl
ends_before s p unblank shut (b ∷ bs) tree r = on (p b) refl
  where
    on : (v : Bool) → p b ≡ v → not v ≡ true
    on false e = refl
    on true e =
        let f = steps_of s b bs tree (unblank b e) r in
        absurd (shut f.first f.next b f.step_is (opened f.first b bs f.rest f.is_one f.bytes_are) e)

pub run_passes : {text : List ℕ} {at : ℕ} {s : State} (st : StandsAt text at s) (make : List ℕ → Token) (p : ℕ → Bool) (to : ℕ) (run : List ℕ) (next : State)
    → IsRunTo p text at to run → at < to
    → ((x : List ℕ) → token_bytes (make x) ≡ x)
    → ((x : List ℕ) → IsTrue (is_token (make x)) → IsTrue (list_all p x))
    → (IsTrue (is_run p run) → IsTrue (is_token (make run)))
    → step s (make run) ≡ Some next
    → ((b : ℕ) → IsTrue (p b) → is_blank b ≡ false)
    → ((m : Token) (o : State) (b : ℕ) → step s m ≡ Some o → Opens m b → IsTrue (p b) → (x : List ℕ) × (m ≡ make x) × Shuts o p)
    → StandsAt text to next
run_passes {text} {at} {s} st make p to run next r lt bytes valid ok st_is unblank only =
    let is : IsTrue (is_run p run) = run_is p run at to r.is_run_of.of_class r.is_run_of.to_is lt in
    token_passes st (make run) next (drop to text) to
    (rw (bytes run) (sym (after_is st) ∙ r.is_run_of.whole))
    (rw (bytes run) r.is_run_of.to_is) (ok is) st_is
    (λ more tree same f.
    let (c, cs, run_is, y) = run_begins p run is in
    let e0 : c ∷ (cs ++ more) ≡ token_bytes f.first ++ f.rest = ap (λ (z : List ℕ). z ++ more) (sym run_is) ∙ ap (λ (z : List ℕ). z ++ more) (sym (bytes run)) ∙ f.bytes_are in
    let (x, m_is, shut) = only f.first f.next c f.step_is (opened f.first c (cs ++ more) f.rest f.is_one e0) y in
    let one : IsTrue (list_all p x) = valid x (subst (λ (t : Token). IsTrue (is_token t)) m_is f.is_one) in
    let e : run ++ more ≡ x ++ f.rest = ap (λ (y : List ℕ). y ++ more) (sym (bytes run)) ∙ f.bytes_are ∙ ap (λ (t : Token). token_bytes t ++ f.rest) m_is ∙ ap (λ (y : List ℕ). y ++ f.rest) (bytes x) in
    let (run_same, rest_same) = run_unique p run x more f.rest e r.is_run_of.of_class one (same_end p more (drop to text) same r.longest) (ends_before f.next p unblank shut f.rest tree f.goes_on) in
    (m_is ∙ ap make (sym run_same), rest_same))

-- what completes a text in each state
pub live : (s : State) → (more : List ℕ) × IsTrue (list_all is_byte more) × (tree : ConstraintTree) × Rest s more tree
live Start = ([], refl, _, ([], refl, refl))
live (Naming items steps) = (48 ∷ [], refl, _, (name (48 ∷ []) ∷ [], ([], [], refl, refl, refl, refl), refl))
live (Stepped items steps n slabs) = ([], refl, _, ([], refl, refl))
live (Opened items steps n slabs) = (48 ∷ 93 ∷ [], refl, _, (number (48 ∷ []) ∷ close_bracket ∷ [], ([], 93 ∷ [], refl, refl, refl, ([], [], refl, refl, refl, refl)), refl))
live (SecondOpened items steps n slabs a) = (48 ∷ 93 ∷ [], refl, _, (number (48 ∷ []) ∷ close_bracket ∷ [], ([], 93 ∷ [], refl, refl, refl, ([], [], refl, refl, refl, refl)), refl))
live (ThirdOpened items steps n slabs a b) = (48 ∷ 93 ∷ [], refl, _, (number (48 ∷ []) ∷ close_bracket ∷ [], ([], 93 ∷ [], refl, refl, refl, ([], [], refl, refl, refl, refl)), refl))
live (Numbered items steps n slabs a) = (93 ∷ [], refl, _, (close_bracket ∷ [], ([], [], refl, refl, refl, refl), refl))
live (SecondNumbered items steps n slabs a b) = (93 ∷ [], refl, _, (close_bracket ∷ [], ([], [], refl, refl, refl, refl), refl))
live (ThirdNumbered items steps n slabs a s b) = (93 ∷ [], refl, _, (close_bracket ∷ [], ([], [], refl, refl, refl, refl), refl))
live (Called items n a) = ([], refl, _, ([], refl, refl))
live (ClauseNaming items clauses labels) = (48 ∷ 61 ∷ 48 ∷ [], refl, _, (name (48 ∷ []) ∷ operator equal ∷ word (48 ∷ []) ∷ [], ([], 61 ∷ 48 ∷ [], refl, refl, refl, ([], 48 ∷ [], refl, refl, refl, ([], [], refl, refl, refl, refl))), refl))
live (ClauseNamed items clauses labels n) = (61 ∷ 48 ∷ [], refl, _, (operator equal ∷ word (48 ∷ []) ∷ [], ([], 48 ∷ [], refl, refl, refl, ([], [], refl, refl, refl, refl)), refl))
live (Compared items clauses labels n o) = (48 ∷ [], refl, _, (word (48 ∷ []) ∷ [], ([], [], refl, refl, refl, refl), refl))
live (Bracing items clauses labels n o values) = (48 ∷ 125 ∷ [], refl, _, (word (48 ∷ []) ∷ close_brace ∷ [], ([], 125 ∷ [], refl, refl, refl, ([], [], refl, refl, refl, refl)), refl))
live (Braced items clauses labels n o values value) = (125 ∷ [], refl, _, (close_brace ∷ [], ([], [], refl, refl, refl, refl), refl))
live (Clausal items clauses) = ([], refl, _, ([], refl, refl))

-- no token that may come next begins with this byte
pub byte_faults : {text : List ℕ} {at : ℕ} {s : State} (st : StandsAt text at s) → at < length text → is_blank (get_or text at 0) ≡ false
    → ((m : Token) (o : State) → step s m ≡ Some o → Opens m (get_or text at 0) → ⊥) → IsFaultAt text at
byte_faults {text} {at} {s} st h unblank none =
    let e : st.after ≡ get_or text at 0 ∷ drop (at + 1) text = next_byte st h in
    faults_inside st [] st.after at refl (omega arith) (live s)
    (λ nil v r. let c : [] ≡ get_or text at 0 ∷ drop (at + 1) text = sym nil ∙ e in cc)
    (λ b bs is more v r.
    let same : b ≡ get_or text at 0 = (let c : b ∷ bs ≡ get_or text at 0 ∷ drop (at + 1) text = sym is ∙ e in cc) in
    let u : is_blank b ≡ false = rw same unblank in
    let f = steps_of s b more v u r in
    none f.first f.next f.step_is (subst (λ (x : ℕ). Opens f.first x) same (opened f.first b more f.rest f.is_one f.bytes_are)))

pub nothing_read : (s : State) (tree : ConstraintTree) → Rest s [] tree → finish s ≡ Some tree
nothing_read s tree ([], spaced, r) = r
nothing_read s tree (t ∷ tokens, (blanks, rest, all, ok, e, spaced), r) = from blanks e
  where
    from : (blanks : List ℕ) → [] ≡ blanks ++ (token_bytes t ++ rest) → finish s ≡ Some tree
    from [] e = let (b, bs, is, unblank) = token_head t rest ok in let c : [] ≡ b ∷ bs = e ∙ is in cc
    from (x ∷ blanks) e = cc

-- what comes next at the end
pub at_end : {text : List ℕ} {at : ℕ} {s : State} (st : StandsAt text at s) → length text ≤ at → st.after ≡ []
at_end {text} {at} {s} st h = none st.after st.whole
  where
    none : (x : List ℕ) → text ≡ st.before ++ x → x ≡ []
    none [] e = refl
    none (b ∷ x) e = absurd (let p : at ≡ length st.before = st.place in omega (arith, ap length e, length-append st.before (b ∷ x), p))

-- the text ends where the grammar does not
pub end_faults : {text : List ℕ} {at : ℕ} {s : State} (st : StandsAt text at s) → length text ≤ at → finish s ≡ None → IsFaultAt text at
end_faults {text} {at} {s} st h unfinished =
    let e : st.after ≡ [] = at_end st h in
    faults_inside st [] st.after at refl (omega arith) (live s)
    (λ nil v r. let c : None ≡ Some v = sym unfinished ∙ nothing_read s v r in cc)
    (λ b bs is more v r. let c : [] ≡ b ∷ bs = sym e ∙ is in cc)

-- the text ends where the grammar may
pub accepts : {text : List ℕ} {at : ℕ} {s : State} {tree : ConstraintTree} (st : StandsAt text at s) → length text ≤ at → finish s ≡ Some tree → IsTextOf text tree
accepts {text} {at} {s} {tree} st h done =
    let e : st.after ≡ [] = at_end st h in
    let whole : text ≡ st.before ++ [] = st.whole ∙ ap (λ (x : List ℕ). st.before ++ x) e in
    rw whole (st.sound [] tree ([], refl, done))
