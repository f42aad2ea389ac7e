-- A text has one list of tokens that the grammar accepts, so it spells at most one constraint.
use Rattle.std.proofs.Common.{◌≡◌, List, [], ◌∷◌, ◌++◌, ℕ, refl, sym, ap, subst, ◌∙◌, append_assoc, Some, Bool, true, false, ◌||◌, not, ◌==◌, IsTrue}
use Rattle.std.specs.List.{list_all}
use Rattle.std.proofs.lemmas.Option.{option_and_then_some}
use Rattle.constraint_parse.specs.Language.{is_blank, is_digit, is_name_byte, is_word_byte, is_argument_byte, Operator, equal, less, greater, Token, name, number, word, argument, quoted, operator, comma, ampersand, dot, colon, open_bracket, close_bracket, open_brace, close_brace, operator_bytes, token_bytes, is_token, ConstraintTree, constraint_tokens, ItemsTree, ClauseTree, IsSpaced, IsTextOf}
use Rattle.viable.specs.Quoted.{Piece, is_piece, spelling}
use Rattle.viable.specs.Runs.{ends_with}
use Rattle.constraint_parse.specs.inner.Machine.{State, Start, Naming, Stepped, Opened, SecondOpened, ThirdOpened, Numbered, SecondNumbered, ClauseNaming, ClauseNamed, Compared, Bracing, step, read}
use Rattle.constraint_parse.specs.inner.Standing.{Rest, ReadsName, ReadsNumber, ReadsValue}
use Rattle.viable.proofs.Tests.{and_parts}
use Rattle.constraint_parse.proofs.Bytes.{name_not_blank, digit_not_blank, word_not_blank, Opens, opened, token_head}
use Rattle.viable.proofs.Runs.{run_unique, run_valid}
use Rattle.constraint_parse.proofs.Places.{Shuts, ends_before}
use Rattle.constraint_parse.proofs.Moves.{shut_by, name_only, number_only}
use Rattle.constraint_parse.proofs.Marks.{mark_comma, mark_ampersand, mark_dot, mark_colon, mark_open_bracket, mark_close_bracket, mark_open_brace, mark_close_brace}
use Rattle.constraint_parse.proofs.Words.{word_only}
use Rattle.viable.proofs.Pieces.{pieces_unique}
use Rattle.constraint_parse.proofs.Quotes.{quote_opens}
use Rattle.constraint_parse.proofs.Calls.{argument_opens}
use Rattle.constraint_parse.proofs.Operators.{kind, pick, compared_shuts, tail_byte, tail_unblank, NextOk}
use Rattle.constraint_parse.proofs.Complete.{complete}

-- one text begins with one token and goes on with one rest
abbrev Same : Token → Token → List ℕ → List ℕ → Type 0
Same t u x y = (t ≡ u) × (x ≡ y)

mark_same : (t u : Token) (c : ℕ) (x y : List ℕ) → token_bytes t ≡ c ∷ [] → u ≡ t → token_bytes t ++ x ≡ token_bytes u ++ y → Same t u x y
mark_same t u c x y is same e =
    let f : c ∷ x ≡ c ∷ y = ap (λ (z : List ℕ). z ++ x) (sym is) ∙ e ∙ ap (λ (z : Token). token_bytes z ++ y) same ∙ ap (λ (z : List ℕ). z ++ y) is in
    (sym same, (let g : x ≡ y = cc in g))

run_same : (make : List ℕ → Token) (p : ℕ → Bool)
    → ((z : List ℕ) → token_bytes (make z) ≡ z) → ((z : List ℕ) → IsTrue (is_token (make z)) → IsTrue (list_all p z)) → ((b : ℕ) → IsTrue (p b) → is_blank b ≡ false)
    → (n m : State) (a c : List ℕ) (u : Token) (x y : List ℕ) (v w : ConstraintTree)
    → IsTrue (is_token (make a)) → IsTrue (is_token u) → u ≡ make c → Shuts n p → Shuts m p → Rest n x v → Rest m y w
    → token_bytes (make a) ++ x ≡ token_bytes u ++ y → Same (make a) u x y
run_same make p bytes valid unblank n m a c u x y v w ok ok' u_is shut shut' r r' e =
    let e1 : a ++ x ≡ c ++ y = ap (λ (z : List ℕ). z ++ x) (sym (bytes a)) ∙ e ∙ ap (λ (z : Token). token_bytes z ++ y) u_is ∙ ap (λ (z : List ℕ). z ++ y) (bytes c) in
    let all : IsTrue (list_all p c) = valid c (subst (λ (z : Token). IsTrue (is_token z)) u_is ok') in
    let (same, rest) = run_unique p a c x y e1 (valid a ok) all (ends_before n p unblank shut x v r) (ends_before m p unblank shut' y w r') in
    (ap make same ∙ sym u_is, sym rest)

name_same : (s : State) → ReadsName s → (a : List ℕ) (u : Token) (n m : State) (x y : List ℕ) (v w : ConstraintTree)
    → IsTrue (is_token (name a)) → IsTrue (is_token u) → step s (name a) ≡ Some n → step s u ≡ Some m → Rest n x v → Rest m y w
    → token_bytes (name a) ++ x ≡ token_bytes u ++ y → Same (name a) u x y
name_same s k a u n m x y v w ok ok' st st' r r' e =
    let (a', a_is, shut) = name_only s k (name a) n st in
    let (c, u_is, shut') = name_only s k u m st' in
    run_same name is_name_byte (λ z. refl) (run_valid is_name_byte) name_not_blank n m a c u x y v w ok ok' u_is shut shut' r r' e

number_same : (s : State) → ReadsNumber s → (a : List ℕ) (u : Token) (n m : State) (x y : List ℕ) (v w : ConstraintTree)
    → IsTrue (is_token (number a)) → IsTrue (is_token u) → step s (number a) ≡ Some n → step s u ≡ Some m → Rest n x v → Rest m y w
    → token_bytes (number a) ++ x ≡ token_bytes u ++ y → Same (number a) u x y
number_same s k a u n m x y v w ok ok' st st' r r' e =
    let (a', a_is, shut) = number_only s k (number a) n st in
    let (c, u_is, shut') = number_only s k u m st' in
    run_same number is_digit (λ z. refl) (run_valid is_digit) digit_not_blank n m a c u x y v w ok ok' u_is shut shut' r r' e

word_same : (s : State) → ReadsValue s → (a : List ℕ) (u : Token) (n m : State) (x y : List ℕ) (v w : ConstraintTree)
    → IsTrue (is_token (word a)) → IsTrue (is_token u) → step s (word a) ≡ Some n → step s u ≡ Some m → Rest n x v → Rest m y w
    → token_bytes (word a) ++ x ≡ token_bytes u ++ y → Same (word a) u x y
word_same s k a u n m x y v w ok ok' st st' r r' e =
    let (b, bs, head, unblank) = token_head (word a) x ok in
    let opens : Opens (word a) b = opened (word a) b bs x ok (sym head) in
    let (a', a_is, shut) = word_only s k (word a) n b st opens opens in
    let (c, u_is, shut') = word_only s k u m b st' (opened u b bs y ok' (sym head ∙ e)) opens in
    run_same word is_word_byte (λ z. refl) (run_valid is_word_byte) word_not_blank n m a c u x y v w ok ok' u_is shut shut' r r' e

-- Where a name comes first, the start is as the place of an item.
start_name : (u : Token) (m : State) (b : ℕ) → step Start u ≡ Some m → Opens u b → IsTrue (is_name_byte b) → step (Naming [] []) u ≡ Some m
start_name (name c) m b st k y = st
start_name ampersand m b st k y = absurd (shut_by is_name_byte 38 b refl k y)
start_name _ m b st k y = cc

start_same : (a : List ℕ) (u : Token) (n m : State) (x y : List ℕ) (v w : ConstraintTree)
    → IsTrue (is_token (name a)) → IsTrue (is_token u) → step Start (name a) ≡ Some n → step Start u ≡ Some m → Rest n x v → Rest m y w
    → token_bytes (name a) ++ x ≡ token_bytes u ++ y → Same (name a) u x y
start_same a u n m x y v w ok ok' st st' r r' e =
    let (b, bs, head, unblank) = token_head (name a) x ok in
    name_same (Naming [] []) tt a u n m x y v w ok ok' st
    (start_name u m b st' (opened u b bs y ok' (sym head ∙ e)) (opened (name a) b bs x ok (sym head))) r r' e

argument_same : (a : List ℕ) (u : Token) (x y : List ℕ) → IsTrue (is_token (argument a)) → IsTrue (is_token u) → token_bytes (argument a) ++ x ≡ token_bytes u ++ y → Same (argument a) u x y
argument_same a u x y ok ok' e =
    let (c, u_is) = argument_opens u (opened u 40 ((a ++ 41 ∷ []) ++ x) y ok' e) in
    let all : IsTrue (list_all is_argument_byte c) = subst (λ (z : Token). IsTrue (is_token z)) u_is ok' in
    let e1 : 40 ∷ ((a ++ 41 ∷ []) ++ x) ≡ 40 ∷ ((c ++ 41 ∷ []) ++ y) = e ∙ ap (λ (z : Token). token_bytes z ++ y) u_is in
    let e2 : (a ++ 41 ∷ []) ++ x ≡ (c ++ 41 ∷ []) ++ y = cc in
    let e3 : a ++ 41 ∷ x ≡ c ++ 41 ∷ y = sym (append_assoc a (41 ∷ []) x) ∙ e2 ∙ append_assoc c (41 ∷ []) y in
    let (same, rest) = run_unique is_argument_byte a c (41 ∷ x) (41 ∷ y) e3 ok all refl refl in
    (ap argument same ∙ sym u_is, (let g : x ≡ y = cc in g))

quoted_same : (p : List Piece) (u : Token) (x y : List ℕ) → IsTrue (is_token (quoted p)) → IsTrue (is_token u) → token_bytes (quoted p) ++ x ≡ token_bytes u ++ y → Same (quoted p) u x y
quoted_same p u x y ok ok' e =
    let (q, u_is) = quote_opens u (opened u 34 ((spelling p ++ 34 ∷ []) ++ x) y ok' e) in
    let all : IsTrue (list_all is_piece q) = subst (λ (z : Token). IsTrue (is_token z)) u_is ok' in
    let e1 : 34 ∷ ((spelling p ++ 34 ∷ []) ++ x) ≡ 34 ∷ ((spelling q ++ 34 ∷ []) ++ y) = e ∙ ap (λ (z : Token). token_bytes z ++ y) u_is in
    let e2 : (spelling p ++ 34 ∷ []) ++ x ≡ (spelling q ++ 34 ∷ []) ++ y = cc in
    let e3 : spelling p ++ 34 ∷ x ≡ spelling q ++ 34 ∷ y = sym (append_assoc (spelling p) (34 ∷ []) x) ∙ e2 ∙ append_assoc (spelling q) (34 ∷ []) y in
    let (same, rest) = pieces_unique p q x y e3 ok all in
    (ap quoted same ∙ sym u_is, sym rest)

no_tail : (b : ℕ) (f : ℕ → Bool) → (IsTrue (f b) → IsTrue (tail_byte b)) → IsTrue (not (tail_byte b)) → IsTrue (not (f b))
no_tail b f h n = on (f b) refl
  where
    on : (z : Bool) → f b ≡ z → not z ≡ true
    on false e = refl
    on true e = let t : tail_byte b ≡ true = h e in let q : not true ≡ true = ap not (sym t) ∙ n in cc

tail_tilde : (b : ℕ) → IsTrue (b == 126) → IsTrue (tail_byte b)
unfolding tail_byte
tail_tilde b h = rw h refl

tail_equal : (b : ℕ) → IsTrue (b == 61) → IsTrue (tail_byte b)
unfolding tail_byte
tail_equal b h = or_right (b == 126) (b == 61) h
  where
    or_right : (p q : Bool) → IsTrue q → IsTrue (p || q)
    or_right true q h = refl
    or_right false q h = h

next_ok : (o : Operator) (x : List ℕ) → IsTrue (ends_with tail_byte x) → NextOk o x
next_ok equal [] h = refl
next_ok equal (b ∷ x) h = no_tail b (λ z. z == 126) (tail_tilde b) h
next_ok less [] h = refl
next_ok less (b ∷ x) h = no_tail b (λ z. z == 61) (tail_equal b) h
next_ok greater [] h = refl
next_ok greater (b ∷ x) h = no_tail b (λ z. z == 61) (tail_equal b) h
next_ok _ x h = tt

operator_same : (items : ItemsTree) (clauses : List ClauseTree) (front : List (List ℕ)) (l : List ℕ) (o : Operator) (u : Token) (m : State) (x y : List ℕ) (v w : ConstraintTree)
    → IsTrue (is_token u) → step (ClauseNamed items clauses front l) u ≡ Some m → Rest (Compared items clauses front l o) x v → Rest m y w
    → token_bytes (operator o) ++ x ≡ token_bytes u ++ y → Same (operator o) u x y
operator_same items clauses front l o u m x y v w ok' st' r r' e =
    let (o', u_is, m_is) = kind items clauses front l o u m x y st' e in
    let e1 : operator_bytes o ++ x ≡ operator_bytes o' ++ y = e ∙ ap (λ (z : Token). token_bytes z ++ y) u_is in
    let shut : Shuts m tail_byte = subst (λ (z : State). Shuts z tail_byte) m_is (compared_shuts items clauses front l o') in
    let (same, rest) = pick o o' x y e1
    (next_ok o x (ends_before (Compared items clauses front l o) tail_byte tail_unblank (compared_shuts items clauses front l o) x v r))
    (ends_before m tail_byte tail_unblank shut y w r') in
    (ap operator (sym same) ∙ sym u_is, sym rest)

-- No state reads both a dot and a word, nor a colon and a word.
dot_alone : (s : State) (n m : State) (a : List ℕ) → step s dot ≡ Some n → step s (word a) ≡ Some m → ⊥
dot_alone (Stepped items steps l slabs) n m a st st' = cc
dot_alone (ClauseNamed items clauses labels l) n m a st st' = cc
dot_alone _ n m a st st' = cc

colon_alone : (s : State) (n m : State) (a : List ℕ) → step s colon ≡ Some n → step s (word a) ≡ Some m → ⊥
colon_alone (Numbered items steps l slabs a') n m a st st' = cc
colon_alone (SecondNumbered items steps l slabs a' b') n m a st st' = cc
colon_alone _ n m a st st' = cc

-- Two tokens with which a text may begin in a state are one.
first_same : (s : State) (t u : Token) (n m : State) (x y : List ℕ) (v w : ConstraintTree)
    → IsTrue (is_token t) → IsTrue (is_token u) → step s t ≡ Some n → step s u ≡ Some m → Rest n x v → Rest m y w
    → token_bytes t ++ x ≡ token_bytes u ++ y → Same t u x y
first_same s comma u n m x y v w ok ok' st st' r r' e = mark_same comma u 44 x y refl (mark_comma u (opened u 44 x y ok' e)) e
first_same s ampersand u n m x y v w ok ok' st st' r r' e = mark_same ampersand u 38 x y refl (mark_ampersand u (opened u 38 x y ok' e)) e
first_same s open_bracket u n m x y v w ok ok' st st' r r' e = mark_same open_bracket u 91 x y refl (mark_open_bracket u (opened u 91 x y ok' e)) e
first_same s close_bracket u n m x y v w ok ok' st st' r r' e = mark_same close_bracket u 93 x y refl (mark_close_bracket u (opened u 93 x y ok' e)) e
first_same s open_brace u n m x y v w ok ok' st st' r r' e = mark_same open_brace u 123 x y refl (mark_open_brace u (opened u 123 x y ok' e)) e
first_same s close_brace u n m x y v w ok ok' st st' r r' e = mark_same close_brace u 125 x y refl (mark_close_brace u (opened u 125 x y ok' e)) e
first_same s dot u n m x y v w ok ok' st st' r r' e =
    mark_same dot u 46 x y refl (mark_dot u (λ a is. dot_alone s n m a st (ap (step s) (sym is) ∙ st')) (opened u 46 x y ok' e)) e
first_same s colon u n m x y v w ok ok' st st' r r' e =
    mark_same colon u 58 x y refl (mark_colon u (λ a is. colon_alone s n m a st (ap (step s) (sym is) ∙ st')) (opened u 58 x y ok' e)) e
first_same s (argument a) u n m x y v w ok ok' st st' r r' e = argument_same a u x y ok ok' e
first_same s (quoted p) u n m x y v w ok ok' st st' r r' e = quoted_same p u x y ok ok' e
first_same Start (name a) u n m x y v w ok ok' st st' r r' e = start_same a u n m x y v w ok ok' st st' r r' e
first_same (Naming items steps) (name a) u n m x y v w ok ok' st st' r r' e = name_same (Naming items steps) tt a u n m x y v w ok ok' st st' r r' e
first_same (ClauseNaming items clauses labels) (name a) u n m x y v w ok ok' st st' r r' e = name_same (ClauseNaming items clauses labels) tt a u n m x y v w ok ok' st st' r r' e
first_same _ (name a) u n m x y v w ok ok' st st' r r' e = cc
first_same (Opened items steps l slabs) (number a) u n m x y v w ok ok' st st' r r' e = number_same (Opened items steps l slabs) tt a u n m x y v w ok ok' st st' r r' e
first_same (SecondOpened items steps l slabs a') (number a) u n m x y v w ok ok' st st' r r' e = number_same (SecondOpened items steps l slabs a') tt a u n m x y v w ok ok' st st' r r' e
first_same (ThirdOpened items steps l slabs a' b') (number a) u n m x y v w ok ok' st st' r r' e = number_same (ThirdOpened items steps l slabs a' b') tt a u n m x y v w ok ok' st st' r r' e
first_same _ (number a) u n m x y v w ok ok' st st' r r' e = cc
first_same (Compared items clauses labels l o) (word a) u n m x y v w ok ok' st st' r r' e = word_same (Compared items clauses labels l o) tt a u n m x y v w ok ok' st st' r r' e
first_same (Bracing items clauses labels l o values) (word a) u n m x y v w ok ok' st st' r r' e = word_same (Bracing items clauses labels l o values) tt a u n m x y v w ok ok' st st' r r' e
first_same _ (word a) u n m x y v w ok ok' st st' r r' e = cc
first_same (ClauseNamed items clauses front l) (operator o) u n m x y v w ok ok' st st' r r' e =
    let n_is : n ≡ Compared items clauses front l o = cc in
    operator_same items clauses front l o u m x y v w ok' st' (subst (λ (z : State). Rest z x v) n_is r) r' e
first_same _ (operator o) u n m x y v w ok ok' st st' r r' e = cc

-- in front of a token no blanks go on
unblank_end : (t : Token) (rest : List ℕ) → IsTrue (is_token t) → IsTrue (ends_with is_blank (token_bytes t ++ rest))
unblank_end t rest ok =
    let (b, bs, head, unblank) = token_head t rest ok in
    subst (λ (z : List ℕ). IsTrue (ends_with is_blank z)) (sym head) (rw unblank refl)

-- a text of blanks alone has no token
blanks_alone : (blanks : List ℕ) (t : Token) (rest : List ℕ) → IsTrue (is_token t) → IsTrue (list_all is_blank (blanks ++ (token_bytes t ++ rest))) → ⊥
blanks_alone [] t rest ok all =
    let (b, bs, head, unblank) = token_head t rest ok in
    let z : IsTrue (list_all is_blank (b ∷ bs)) = subst (λ (z : List ℕ). IsTrue (list_all is_blank z)) head all in
    let y : is_blank b ≡ true = (and_parts _ _ z).0 in cc
blanks_alone (c ∷ blanks) t rest ok all = blanks_alone blanks t rest ok (and_parts _ _ all).1

-- A text has at most one list of tokens that leads from a state to a tree.
tokens_same : (s : State) (ts us : List Token) (text : List ℕ) (v w : ConstraintTree) → IsSpaced text ts → IsSpaced text us → read s ts ≡ Some v → read s us ≡ Some w → ts ≡ us
tokens_same s [] [] text v w sp sp' r r' = refl
tokens_same s [] (u ∷ us) text v w sp (blanks, rest, all, ok, e, sp') r r' = absurd (blanks_alone blanks u rest ok (subst (λ (z : List ℕ). IsTrue (list_all is_blank z)) e sp))
tokens_same s (t ∷ ts) [] text v w (blanks, rest, all, ok, e, sp) sp' r r' = absurd (blanks_alone blanks t rest ok (subst (λ (z : List ℕ). IsTrue (list_all is_blank z)) e sp'))
tokens_same s (t ∷ ts) (u ∷ us) text v w (blanks, rest, all, ok, e, sp) (blanks', rest', all', ok', e', sp') r r' =
    let (blank_same, tail) = run_unique is_blank blanks blanks' (token_bytes t ++ rest) (token_bytes u ++ rest') (sym e ∙ e') all all' (unblank_end t rest ok) (unblank_end u rest' ok') in
    option_and_then_some (λ next. read next ts) (step s t) v r (λ n st g.
    option_and_then_some (λ next. read next us) (step s u) w r' (λ m st' g'.
    let (same, rest_same) = first_same s t u n m rest rest' v w ok ok' st st' (ts, sp, g) (us, sp', g') (sym tail) in
    let next_same : Some m ≡ Some n = sym st' ∙ ap (step s) (sym same) ∙ st in
    let m_is : m ≡ n = cc in
    let more : ts ≡ us = tokens_same n ts us rest v w sp (subst (λ (z : List ℕ). IsSpaced z us) (sym rest_same) sp') g (subst (λ (z : State). read z us ≡ Some w) m_is g') in
    let both : t ∷ ts ≡ u ∷ us = cc in both))

-- A text is a text of at most one tree.
pub one_tree : (text : List ℕ) (one other : ConstraintTree) → IsTextOf text one → IsTextOf text other → one ≡ other
one_tree text one other is is' =
    let same : constraint_tokens one ≡ constraint_tokens other = tokens_same Start (constraint_tokens one) (constraint_tokens other) text one other is is' (complete one.items one.clauses) (complete other.items other.clauses) in
    let both : Some one ≡ Some other = sym (complete one.items one.clauses) ∙ ap (read Start) same ∙ complete other.items other.clauses in
    cc
