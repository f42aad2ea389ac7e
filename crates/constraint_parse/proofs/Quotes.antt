-- Quoted texts.
use Rattle.viable.specs.Quoted.{spelling, ArePieces, IsOpen}
use Rattle.viable.proofs.Pieces.{pieces_unique, pieces_open}
use Rattle.std.proofs.Common.{◌≡◌, List, [], ◌∷◌, ◌++◌, ℕ, ◌+◌, ◌<◌, length, drop, get_or, refl, sym, ap, subst, ◌∙◌, append_assoc, append-nil, Some, IsTrue, arith, inl, inr, length-append}
use Rattle.std.specs.List.{list_all}
use Rattle.std.proofs.lemmas.List.Folds.{list_all-append}
use Rattle.std.proofs.lemmas.Grind.{flat_map-append}
use Rattle.plain_lemmas.proofs.Lists.{drop_next}
use Rattle.viable.specs.Prefix.{is_byte}
use Rattle.viable.proofs.Standing.{faults_inside}
use Rattle.viable.specs.Quoted.{Piece, escaped, is_piece}
use Rattle.constraint_parse.specs.Language.{Token, quoted, operator, equal, not_equal, less, less_equal, greater, greater_equal, matches, token_bytes, is_token, ConstraintTree, compare}
use Rattle.constraint_parse.specs.Language as language
use Rattle.constraint_parse.specs.inner.Machine.{State, Compared, Bracing, Braced, Clausal, step}
use Rattle.constraint_parse.specs.inner.Standing.{Rest, StandsAt, IsFaultAt, ReadsValue}
use Rattle.constraint_parse.proofs.Bytes.{Opens, opened}
use Rattle.constraint_parse.proofs.Places.{steps_of, token_passes, next_byte, rest_back, live}

pub quote_opens : (m : Token) → Opens m 34 → (q : List Piece) × (m ≡ quoted q)
quote_opens (quoted q) h = (q, refl)
quote_opens (operator equal) h = cc
quote_opens (operator not_equal) h = cc
quote_opens (operator less) h = cc
quote_opens (operator less_equal) h = cc
quote_opens (operator greater) h = cc
quote_opens (operator greater_equal) h = cc
quote_opens (operator matches) h = cc
quote_opens _ h = cc

quoted_first : (s : State) (bs : List ℕ) (tree : ConstraintTree) → Rest s (34 ∷ bs) tree → (q : List Piece) × (y : List ℕ) × IsTrue (list_all is_piece q) × (bs ≡ spelling q ++ 34 ∷ y)
quoted_first s bs tree r =
    let f = steps_of s 34 bs tree refl r in
    let (q, is) = quote_opens f.first (opened f.first 34 bs f.rest f.is_one f.bytes_are) in
    let ok : IsTrue (list_all is_piece q) = subst (λ (t : Token). IsTrue (is_token t)) is f.is_one in
    let e : 34 ∷ bs ≡ (34 ∷ spelling q ++ 34 ∷ []) ++ f.rest = f.bytes_are ∙ ap (λ (t : Token). token_bytes t ++ f.rest) is in
    let e' : bs ≡ (spelling q ++ 34 ∷ []) ++ f.rest = cc in
    (q, f.rest, ok, e' ∙ append_assoc (spelling q) (34 ∷ []) f.rest)

quoted_parts : {text : List ℕ} {at : ℕ} {s : State} (st : StandsAt text at s) (to : ℕ) (p : List Piece) → at < length text → get_or text at 0 ≡ 34 → ArePieces text (at + 1) to p → st.after ≡ (34 ∷ spelling p) ++ drop to text
quoted_parts {text} {at} st to p h b a = next_byte st h ∙ ap (λ (x : ℕ). x ∷ drop (at + 1) text) b ∙ ap (λ (x : List ℕ). 34 ∷ x) a.whole

pub quoted_passes : {text : List ℕ} {at : ℕ} {s : State} (st : StandsAt text at s) (to : ℕ) (p : List Piece) → at < length text → get_or text at 0 ≡ 34 → ArePieces text (at + 1) to p → to < length text → get_or text to 0 ≡ 34
    → (next : State) → step s (quoted p) ≡ Some next → StandsAt text (to + 1) next
quoted_passes {text} {at} {s} st to p h b a h' b' next e =
    let closing : drop to text ≡ 34 ∷ drop (to + 1) text = drop_next text to h' ∙ ap (λ (x : ℕ). x ∷ drop (to + 1) text) b' in
    token_passes st (quoted p) next (drop (to + 1) text) (to + 1)
    (quoted_parts st to p h b a ∙ ap (λ (x : List ℕ). (34 ∷ spelling p) ++ x) closing ∙ sym (append_assoc (34 ∷ spelling p) (34 ∷ []) (drop (to + 1) text)))
    (let t : to ≡ (at + 1) + length (spelling p) = a.to_is in omega (arith, t, length-append (34 ∷ spelling p) (34 ∷ [])))
    a.each e
    (λ more tree same f.
    let (q, is) = quote_opens f.first (opened f.first 34 ((spelling p ++ 34 ∷ []) ++ more) f.rest f.is_one f.bytes_are) in
    let ok : IsTrue (list_all is_piece q) = subst (λ (t : Token). IsTrue (is_token t)) is f.is_one in
    let e1 : 34 ∷ ((spelling p ++ 34 ∷ []) ++ more) ≡ 34 ∷ ((spelling q ++ 34 ∷ []) ++ f.rest) = f.bytes_are ∙ ap (λ (t : Token). token_bytes t ++ f.rest) is in
    let e2 : (spelling p ++ 34 ∷ []) ++ more ≡ (spelling q ++ 34 ∷ []) ++ f.rest = cc in
    let (one, rest) = pieces_unique p q more f.rest (sym (append_assoc (spelling p) (34 ∷ []) more) ∙ e2 ∙ append_assoc (spelling q) (34 ∷ []) f.rest) a.each ok in
    (is ∙ ap quoted (sym one), rest))

-- the text ends inside the quotes
pub quoted_faults : {text : List ℕ} {at : ℕ} {s : State} (st : StandsAt text at s) (to : ℕ) (p : List Piece) → at < length text → get_or text at 0 ≡ 34 → ArePieces text (at + 1) to p → IsOpen (drop to text)
    → ((q : List Piece) → (next : State) × (step s (quoted q) ≡ Some next)) → IsFaultAt text (length text)
quoted_faults {text} {at} {s} st to p h b a left next =
    let e : st.after ≡ (34 ∷ spelling p) ++ drop to text = quoted_parts st to p h b a in
    faults_inside st st.after [] (length text) (sym (append-nil st.after))
    (let w : length text ≡ length (st.before ++ st.after) = ap length st.whole in let q : at ≡ length st.before = st.place in omega (arith, w, q, length-append st.before st.after))
    (completed left)
    (λ nil v r.
    let (q, y, ok, is) = quoted_first s (spelling p ++ drop to text) v (subst (λ (x : List ℕ). Rest s x v) e r) in
    pieces_open p q (drop to text) y is a.each ok left)
    (λ c cs is more v r. let z : [] ≡ c ∷ cs = is in cc)
  where
    finished : (q : List Piece) (left tail : List ℕ) → IsTrue (list_all is_piece q) → drop to text ≡ left
        → ((l : List ℕ) → ((34 ∷ spelling p) ++ left) ++ (tail ++ l) ≡ token_bytes (quoted q) ++ l) → IsTrue (list_all is_byte tail) → (more : List ℕ) × IsTrue (list_all is_byte more) × (v : ConstraintTree) × Rest s (st.after ++ more) v
    finished q left tail ok d e bytes =
        let (n, st_is) = next q in
        let l = live n in
        let after : st.after ≡ (34 ∷ spelling p) ++ left = quoted_parts st to p h b a ∙ ap (λ (x : List ℕ). (34 ∷ spelling p) ++ x) d in
        (tail ++ l.0, rw (list_all-append is_byte tail l.0, bytes) l.1, l.2, subst (λ (x : List ℕ). Rest s x l.2) (sym (ap (λ (x : List ℕ). x ++ (tail ++ l.0)) after ∙ e l.0)) (rest_back s n (quoted q) l.0 l.2 st_is ok l.3))

    completed : IsOpen (drop to text) → (more : List ℕ) × IsTrue (list_all is_byte more) × (v : ConstraintTree) × Rest s (st.after ++ more) v
    completed (inl d) = finished p [] (34 ∷ []) a.each d (λ l. simp (append-nil, append_assoc)) refl
    completed (inr d) = finished (p ++ escaped 34 ∷ []) (92 ∷ []) (34 ∷ 34 ∷ []) (rw (list_all-append is_piece p (escaped 34 ∷ []), a.each) refl) d (λ l. simp (flat_map-append, append_assoc)) refl

pub value_next : (s : State) → ReadsValue s → (q : List Piece) → (next : State) × (step s (quoted q) ≡ Some next)
value_next (Compared items clauses labels n o) k q = (Clausal items (clauses ++ compare labels n o (language.text q) ∷ []), refl)
value_next (Bracing items clauses labels n o values) k q = (Braced items clauses labels n o values (language.text q), refl)
value_next _ k q = absurd k

pub value_quote_faults : {bytes : List ℕ} {at : ℕ} {s : State} (st : StandsAt bytes at s) → ReadsValue s → (to : ℕ) (p : List Piece) → at < length bytes → get_or bytes at 0 ≡ 34 → ArePieces bytes (at + 1) to p → IsOpen (drop to bytes) → IsFaultAt bytes (length bytes)
value_quote_faults {bytes} {at} {s} st k to p h b a left = quoted_faults st to p h b a left (value_next s k)
