-- A text has one list of whole tokens from a place on.
use Rattle.std.proofs.Common.{◌≡◌, List, [], ◌∷◌, ◌++◌, ℕ, ◌+◌, length, drop, refl, sym, ap, subst, ◌∙◌, append_assoc, Bool, true, false, not, ◌==◌, IsTrue, ◌⊎◌, inl, inr}
use Rattle.std.specs.List.{list_all}
use Rattle.plain_lemmas.proofs.Lists.{has_item}
use Rattle.viable.specs.Quoted.{spelling}
use Rattle.viable.specs.Runs.{ends_with}
use Rattle.viable.proofs.Tests.{and_parts}
use Rattle.viable.proofs.Runs.{run_unique, run_valid, run_begins}
use Rattle.viable.proofs.Pieces.{pieces_unique, pieces_open}
use Rattle.text_tokens.specs.Tokens.{Token, sign, word, quoted, Placed, is_white, is_sign, is_word_byte, token_bytes, is_token, is_whole, Next, NoToken, IsPart, Reads}

pub false_true : (b : Bool) → b ≡ true → not b ≡ true → ⊥
false_true true e n = cc
false_true false e n = cc

sign_parts : (signs : List ℕ) (b : ℕ) → IsTrue (is_token signs (sign b)) → IsTrue (not (is_white b)) × IsTrue (not (b == 34)) × IsTrue (is_sign signs b)
sign_parts signs b h = let (r, s) = and_parts _ _ h in let (a, q) = and_parts _ _ r in (a, q, s)

word_parts : (signs : List ℕ) (b : ℕ) → IsTrue (is_word_byte signs b) → IsTrue (not (is_white b)) × IsTrue (not (b == 34)) × IsTrue (not (is_sign signs b))
word_parts signs b h = let (r, s) = and_parts _ _ h in let (a, q) = and_parts _ _ r in (a, q, s)

-- a sign is in no word
sign_no_word : (signs : List ℕ) (b c : ℕ) (xs ys : List ℕ) → IsTrue (is_token signs (sign b)) → IsTrue (is_word_byte signs c) → b ∷ xs ≡ c ∷ ys → ⊥
sign_no_word signs b c xs ys s w e =
    let same : b ≡ c = cc in
    false_true (is_sign signs c) (subst (λ (z : ℕ). IsTrue (is_sign signs z)) same (sign_parts signs b s).2) (word_parts signs c w).2

sign_no_quote : (signs : List ℕ) (b : ℕ) (xs ys : List ℕ) → IsTrue (is_token signs (sign b)) → b ∷ xs ≡ 34 ∷ ys → ⊥
sign_no_quote signs b xs ys s e =
    let same : b ≡ 34 = cc in
    false_true (34 == 34) refl (subst (λ (z : ℕ). IsTrue (not (z == 34))) same (sign_parts signs b s).1)

word_no_quote : (signs : List ℕ) (c : ℕ) (xs ys : List ℕ) → IsTrue (is_word_byte signs c) → c ∷ xs ≡ 34 ∷ ys → ⊥
word_no_quote signs c xs ys w e =
    let same : c ≡ 34 = cc in
    false_true (34 == 34) refl (subst (λ (z : ℕ). IsTrue (not (z == 34))) same (word_parts signs c w).1)

-- behind a whole word no byte of a word comes
whole_ends : (signs w x : List ℕ) → IsTrue (is_whole signs (word w) x) → IsTrue (ends_with (is_word_byte signs) x)
whole_ends signs w [] h = refl
whole_ends signs w (b ∷ x) h = h

-- one token begins a text
token_same : (signs : List ℕ) (t u : Token) (x y : List ℕ) → IsTrue (is_token signs t) → IsTrue (is_token signs u) → IsTrue (is_whole signs t x) → IsTrue (is_whole signs u y)
    → token_bytes t ++ x ≡ token_bytes u ++ y → (t ≡ u) × (x ≡ y)
token_same signs (sign b) (sign c) x y ok ok' wh wh' e = let same : b ≡ c = cc in (ap sign same, (let g : x ≡ y = cc in g))
token_same signs (sign b) (word w) x y ok ok' wh wh' e =
    let (c, cs, is, one) = run_begins (is_word_byte signs) w ok' in
    absurd (sign_no_word signs b c x (cs ++ y) ok one (e ∙ ap (λ (z : List ℕ). z ++ y) is))
token_same signs (sign b) (quoted p) x y ok ok' wh wh' e = absurd (sign_no_quote signs b x _ ok e)
token_same signs (word w) (sign b) x y ok ok' wh wh' e =
    let (c, cs, is, one) = run_begins (is_word_byte signs) w ok in
    absurd (sign_no_word signs b c y (cs ++ x) ok' one (sym e ∙ ap (λ (z : List ℕ). z ++ x) is))
token_same signs (word w) (word v) x y ok ok' wh wh' e =
    let (same, rest) = run_unique (is_word_byte signs) w v x y e (run_valid _ w ok) (run_valid _ v ok') (whole_ends signs w x wh) (whole_ends signs v y wh') in
    (ap word same, sym rest)
token_same signs (word w) (quoted p) x y ok ok' wh wh' e =
    let (c, cs, is, one) = run_begins (is_word_byte signs) w ok in
    absurd (word_no_quote signs c (cs ++ x) _ one (ap (λ (z : List ℕ). z ++ x) (sym is) ∙ e))
token_same signs (quoted p) (sign b) x y ok ok' wh wh' e = absurd (sign_no_quote signs b y _ ok' (sym e))
token_same signs (quoted p) (word w) x y ok ok' wh wh' e =
    let (c, cs, is, one) = run_begins (is_word_byte signs) w ok' in
    absurd (word_no_quote signs c (cs ++ y) _ one (ap (λ (z : List ℕ). z ++ y) (sym is) ∙ sym e))
token_same signs (quoted p) (quoted q) x y ok ok' wh wh' e =
    let e2 : (spelling p ++ 34 ∷ []) ++ x ≡ (spelling q ++ 34 ∷ []) ++ y = cc in
    let (same, rest) = pieces_unique p q x y (sym (append_assoc (spelling p) (34 ∷ []) x) ∙ e2 ∙ append_assoc (spelling q) (34 ∷ []) y) ok ok' in
    (ap quoted same, sym rest)

-- a token begins with no white space
token_unwhite : (signs : List ℕ) (t : Token) (x : List ℕ) → IsTrue (is_token signs t) → IsTrue (ends_with is_white (token_bytes t ++ x))
token_unwhite signs (sign b) x ok = (sign_parts signs b ok).0
token_unwhite signs (word w) x ok =
    let (c, cs, is, one) = run_begins (is_word_byte signs) w ok in
    subst (λ (z : List ℕ). IsTrue (ends_with is_white (z ++ x))) (sym is) (word_parts signs c one).0
token_unwhite signs (quoted p) x ok = refl

pub next_same : (signs text : List ℕ) (at p b p' b' : ℕ) (t t' : Token) → Next signs text at p b t → Next signs text at p' b' t' → (t ≡ t') × (p ≡ p') × (b ≡ b')
next_same signs text at p b p' b' t t' n m =
    let e : n.white ++ drop p text ≡ m.white ++ drop p' text = sym n.white_is ∙ m.white_is in
    let u = subst (λ (z : List ℕ). IsTrue (ends_with is_white z)) (sym n.token_at.bytes_are) (token_unwhite signs t (drop b text) n.token_at.is_one) in
    let v = subst (λ (z : List ℕ). IsTrue (ends_with is_white z)) (sym m.token_at.bytes_are) (token_unwhite signs t' (drop b' text) m.token_at.is_one) in
    let (white, rest) = run_unique is_white n.white m.white (drop p text) (drop p' text) e n.all_white m.all_white u v in
    let same = token_same signs t t' (drop b text) (drop b' text) n.token_at.is_one m.token_at.is_one n.token_at.whole m.token_at.whole (sym n.token_at.bytes_are ∙ sym rest ∙ m.token_at.bytes_are) in
    let place : p ≡ p' = (n.place_is ∙ ap (λ (z : List ℕ). at + length z) white ∙ sym m.place_is) in
    (same.0, place, n.token_at.behind_is ∙ ap (λ (k : ℕ). k + length (token_bytes t)) place ∙ ap (λ (z : Token). p' + length (token_bytes z)) same.0 ∙ sym m.token_at.behind_is)

part_unwhite : (signs left : List ℕ) → IsPart signs left → IsTrue (ends_with is_white left)
part_unwhite signs [] part = refl
part_unwhite signs (b ∷ left) (inl all) = (word_parts signs b (and_parts _ _ all).0).0
part_unwhite signs (b ∷ left) (inr (p, end, ok, o, e)) = let same : b ≡ 34 = cc in rw same refl

-- what is left begins with no whole token
token_no_part : (signs : List ℕ) (t : Token) (x left : List ℕ) → IsTrue (is_token signs t) → IsTrue (is_whole signs t x) → IsPart signs left → token_bytes t ++ x ≡ left → ⊥
token_no_part signs (sign b) x left ok wh (inl all) e =
    let h : IsTrue (list_all (is_word_byte signs) (b ∷ x)) = subst (λ (z : List ℕ). IsTrue (list_all (is_word_byte signs) z)) (sym e) all in
    sign_no_word signs b b x x ok (and_parts _ _ h).0 refl
token_no_part signs (sign b) x left ok wh (inr (p, end, each, o, is)) e = sign_no_quote signs b x _ ok (e ∙ is)
token_no_part signs (word w) [] left ok wh (inl all) e = let z : false ≡ true = wh in cc
token_no_part signs (word w) (c ∷ x) left ok wh (inl all) e =
    let h : IsTrue (list_all (is_word_byte signs) (w ++ c ∷ x)) = subst (λ (z : List ℕ). IsTrue (list_all (is_word_byte signs) z)) (sym e) all in
    false_true (is_word_byte signs c) (has_item (is_word_byte signs) w c x h) wh
token_no_part signs (word w) x left ok wh (inr (p, end, each, o, is)) e =
    let (c, cs, begins, one) = run_begins (is_word_byte signs) w ok in
    word_no_quote signs c (cs ++ x) _ one (ap (λ (z : List ℕ). z ++ x) (sym begins) ∙ e ∙ is)
token_no_part signs (quoted p) x left ok wh (inl all) e =
    let h : IsTrue (list_all (is_word_byte signs) (34 ∷ ((spelling p ++ 34 ∷ []) ++ x))) = subst (λ (z : List ℕ). IsTrue (list_all (is_word_byte signs) z)) (sym e) all in
    let first : IsTrue (is_word_byte signs 34) = (and_parts (is_word_byte signs 34) (list_all (is_word_byte signs) ((spelling p ++ 34 ∷ []) ++ x)) h).0 in
    false_true (34 == 34) refl (word_parts signs 34 first).1
token_no_part signs (quoted p) x left ok wh (inr (q, end, each, o, is)) e =
    let f : 34 ∷ ((spelling p ++ 34 ∷ []) ++ x) ≡ 34 ∷ (spelling q ++ end) = e ∙ is in
    let g : (spelling p ++ 34 ∷ []) ++ x ≡ spelling q ++ end = cc in
    pieces_open q p end x (sym g ∙ append_assoc (spelling p) (34 ∷ []) x) each ok o

-- where no whole token is left, none comes next
pub no_next : (signs text : List ℕ) (at p b : ℕ) (t : Token) → Next signs text at p b t → NoToken signs (drop at text) → ⊥
no_next signs text at p b t n m =
    let e : n.white ++ drop p text ≡ m.white ++ m.left = sym n.white_is ∙ m.bytes_are in
    let u = subst (λ (z : List ℕ). IsTrue (ends_with is_white z)) (sym n.token_at.bytes_are) (token_unwhite signs t (drop b text) n.token_at.is_one) in
    let (white, rest) = run_unique is_white n.white m.white (drop p text) m.left e n.all_white m.all_white u (part_unwhite signs m.left m.part) in
    token_no_part signs t (drop b text) m.left n.token_at.is_one n.token_at.whole m.part (sym n.token_at.bytes_are ∙ sym rest)

-- Two lists of whole tokens from one place on: one goes on where the other ends.
abbrev pub Compares : List ℕ → List ℕ → List Placed → List Placed → ℕ → ℕ → Type 0
Compares signs text ts us to to' =
    ((vs : List Placed) × (us ≡ ts ++ vs) × Reads signs text to vs to')
    ⊎ ((v : Placed) × (vs : List Placed) × (ts ≡ us ++ v ∷ vs) × Reads signs text to' (v ∷ vs) to)

pub reads_compare : (signs text : List ℕ) (at to to' : ℕ) (ts us : List Placed) → Reads signs text at ts to → Reads signs text at us to' → Compares signs text ts us to to'
reads_compare signs text at to to' [] us r s = inl (us, refl, subst (λ (k : ℕ). Reads signs text k us to') (sym r) s)
reads_compare signs text at to to' (t ∷ ts) [] r s = inr (t, ts, refl, subst (λ (k : ℕ). Reads signs text k (t ∷ ts) to) (sym s) r)
reads_compare signs text at to to' (t ∷ ts) (u ∷ us) (b, n, r) (b', m, s) =
    let (token, place, behind) = next_same signs text at t.place b u.place b' t.token u.token n m in
    let same : t ≡ u = (λ i. record { token = token i; place = place i }) in
    with_same same (reads_compare signs text b to to' ts us r (subst (λ (k : ℕ). Reads signs text k us to') (sym behind) s))
  where
    with_same : t ≡ u → Compares signs text ts us to to' → Compares signs text (t ∷ ts) (u ∷ us) to to'
    with_same same (inl (vs, e, rest)) = inl (vs, (let g : u ∷ us ≡ t ∷ (ts ++ vs) = cc in g), rest)
    with_same same (inr (v, vs, e, rest)) = inr (v, vs, (let g : t ∷ ts ≡ u ∷ (us ++ v ∷ vs) = cc in g), rest)

-- the tokens that are read are tokens
pub reads_valid : (signs text : List ℕ) (at to : ℕ) (ts : List Placed) → Reads signs text at ts to → IsTrue (list_all (λ t. is_token signs t.token) ts)
reads_valid signs text at to [] r = refl
reads_valid signs text at to (t ∷ ts) (b, n, r) = rw (n.token_at.is_one, reads_valid signs text b to ts r) refl
