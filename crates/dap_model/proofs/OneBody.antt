-- Bytes have one head, and are the body of one dataset and one list of values.
use Rattle.std.proofs.Common.{◌≡◌, ℕ, ◌+◌, ◌≤◌, ◌⊎◌, inl, inr, ⊎_elim, Bool, true, false, ◌||◌, if◌then◌else◌, List, [], ◌∷◌, ◌++◌, length, map, codes, refl, sym, ap, subst, ◌∙◌, append_assoc, append-nil, arith}
use Rattle.std.specs.Cmp.Lexicographic.{pointwise}
use Rattle.std.specs.List.{AllPass}
use Rattle.std.proofs.lemmas.Bool.{false≢true}
use Rattle.std.proofs.lemmas.List.{append_cancel_left, append_cancel_right, map-append}
use Rattle.std.proofs.lemmas.List.Elements.{All-head, All-tail}
use Rattle.std.proofs.lemmas.Bool.{cases_lt}
use Rattle.plain_lemmas.proofs.Lists.{cons_first, cons_rest, last_part, shorter_front}
use Rattle.plain_lemmas.proofs.Truths.{both_true}
use Rattle.dap_types.specs.Model.{Dataset, Tree}
use Rattle.dap_model.proofs.Following.{dataset_same}
use Rattle.dap_model.proofs.OneSpelling.{one_spelling}
use Rattle.dap_model.specs.Body.{IsBody, IsHead}
use Rattle.dap_model.specs.Grammar.{DdsOf, Judged, StandsFor, spells}
use Rattle.dap_model.specs.Tokens.{Placed, Token, ended, is_sign, is_white, sign_at, tokens_from, tokens_of}
use Rattle.dap_model.specs.Xdr.{Spells}

abbrev Spelled : List Judged → List Token → Type 0
Spelled js ts = pointwise spells (map (λ j. j.slot) js) ts ≡ true

-- tokens spell the one, and they and more the other: so there are no more, and E
abbrev Ends : Type 0 → List Judged → List Judged → Type 0
Ends E js js' = (ts more : List Token) → Spelled js ts → Spelled js' (ts ++ more) → (more ≡ []) × E

ends_step : (E : Type 0) (j j' : Judged) (js js' : List Judged)
    → ((t : Token) → spells j.slot t ≡ true → spells j'.slot t ≡ true → (j.broken ≡ j'.broken) × Ends E js js') → Ends E (j ∷ js) (j' ∷ js')
ends_step E j j' js js' one [] more a b = absurd (false≢true a)
ends_step E j j' js js' one (t ∷ ts) more a b =
    let left = both_true (spells j.slot t) (pointwise spells (map (λ k. k.slot) js) ts) a in
    let right = both_true (spells j'.slot t) (pointwise spells (map (λ k. k.slot) js') (ts ++ more)) b in (one t left.0 right.0).1 ts more left.1 right.1

none_end : (E : Type 0) → E → Ends E [] []
none_end E e [] [] a b = (refl, e)
none_end E e [] (m ∷ more) a b = absurd (false≢true b)
none_end E e (t ∷ ts) more a b = absurd (false≢true a)

-- behind the tokens of a dataset no others follow
none_follow : (ts more : List Token) (d d' : Dataset) → StandsFor ts d → StandsFor (ts ++ more) d' → (more ≡ []) × (d ≡ d')
none_follow ts more d d' stands stands' =
    dataset_same (Ends (d ≡ d')) (ends_step (d ≡ d')) d d' stands.0 stands'.0 (λ same. none_end (d ≡ d') same) ts more stands.1 stands'.1

abbrev pub bare : List Placed → List Token
bare ps = map (λ (p : Placed). p.token) ps

-- the tokens of more bytes begin with those of the bytes
more_tokens : (front : List ℕ) (at : ℕ) (xs ys : List ℕ) → (f : List ℕ) × (n : ℕ) × (tokens_from front at (xs ++ ys) ≡ tokens_from front at xs ++ tokens_from f n ys)
more_tokens front at [] ys = (front, at, refl)
more_tokens front at (b ∷ xs) ys = by (is_white b || is_sign b) (more_tokens [] (at + 1) xs ys) (more_tokens (front ++ b ∷ []) (at + 1) xs ys)
  where
    by : (c : Bool)
        → ((f : List ℕ) × (n : ℕ) × (tokens_from [] (at + 1) (xs ++ ys) ≡ tokens_from [] (at + 1) xs ++ tokens_from f n ys))
        → ((f : List ℕ) × (n : ℕ) × (tokens_from (front ++ b ∷ []) (at + 1) (xs ++ ys) ≡ tokens_from (front ++ b ∷ []) (at + 1) xs ++ tokens_from f n ys))
        → (f : List ℕ) × (n : ℕ)
        × ((if c then ended front at ++ sign_at b at ++ tokens_from [] (at + 1) (xs ++ ys) else tokens_from (front ++ b ∷ []) (at + 1) (xs ++ ys))
        ≡ (if c then ended front at ++ sign_at b at ++ tokens_from [] (at + 1) xs else tokens_from (front ++ b ∷ []) (at + 1) xs) ++ tokens_from f n ys)
    by true (f, n, is) other =
        (f, n, ap (λ l. (ended front at ++ sign_at b at) ++ l) is ∙ sym (append_assoc (ended front at ++ sign_at b at) (tokens_from [] (at + 1) xs) (tokens_from f n ys)))
    by false other rest = rest

none_behind : (xs ys : List Placed) → bare (xs ++ ys) ≡ [] → bare ys ≡ []
none_behind [] ys e = e
none_behind (x ∷ xs) ys e = cc

-- bytes that end with a semicolon hold a token
holds_token : (front : List ℕ) (at : ℕ) (w : List ℕ) → bare (tokens_from front at (w ++ 59 ∷ [])) ≡ [] → ⊥
holds_token [] at [] none = cc
holds_token (f ∷ front) at [] none = cc
holds_token front at (b ∷ w) none = by (is_white b || is_sign b) none (λ e. holds_token [] (at + 1) w e) (λ e. holds_token (front ++ b ∷ []) (at + 1) w e)
  where
    by : (c : Bool) → bare (if c then ended front at ++ sign_at b at ++ tokens_from [] (at + 1) (w ++ 59 ∷ []) else tokens_from (front ++ b ∷ []) (at + 1) (w ++ 59 ∷ [])) ≡ []
        → (bare (tokens_from [] (at + 1) (w ++ 59 ∷ [])) ≡ [] → ⊥) → (bare (tokens_from (front ++ b ∷ []) (at + 1) (w ++ 59 ∷ [])) ≡ [] → ⊥) → ⊥
    by true e first second = first (none_behind (ended front at ++ sign_at b at) (tokens_from [] (at + 1) (w ++ 59 ∷ [])) e)
    by false e first second = second e

pub not_none : (xs ys : List ℕ) (x : ℕ) → xs ++ x ∷ ys ≡ [] → ⊥
not_none [] ys x e = cc
not_none (z ∷ xs) ys x e = cc

-- a text that begins with a text is no longer
same_text : (xs u : List ℕ) (d e : Dataset) → DdsOf xs d → DdsOf (xs ++ u) e → (u ≡ []) × (d ≡ e)
same_text xs u d e a b =
    let (f, n, grown) = more_tokens [] 0 xs u in
    let more : tokens_of (xs ++ u) ≡ tokens_of xs ++ bare (tokens_from f n u) = ap bare grown ∙ map-append (λ (p : Placed). p.token) (tokens_from [] 0 xs) (tokens_from f n u) in
    let end = none_follow (tokens_of xs) (bare (tokens_from f n u)) d e a.stands (subst (λ ts. StandsFor ts e) more b.stands) in
    let (w, last) = b.ends in
    (none f n u w last end.0, end.1)
  where
    none : (f : List ℕ) (n : ℕ) (u w : List ℕ) → xs ++ u ≡ w ++ codes ";" → bare (tokens_from f n u) ≡ [] → u ≡ []
    none f n [] w last empty = refl
    none f n (c ∷ cs) w last empty =
        let (v, is) = last_part xs cs w c 59 last in
        absurd (holds_token f n v (ap (λ x. bare (tokens_from f n x)) (sym is) ∙ empty))

longer_text : (xs ys rs ss : List ℕ) (d e : Dataset) → DdsOf xs d → DdsOf ys e → xs ++ rs ≡ ys ++ ss → length xs ≤ length ys → (xs ≡ ys) × (d ≡ e)
longer_text xs ys rs ss d e a b same le =
    let (u, is) = shorter_front xs ys rs ss same le in
    let one = same_text xs u d e a (subst (λ zs. DdsOf zs e) is b) in
    (sym (append-nil xs) ∙ ap (λ z. xs ++ z) (sym one.0) ∙ sym is, one.1)

-- bytes begin with one text
one_text_front : (xs ys rs ss : List ℕ) (d e : Dataset) → DdsOf xs d → DdsOf ys e → xs ++ rs ≡ ys ++ ss → (xs ≡ ys) × (d ≡ e)
one_text_front xs ys rs ss d e a b same =
    ⊎_elim (λ lt. let other = longer_text ys xs ss rs e d b a (sym same) (omega arith) in (sym other.0, sym other.1)) (λ le. longer_text xs ys rs ss d e a b same le) (cases_lt (length ys) (length xs))

pub white_d : is_white 68 ≡ true → ⊥
white_d e = cc

-- white space before `D` is the same
same_white : (ws vs rs ss : List ℕ) → AllPass is_white ws → AllPass is_white vs → ws ++ 68 ∷ rs ≡ vs ++ 68 ∷ ss → rs ≡ ss
same_white [] [] rs ss a b e = cons_rest 68 68 rs ss e
same_white [] (v ∷ vs) rs ss a b e = absurd (white_d (subst (λ x. is_white x ≡ true) (sym (cons_first 68 v rs (vs ++ 68 ∷ ss) e)) (All-head (λ x. is_white x ≡ true) v vs b)))
same_white (w ∷ ws) [] rs ss a b e = absurd (white_d (subst (λ x. is_white x ≡ true) (cons_first w 68 (ws ++ 68 ∷ rs) ss e) (All-head (λ x. is_white x ≡ true) w ws a)))
same_white (w ∷ ws) (v ∷ vs) rs ss a b e = same_white ws vs rs ss (All-tail (λ x. is_white x ≡ true) w ws a) (All-tail (λ x. is_white x ≡ true) v vs b) (cons_rest w v (ws ++ 68 ∷ rs) (vs ++ 68 ∷ ss) e)

abbrev IsEnd : List ℕ → Type 0
IsEnd end = (end ≡ codes "\n") ⊎ (end ≡ codes "\r\n")

same_end : (e f rs ss : List ℕ) → IsEnd e → IsEnd f → e ++ rs ≡ f ++ ss → rs ≡ ss
same_end e f rs ss (inl a) (inl b) q = cons_rest 10 10 rs ss (sym (ap (λ x. x ++ rs) a) ∙ q ∙ ap (λ x. x ++ ss) b)
same_end e f rs ss (inr a) (inr b) q = cons_rest 10 10 rs ss (cons_rest 13 13 (10 ∷ rs) (10 ∷ ss) (sym (ap (λ x. x ++ rs) a) ∙ q ∙ ap (λ x. x ++ ss) b))
same_end e f rs ss (inl a) (inr b) q = absurd (apart (cons_first 10 13 rs (10 ∷ ss) (sym (ap (λ x. x ++ rs) a) ∙ q ∙ ap (λ x. x ++ ss) b)))
  where
    apart : Path ℕ 10 13 → ⊥
    apart p = cc
same_end e f rs ss (inr a) (inl b) q = absurd (apart (cons_first 13 10 (10 ∷ rs) ss (sym (ap (λ x. x ++ rs) a) ∙ q ∙ ap (λ x. x ++ ss) b)))
  where
    apart : Path ℕ 13 10 → ⊥
    apart p = cc

-- a head and what follows, from the text on
laid : (h vs : List ℕ) (d : Dataset) (is : IsHead h d) → h ++ vs ≡ is.text ++ (is.white ++ 68 ∷ (97 ∷ 116 ∷ 97 ∷ 58 ∷ (is.end ++ vs)))
laid h vs d is =
    ap (λ x. x ++ vs) is.parts
    ∙ append_assoc (is.text ++ is.white ++ codes "Data:") is.end vs
    ∙ append_assoc (is.text ++ is.white) (codes "Data:") (is.end ++ vs)
    ∙ append_assoc is.text is.white (codes "Data:" ++ (is.end ++ vs))

pub one_head : (h k vs ws : List ℕ) (d e : Dataset) → IsHead h d → IsHead k e → h ++ vs ≡ k ++ ws → (h ≡ k) × (d ≡ e) × (vs ≡ ws)
one_head h k vs ws d e a b q =
    let ra : List ℕ = a.white ++ 68 ∷ (97 ∷ 116 ∷ 97 ∷ 58 ∷ (a.end ++ vs)) in
    let rb : List ℕ = b.white ++ 68 ∷ (97 ∷ 116 ∷ 97 ∷ 58 ∷ (b.end ++ ws)) in
    let same : a.text ++ ra ≡ b.text ++ rb = sym (laid h vs d a) ∙ q ∙ laid k ws e b in
    let one = one_text_front a.text b.text ra rb d e a.is_text b.is_text same in
    let behind : ra ≡ rb = append_cancel_left a.text ra rb (same ∙ ap (λ t. t ++ rb) (sym one.0)) in
    let line_is = same_white a.white b.white (97 ∷ 116 ∷ 97 ∷ 58 ∷ (a.end ++ vs)) (97 ∷ 116 ∷ 97 ∷ 58 ∷ (b.end ++ ws)) a.is_white b.is_white behind in
    let rest = cons_rest 58 58 _ _ (cons_rest 97 97 _ _ (cons_rest 116 116 _ _ (cons_rest 97 97 _ _ line_is))) in
    let values = same_end a.end b.end vs ws a.is_end b.is_end rest in
    (append_cancel_right h k ws (ap (λ z. h ++ z) (sym values) ∙ q), one.1, values)

pub one_body : (bs : List ℕ) (d e : Dataset) (ts us : List Tree) → IsBody bs d ts → IsBody bs e us → (d ≡ e) × (ts ≡ us)
one_body bs d e ts us a b =
    let (heads, datasets, values) = one_head a.head b.head a.values b.values d e a.is_head b.is_head (sym a.parts ∙ b.parts) in
    let second : Spells d us b.values = subst (λ x. Spells x us b.values) (sym datasets) b.is_values in
    (datasets, (one_spelling d ts us a.values [] a.is_values (subst (Spells d us) (sym values ∙ sym (append-nil a.values)) second)).0)
