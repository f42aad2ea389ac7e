-- From the tokens of some bytes to those of more.
use Rattle.std.proofs.Common.{◌≡◌, ℕ, ◌+◌, Bool, true, false, ◌||◌, not, if◌then◌else◌, List, [], ◌∷◌, ◌++◌, length, map, Option, Some, None, refl, sym, ap, ◌∙◌, append_assoc, append-nil, ◌-◌, ◌==◌, arith}
use Rattle.std.proofs.lemmas.List.{map-append}
use Rattle.std.specs.Option.{option_and_then}
use Rattle.dap_model.specs.Tokens.{Token, sign, word, Placed, is_white, is_sign, is_plain, ended, sign_at, tokens_from, whole_tokens, tokens_of}
use Rattle.dds_text.specs.inner.States.{State, begun, IsOpenState}
use Rattle.dds_text.specs.inner.Standing.{run, after_word, after_sign, StopsAt}
use Rattle.dds_text.specs.inner.Held.{go}
use Rattle.dds_text.specs.inner.Words.{left_from, left}

-- the tokens of more bytes
pub tokens_from-append : (front : List ℕ) (at end : ℕ) (xs ys : List ℕ) → at + length xs ≡ end
    → tokens_from front at (xs ++ ys) ≡ tokens_from front at xs ++ tokens_from (left_from front xs) end ys
tokens_from-append front at end [] ys e = let same : at ≡ end = omega arith in ap (λ n. tokens_from front n ys) same
tokens_from-append front at end (b ∷ xs) ys e =
    let later : (at + 1) + length xs ≡ end = omega arith in
    elim (is_white b || is_sign b) as (λ c. (if c then ended front at ++ sign_at b at ++ tokens_from [] (at + 1) (xs ++ ys) else tokens_from (front ++ b ∷ []) (at + 1) (xs ++ ys))
    ≡ (if c then ended front at ++ sign_at b at ++ tokens_from [] (at + 1) xs else tokens_from (front ++ b ∷ []) (at + 1) xs)
    ++ tokens_from (if c then left_from [] xs else left_from (front ++ b ∷ []) xs) end ys) [
      | true ↦
          ap (λ l. (ended front at ++ sign_at b at) ++ l) (tokens_from-append [] (at + 1) end xs ys later)
          ∙ sym (append_assoc (ended front at ++ sign_at b at) (tokens_from [] (at + 1) xs) (tokens_from (left_from [] xs) end ys))
      | false ↦ tokens_from-append (front ++ b ∷ []) (at + 1) end xs ys later
    ]

-- the word that is not whole at the end of more bytes
pub left_from-append : (front xs ys : List ℕ) → left_from front (xs ++ ys) ≡ left_from (left_from front xs) ys
left_from-append front [] ys = refl
left_from-append front (b ∷ xs) ys =
    elim (is_white b || is_sign b) as (λ c. (if c then left_from [] (xs ++ ys) else left_from (front ++ b ∷ []) (xs ++ ys)) ≡ left_from (if c then left_from [] xs else left_from (front ++ b ∷ []) xs) ys) [
      | true ↦ left_from-append [] xs ys
      | false ↦ left_from-append (front ++ b ∷ []) xs ys
    ]

pub whole_tokens-append : (text more : List ℕ) → whole_tokens (text ++ more) ≡ whole_tokens text ++ tokens_from (left text) (length text) more
whole_tokens-append text more = tokens_from-append [] 0 (length text) text more (omega arith)

some_is_not_none : {A : Type 0} {x : A} → Some x ≡ None → ⊥
some_is_not_none e = cc

-- the state behind more tokens
pub run-append : (s : State) (ts us : List Token) → run s (ts ++ us) ≡ option_and_then (λ next. run next us) (run s ts)
run-append s [] us = refl
run-append s (t ∷ ts) us =
    elim (go s t) as (λ o. option_and_then (λ next. run next (ts ++ us)) o ≡ option_and_then (λ next. run next us) (option_and_then (λ next. run next ts) o)) [
      | None ↦ refl
      | Some next ↦ run-append next ts us
    ]

pub run-one : (s : State) (t : Token) → run s (t ∷ []) ≡ go s t
run-one s t = by (go s t)
  where
    by : (o : Option State) → option_and_then (λ next. Some next) o ≡ o
    by None = refl
    by (Some next) = refl

-- behind the word that ends, and behind the byte that ends it
pub run-ended : (s : State) (w : List ℕ) (at : ℕ) → run s (map (λ (p : Placed). p.token) (ended w at)) ≡ after_word w s
run-ended s [] at = refl
run-ended s (b ∷ bs) at = run-one s (word (b ∷ bs))

pub run-sign_at : (s : State) (b at : ℕ) → run s (map (λ (p : Placed). p.token) (sign_at b at)) ≡ after_sign b s
run-sign_at s b at = by (is_sign b)
  where
    by : (c : Bool) → run s (map (λ (p : Placed). p.token) (if c then record { token = sign b; place = at } ∷ [] else [])) ≡ (if c then go s (sign b) else Some s)
    by true = run-one s (sign b)
    by false = refl

stops : (b : ℕ) → is_plain b ≡ false → (is_white b || is_sign b) ≡ true
stops b h = by (is_white b || is_sign b) h
  where
    by : (c : Bool) → not c ≡ false → c ≡ true
    by true e = refl
    by false e = cc

goes : (b : ℕ) → is_plain b ≡ true → (is_white b || is_sign b) ≡ false
goes b h = by (is_white b || is_sign b) h
  where
    by : (c : Bool) → not c ≡ true → c ≡ false
    by true e = cc
    by false e = refl

pub tokens_from-stop : (front : List ℕ) (at b : ℕ) (bs : List ℕ) → is_plain b ≡ false → tokens_from front at (b ∷ bs) ≡ ended front at ++ sign_at b at ++ tokens_from [] (at + 1) bs
tokens_from-stop front at b bs h = ap (λ c. if c then ended front at ++ sign_at b at ++ tokens_from [] (at + 1) bs else tokens_from (front ++ b ∷ []) (at + 1) bs) (stops b h)

-- a byte of a word
pub left-plain : (text : List ℕ) (b : ℕ) → is_plain b ≡ true → left (text ++ b ∷ []) ≡ left text ++ b ∷ []
left-plain text b h = left_from-append [] text (b ∷ []) ∙ ap (λ c. if c then [] else left text ++ b ∷ []) (goes b h)

pub tokens-plain : (text : List ℕ) (b : ℕ) → is_plain b ≡ true → tokens_of (text ++ b ∷ []) ≡ tokens_of text
tokens-plain text b h =
    ap (map (λ (p : Placed). p.token)) (whole_tokens-append text (b ∷ []) ∙ ap (λ c. whole_tokens text ++ (if c then ended (left text) (length text) ++ sign_at b (length text) ++ [] else [])) (goes b h) ∙ append-nil (whole_tokens text))

-- a byte behind a word
pub left-stop : (text : List ℕ) (b : ℕ) → is_plain b ≡ false → left (text ++ b ∷ []) ≡ []
left-stop text b h = left_from-append [] text (b ∷ []) ∙ ap (λ c. if c then [] else left text ++ b ∷ []) (stops b h)

pub tokens-stop : (text : List ℕ) (b : ℕ) (more : List ℕ) → is_plain b ≡ false
    → whole_tokens (text ++ b ∷ more) ≡ whole_tokens text ++ (ended (left text) (length text) ++ sign_at b (length text) ++ tokens_from [] (length text + 1) more)
tokens-stop text b more h = whole_tokens-append text (b ∷ more) ∙ ap (λ l. whole_tokens text ++ l) (tokens_from-stop (left text) (length text) b more h)

pub run-stop : (text w : List ℕ) (b : ℕ) (s s1 : State) → run begun (tokens_of text) ≡ Some s → w ≡ left text → is_plain b ≡ false → after_word w s ≡ Some s1
    → run begun (tokens_of (text ++ b ∷ [])) ≡ after_sign b s1
run-stop text w b s s1 r e h first =
    let E = map (λ (p : Placed). p.token) (ended (left text) (length text)) in
    let S = map (λ (p : Placed). p.token) (sign_at b (length text)) in
    let whole : tokens_of (text ++ b ∷ []) ≡ tokens_of text ++ (E ++ S) =
    ap (map (λ (p : Placed). p.token)) (tokens-stop text b [] h ∙ ap (λ l. whole_tokens text ++ l) (append-nil (ended (left text) (length text) ++ sign_at b (length text))))
    ∙ map-append (λ p. p.token) (whole_tokens text) (ended (left text) (length text) ++ sign_at b (length text))
    ∙ ap (λ l. tokens_of text ++ l) (map-append (λ p. p.token) (ended (left text) (length text)) (sign_at b (length text))) in
    let word_ends : run s E ≡ Some s1 = run-ended s (left text) (length text) ∙ ap (λ l. after_word l s) (sym e) ∙ first in
    ap (run begun) whole ∙ run-append begun (tokens_of text) (E ++ S) ∙ ap (option_and_then (λ next. run next (E ++ S))) r
    ∙ run-append s E S ∙ ap (option_and_then (λ next. run next S)) word_ends ∙ run-sign_at s1 b (length text)

-- a bad word
pub bad_word : (text w : List ℕ) (b : ℕ) (more : List ℕ) (began : ℕ) (s : State) → run begun (tokens_of text) ≡ Some s → w ≡ left text → is_plain b ≡ false → began + length (left text) ≡ length text
    → after_word w s ≡ None → IsOpenState s → StopsAt (text ++ b ∷ more) began
bad_word text w b more began s r e h at none is_open = by (left text) refl
  where
    rest : List Placed
    rest = sign_at b (length text) ++ tokens_from [] (length text + 1) more

    by : (l : List ℕ) → left text ≡ l → StopsAt (text ++ b ∷ more) began
    by [] p = absurd (let q : after_word [] s ≡ None = ap (λ x. after_word x s) (sym (e ∙ p)) ∙ none in some_is_not_none q)
    by (c ∷ cs) p = (
      whole_tokens text,
      rest,
      record { token = word (c ∷ cs); place = length text - length (c ∷ cs) },
      s,
      tokens-stop text b more h ∙ ap (λ l. whole_tokens text ++ (ended l (length text) ++ sign_at b (length text) ++ tokens_from [] (length text + 1) more)) p
          ∙ ap (λ l. whole_tokens text ++ l) (append_assoc (record { token = word (c ∷ cs); place = length text - length (c ∷ cs) } ∷ []) (sign_at b (length text)) (tokens_from [] (length text + 1) more)),
      omega (arith, at, ap length p),
      r,
      ap (λ x. after_word x s) (sym (e ∙ p)) ∙ none,
      is_open,
    )

-- a bad sign
pub bad_sign : (text w : List ℕ) (b : ℕ) (more : List ℕ) (s s1 : State) → run begun (tokens_of text) ≡ Some s → w ≡ left text → is_plain b ≡ false → after_word w s ≡ Some s1
    → after_sign b s1 ≡ None → IsOpenState s1 → StopsAt (text ++ b ∷ more) (length text)
bad_sign text w b more s s1 r e h first none is_open = by (is_sign b) refl
  where
    E : List Placed
    E = ended (left text) (length text)

    by : (c : Bool) → is_sign b ≡ c → StopsAt (text ++ b ∷ more) (length text)
    by false p = absurd (let q : Some s1 ≡ None = ap (λ c. if c then go s1 (sign b) else Some s1) (sym p) ∙ none in some_is_not_none q)
    by true p = (
      whole_tokens text ++ E,
      tokens_from [] (length text + 1) more,
      record { token = sign b; place = length text },
      s1,
      tokens-stop text b more h ∙ ap (λ c. whole_tokens text ++ (E ++ (if c then record { token = sign b; place = length text } ∷ [] else []) ++ tokens_from [] (length text + 1) more)) p
          ∙ ap (λ l. whole_tokens text ++ l) (append_assoc E (record { token = sign b; place = length text } ∷ []) (tokens_from [] (length text + 1) more))
          ∙ sym (append_assoc (whole_tokens text) E (record { token = sign b; place = length text } ∷ tokens_from [] (length text + 1) more)),
      refl,
      ap (run begun) (map-append (λ q. q.token) (whole_tokens text) E) ∙ run-append begun (tokens_of text) (map (λ (p : Placed). p.token) E) ∙ ap (option_and_then (λ next. run next (map (λ (p : Placed). p.token) E))) r
          ∙ run-ended s (left text) (length text) ∙ ap (λ l. after_word l s) (sym e) ∙ first,
      ap (λ c. if c then go s1 (sign b) else Some s1) (sym p) ∙ none,
      is_open,
    )

pub after_word-more : (w part : List ℕ) (s : State) → (length w == 0) ≡ false → after_word (w ++ part) s ≡ go s (word (w ++ part))
after_word-more [] part s h = cc
after_word-more (b ∷ bs) part s h = refl
