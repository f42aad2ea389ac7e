-- The tokens of a DDS are those of its text with the signs of a DDS.
use Rattle.std.proofs.Common.{◌≡◌, ℕ, ◌+◌, ◌-◌, List, [], ◌∷◌, ◌++◌, length, map, drop, refl, sym, ap, subst, ◌∙◌, append_assoc, append-nil, Bool, true, false, ◌||◌, ◌&&◌, not, ◌==◌, IsTrue, inl, inr, arith}
use Rattle.std.specs.List.{list_all}
use Rattle.std.proofs.lemmas.Bool.{eqb-true, eqb-false, ne_eqb}
use Rattle.std.proofs.lemmas.Bool.Decides.{nat_tests}
use Rattle.viable.proofs.Tests.{and_parts}
use Rattle.viable.specs.Runs.{is_run}
use Rattle.viable.specs.Quoted.{spelling}
use Rattle.viable.proofs.Runs.{run_valid}
use Rattle.dap_model.specs.Tokens as dds
use Rattle.dap_model.specs.Tokens.{ended, sign_at, tokens_from, whole_tokens}
use Rattle.text_tokens.specs.Tokens.{Token, sign, word, quoted, Placed, is_white, is_word_byte, token_bytes, is_token, is_whole, Next, IsPart, Reads, AreTokens}
use Rattle.das_text.specs.DdsTokens.{dds_signs, NoQuotes, NoQuoteNext, is_quoted, dds_token, dds_placed}

-- classes of bytes

pub eq_swap : (b c : ℕ) → (b == c) ≡ (c == b)
eq_swap b c = on (b == c) refl
  where
    on : (x : Bool) → (b == c) ≡ x → x ≡ (c == b)
    on true e = (let same : b ≡ c = eqb-true b c e in subst (λ (z : ℕ). true ≡ (c == z)) (sym same) (let r : (c == c) ≡ true = grind (arith, nat_tests) in sym r))
    on false e = sym (ne_eqb c b (λ h. eqb-false b c e (sym h)))

pub or_four : (p q r s : Bool) → (p || (q || (r || (s || false)))) ≡ (((p || q) || r) || s)
or_four true q r s = refl
or_four false true r s = refl
or_four false false true s = refl
or_four false false false true = refl
or_four false false false false = refl

pub white_same : (b : ℕ) → dds.is_white b ≡ is_white b
white_same b = rw (eq_swap 9 b, eq_swap 10 b, eq_swap 13 b, eq_swap 32 b) (or_four (b == 9) (b == 10) (b == 13) (b == 32))

-- white space is no sign
white_unsigned : (b : ℕ) → is_white b ≡ true → dds.is_sign b ≡ false
white_unsigned b h = by (b == 9) (b == 10) (b == 13) (b == 32) refl refl refl refl h
  where
    is : (n : ℕ) → (b == n) ≡ true → dds.is_sign n ≡ false → dds.is_sign b ≡ false
    is n e f = subst (λ (z : ℕ). dds.is_sign z ≡ false) (sym (eqb-true b n e)) f

    by : (p q r s : Bool) → (b == 9) ≡ p → (b == 10) ≡ q → (b == 13) ≡ r → (b == 32) ≡ s → (((p || q) || r) || s) ≡ true → dds.is_sign b ≡ false
    by true q r s e f g k t = is 9 e refl
    by false true r s e f g k t = is 10 f refl
    by false false true s e f g k t = is 13 g refl
    by false false false true e f g k t = is 32 k refl
    by false false false false e f g k t = cc

-- a byte of a word
plain_byte : (b : ℕ) → IsTrue (is_word_byte dds_signs b) → (dds.is_white b || dds.is_sign b) ≡ false
plain_byte b h = let (r, s) = and_parts _ _ h in let (a, q) = and_parts _ _ r in on (is_white b) (dds.is_sign b) refl refl a s
  where
    on : (x y : Bool) → is_white b ≡ x → dds.is_sign b ≡ y → not x ≡ true → not y ≡ true → (dds.is_white b || dds.is_sign b) ≡ false
    on false false e f g k = rw (white_same b, e, f) refl
    on true y e f g k = cc
    on false true e f g k = cc

-- a byte that ends a word, and is no quote
other_byte : (b : ℕ) → IsTrue (not (is_word_byte dds_signs b)) → IsTrue (not (b == 34)) → (dds.is_white b || dds.is_sign b) ≡ true
other_byte b h quote = on (is_white b) (b == 34) (dds.is_sign b) refl refl refl quote h
  where
    on : (x q y : Bool) → is_white b ≡ x → (b == 34) ≡ q → dds.is_sign b ≡ y → not q ≡ true → not (not x && not q && not y) ≡ true → (dds.is_white b || dds.is_sign b) ≡ true
    on true q y e g f k h = rw (white_same b, e) refl
    on false q true e g f k h = rw (white_same b, e, f) refl
    on false true false e g f k h = cc
    on false false false e g f k h = cc

-- the tokens of a DDS from a place on

from_white : (b at : ℕ) (rest : List ℕ) → is_white b ≡ true → tokens_from [] at (b ∷ rest) ≡ tokens_from [] (at + 1) rest
from_white b at rest h =
    let w : (dds.is_white b || dds.is_sign b) ≡ true = rw (white_same b, h) refl in
    rw (w, white_unsigned b h) refl

over_white : (white : List ℕ) (at : ℕ) (rest : List ℕ) → IsTrue (list_all is_white white) → tokens_from [] at (white ++ rest) ≡ tokens_from [] (at + length white) rest
over_white [] at rest h = let e : at ≡ at + 0 = omega arith in ap (λ (k : ℕ). tokens_from [] k rest) e
over_white (b ∷ white) at rest h =
    let e : (at + 1) + length white ≡ at + length (b ∷ white) = omega arith in
    from_white b at (white ++ rest) (and_parts _ _ h).0 ∙ over_white white (at + 1) rest (and_parts _ _ h).1 ∙ ap (λ (k : ℕ). tokens_from [] k rest) e

over_plain : (w front : List ℕ) (at : ℕ) (rest : List ℕ) → IsTrue (list_all (is_word_byte dds_signs) w) → tokens_from front at (w ++ rest) ≡ tokens_from (front ++ w) (at + length w) rest
over_plain [] front at rest h = let e : at ≡ at + 0 = omega arith in ap (λ (k : ℕ). tokens_from front k rest) e ∙ ap (λ (z : List ℕ). tokens_from z (at + 0) rest) (sym (append-nil front))
over_plain (b ∷ w) front at rest h =
    let p : (dds.is_white b || dds.is_sign b) ≡ false = plain_byte b (and_parts _ _ h).0 in
    let one : tokens_from front at (b ∷ (w ++ rest)) ≡ tokens_from (front ++ b ∷ []) (at + 1) (w ++ rest) = rw p refl in
    let e : (at + 1) + length w ≡ at + length (b ∷ w) = omega arith in
    one ∙ over_plain w (front ++ b ∷ []) (at + 1) rest (and_parts _ _ h).1 ∙ ap (λ (k : ℕ). tokens_from ((front ++ b ∷ []) ++ w) k rest) e ∙ ap (λ (z : List ℕ). tokens_from z (at + length (b ∷ w)) rest) (append_assoc front (b ∷ []) w)

-- where a word ends
at_stop : (front : List ℕ) (c at : ℕ) (rest : List ℕ) → (dds.is_white c || dds.is_sign c) ≡ true → tokens_from front at (c ∷ rest) ≡ ended front at ++ tokens_from [] at (c ∷ rest)
at_stop front c at rest h = rw h (append_assoc (ended front at) (sign_at c at) (tokens_from [] (at + 1) rest))

word_here : (w : List ℕ) (place : ℕ) → IsTrue (is_run (is_word_byte dds_signs) w) → ended w (place + length w) ≡ record { token = dds.word w; place = place } ∷ []
word_here [] place h = cc
word_here (b ∷ w) place h = let e : (place + length (b ∷ w)) - length (b ∷ w) ≡ place = omega arith in ap (λ (k : ℕ). record { token = dds.word (b ∷ w); place = k } ∷ []) e

sign_here : (b place : ℕ) (rest : List ℕ) → dds.is_sign b ≡ true → tokens_from [] place (b ∷ rest) ≡ record { token = dds.sign b; place = place } ∷ tokens_from [] (place + 1) rest
sign_here b place rest h = on (dds.is_white b) refl
  where
    on : (x : Bool) → dds.is_white b ≡ x → tokens_from [] place (b ∷ rest) ≡ record { token = dds.sign b; place = place } ∷ tokens_from [] (place + 1) rest
    on true e = rw (e, h) refl
    on false e = rw (e, h) refl

one_token : (t : Token) (place : ℕ) (rest : List ℕ) → IsTrue (is_token dds_signs t) → IsTrue (is_whole dds_signs t rest) → is_quoted t ≡ false → NoQuoteNext rest
    → tokens_from [] place (token_bytes t ++ rest) ≡ record { token = dds_token t; place = place } ∷ tokens_from [] (place + length (token_bytes t)) rest
one_token (sign b) place rest ok whole plain quote = sign_here b place rest (and_parts _ _ ok).1
one_token (word w) place [] ok whole plain quote = cc
one_token (word w) place (c ∷ rest) ok whole plain quote =
    over_plain w [] place (c ∷ rest) (run_valid (is_word_byte dds_signs) w ok)
    ∙ at_stop w c (place + length w) rest (other_byte c whole quote)
    ∙ ap (λ (z : List dds.Placed). z ++ tokens_from [] (place + length w) (c ∷ rest)) (word_here w place ok)
one_token (quoted p) place rest ok whole plain quote = cc

-- the next token, where it is not quoted and no quote comes behind it
pub next_agrees : (text : List ℕ) (at place behind : ℕ) (t : Token) → Next dds_signs text at place behind t → is_quoted t ≡ false → NoQuoteNext (drop behind text)
    → tokens_from [] at (drop at text) ≡ record { token = dds_token t; place = place } ∷ tokens_from [] behind (drop behind text)
next_agrees text at place behind t n plain quote =
    ap (tokens_from [] at) n.white_is
    ∙ over_white n.white at (drop place text) n.all_white
    ∙ ap (λ (k : ℕ). tokens_from [] k (drop place text)) (sym n.place_is)
    ∙ ap (tokens_from [] place) n.token_at.bytes_are
    ∙ one_token t place (drop behind text) n.token_at.is_one n.token_at.whole plain quote
    ∙ ap (λ (k : ℕ). record { token = dds_token t; place = place } ∷ tokens_from [] k (drop behind text)) (sym n.token_at.behind_is)

-- texts without quotes

no_quotes_behind : (xs ys : List ℕ) → NoQuotes (xs ++ ys) → NoQuotes ys
no_quotes_behind [] ys h = h
no_quotes_behind (x ∷ xs) ys h = no_quotes_behind xs ys (and_parts _ _ h).1

no_quote_next : (l : List ℕ) → NoQuotes l → NoQuoteNext l
no_quote_next [] h = tt
no_quote_next (b ∷ l) h = (and_parts _ _ h).0

not_quoted : (t : Token) (rest : List ℕ) → NoQuotes (token_bytes t ++ rest) → is_quoted t ≡ false
not_quoted (sign b) rest h = refl
not_quoted (word w) rest h = refl
not_quoted (quoted p) rest h = absurd (let z : false ≡ true = (and_parts (not (34 == 34)) (list_all (λ b. not (b == 34)) ((spelling p ++ 34 ∷ []) ++ rest)) h).0 in cc)

-- nothing that is left is a token of a DDS
left_none : (left : List ℕ) (at : ℕ) → IsPart dds_signs left → NoQuotes left → tokens_from [] at left ≡ []
left_none left at (inl all) h = ap (tokens_from [] at) (sym (append-nil left)) ∙ over_plain left [] at [] all
left_none left at (inr (pieces, end, each, o, is)) h =
    let quoted_left : NoQuotes (34 ∷ (spelling pieces ++ end)) = subst NoQuotes is h in
    absurd (let z : false ≡ true = (and_parts (not (34 == 34)) (list_all (λ b. not (b == 34)) (spelling pieces ++ end)) quoted_left).0 in cc)

reads_agree : (text : List ℕ) (at to : ℕ) (tokens : List Placed) → Reads dds_signs text at tokens to → NoQuotes (drop at text) → (tokens_from [] at (drop at text) ≡ map dds_placed tokens ++ tokens_from [] to (drop to text)) × NoQuotes (drop to text)
reads_agree text at to [] r h = (ap (λ (k : ℕ). tokens_from [] k (drop k text)) (sym r), subst (λ (k : ℕ). NoQuotes (drop k text)) (sym r) h)
reads_agree text at to (t ∷ tokens) (behind, n, r) h =
    let at_token : NoQuotes (drop t.place text) = no_quotes_behind n.white (drop t.place text) (subst NoQuotes n.white_is h) in
    let in_token : NoQuotes (token_bytes t.token ++ drop behind text) = subst NoQuotes n.token_at.bytes_are at_token in
    let after : NoQuotes (drop behind text) = no_quotes_behind (token_bytes t.token) (drop behind text) in_token in
    let more = reads_agree text behind to tokens r after in
    (next_agrees text at t.place behind t.token n (not_quoted t.token (drop behind text) in_token) (no_quote_next (drop behind text) after) ∙ ap (λ (z : List dds.Placed). dds_placed t ∷ z) more.0, more.1)

-- the whole tokens of a text without quotes
pub tokens_agree : (text : List ℕ) (tokens : List Placed) → NoQuotes text → AreTokens dds_signs text tokens → whole_tokens text ≡ map dds_placed tokens
tokens_agree text tokens h (to, r, none) =
    let (is, rest) = reads_agree text 0 to tokens r h in
    let left : NoQuotes none.left = no_quotes_behind none.white none.left (subst NoQuotes none.bytes_are rest) in
    let nothing : tokens_from [] to (drop to text) ≡ [] = ap (tokens_from [] to) none.bytes_are ∙ over_white none.white to none.left none.all_white ∙ left_none none.left (to + length none.white) none.part left in
    is ∙ ap (λ (z : List dds.Placed). map dds_placed tokens ++ z) nothing ∙ append-nil (map dds_placed tokens)
