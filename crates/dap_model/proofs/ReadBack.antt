-- The tokens of a printed DDS are those of its slots.
use Rattle.std.proofs.Common.{◌≡◌, ℕ, zero, suc, ◌+◌, List, [], ◌∷◌, ◌++◌, length, map, replicate, true, false, ◌||◌, not, nat_lt, if◌then◌else◌, codes, refl, ap, ◌∙◌, sym, subst, arith, append_assoc, append-nil, length-append}
use Rattle.std.proofs.lemmas.Bool.{false≢true, or_right, not-true}
use Rattle.std.proofs.lemmas.List.{map-append}
use Rattle.std.specs.List.{list_all}
use Rattle.plain_lemmas.proofs.Truths.{both_true}
use Rattle.dap_types.specs.declared.declarations.BaseType.{BaseType}
use Rattle.dap_types.specs.declared.declarations.BaseType.TheVariants.{Byte, Int16, UInt16, Int32, UInt32, Float32, Float64, Text, Url}
use Rattle.dap_model.specs.Dds.{type_word, line, typed}
use Rattle.dap_model.specs.Tokens.{Token, Placed, is_white, is_sign, is_plain, is_word, ended, sign_at, tokens_from}
use Rattle.dap_model.specs.Tokens as token

abbrev pub tokens : List Placed → List Token
tokens ps = map (λ p. p.token) ps

-- the word that ends behind these bytes, if there is one
abbrev pub word_of : List ℕ → List Token
word_of [] = []
word_of (b ∷ bs) = token.word (b ∷ bs) ∷ []

-- behind the front of a word the text gives these tokens, and leaves that front of a word
abbrev pub Reads : List ℕ → List ℕ → List Token → List ℕ → Type 0
Reads text front ts left = (at : ℕ) (rest : List ℕ) → tokens (tokens_from front at (text ++ rest)) ≡ ts ++ tokens (tokens_from left (at + length text) rest)

pub reads_append : (a b front middle left : List ℕ) (ts us : List Token) → Reads a front ts middle → Reads b middle us left → Reads (a ++ b) front (ts ++ us) left
reads_append a b front middle left ts us first second at rest =
    let later : at + length a + length b ≡ at + length (a ++ b) = omega (arith, length-append a b) in
    ap (λ l. tokens (tokens_from front at l)) (append_assoc a b rest) ∙ first at (b ++ rest) ∙ ap (λ l. ts ++ l) (second (at + length a) rest)
    ∙ sym (append_assoc ts us (tokens (tokens_from left (at + length a + length b) rest))) ∙ ap (λ n. (ts ++ us) ++ tokens (tokens_from left n rest)) later

pub reads_none : (front : List ℕ) → Reads [] front [] front
reads_none front at rest = let same : at ≡ at + 0 = omega arith in ap (λ n. tokens (tokens_from front n rest)) same

pub reads_word : (w front : List ℕ) → list_all is_plain w ≡ true → Reads w front [] (front ++ w)
reads_word [] front plain at rest =
    let same : at ≡ at + 0 = omega arith in
    ap (λ f. tokens (tokens_from f at rest)) (sym (append-nil front)) ∙ ap (λ n. tokens (tokens_from (front ++ []) n rest)) same
reads_word (b ∷ w) front plain at rest =
    let both = both_true (is_plain b) (list_all is_plain w) plain in
    let here : (is_white b || is_sign b) ≡ false = not-true (is_white b || is_sign b) both.0 in
    let later : at + 1 + length w ≡ at + length (b ∷ w) = omega arith in
    rw here (reads_word w (front ++ b ∷ []) both.1 (at + 1) rest
    ∙ ap (λ f. tokens (tokens_from f (at + 1 + length w) rest)) (append_assoc front (b ∷ []) w) ∙ ap (λ n. tokens (tokens_from (front ++ b ∷ w) n rest)) later)

ended_word : (front : List ℕ) (at : ℕ) (ps qs : List Placed) → tokens ((ended front at ++ ps) ++ qs) ≡ word_of front ++ (tokens ps ++ tokens qs)
ended_word [] at ps qs = map-append (λ p. p.token) ps qs
ended_word (b ∷ bs) at ps qs = ap (λ ts. token.word (b ∷ bs) ∷ ts) (map-append (λ p. p.token) ps qs)

-- a sign, and a white byte, end the word before them
pub reads_sign : (s : ℕ) (front : List ℕ) → is_sign s ≡ true → Reads (s ∷ []) front (word_of front ++ token.sign s ∷ []) []
reads_sign s front signs at rest =
    let here : (is_white s || is_sign s) ≡ true = or_right (is_white s) (is_sign s) signs in
    let there : sign_at s at ≡ record { token = token.sign s; place = at } ∷ [] = rw signs in
    ap (λ b. tokens (if b then ended front at ++ sign_at s at ++ tokens_from [] (at + 1) rest else tokens_from (front ++ s ∷ []) (at + 1) rest)) here
    ∙ ended_word front at (sign_at s at) (tokens_from [] (at + 1) rest)
    ∙ ap (λ ps. word_of front ++ (tokens ps ++ tokens (tokens_from [] (at + 1) rest))) there
    ∙ sym (append_assoc (word_of front) (token.sign s ∷ []) (tokens (tokens_from [] (at + 1) rest)))

pub reads_white : (b : ℕ) (front : List ℕ) → is_white b ≡ true → is_sign b ≡ false → Reads (b ∷ []) front (word_of front) []
reads_white b front white signs at rest =
    let here : (is_white b || is_sign b) ≡ true = rw white in
    let there : sign_at b at ≡ [] = rw signs in
    ap (λ c. tokens (if c then ended front at ++ sign_at b at ++ tokens_from [] (at + 1) rest else tokens_from (front ++ b ∷ []) (at + 1) rest)) here
    ∙ ended_word front at (sign_at b at) (tokens_from [] (at + 1) rest)
    ∙ ap (λ ps. word_of front ++ (tokens ps ++ tokens (tokens_from [] (at + 1) rest))) there

pub reads_as : (text front : List ℕ) (ts us : List Token) (left : List ℕ) → ts ≡ us → Reads text front ts left → Reads text front us left
reads_as text front ts us left same reads = subst (λ l. Reads text front l left) same reads

reads_spaces : (n : ℕ) → Reads (replicate n 32) [] [] []
reads_spaces zero = reads_none []
reads_spaces (suc n) = reads_append (32 ∷ []) (replicate n 32) [] [] [] [] [] (reads_white 32 [] refl refl) (reads_spaces n)

-- a line of whole tokens
pub reads_line : (n : ℕ) (text : List ℕ) (ts : List Token) → Reads text [] ts [] → Reads (line n text) [] ts []
unfolding line
reads_line n text ts reads =
    reads_as (replicate n 32 ++ text ++ codes "\n") [] (ts ++ []) ts [] (append-nil ts)
    (reads_append (replicate n 32 ++ text) (codes "\n") [] [] [] ts [] (reads_append (replicate n 32) text [] [] [] [] ts (reads_spaces n) reads) (reads_white 10 [] refl refl))

-- a word is not empty, and its bytes are plain
pub word_plain : (w : List ℕ) → is_word w ≡ true → list_all is_plain w ≡ true
word_plain w is = (both_true (nat_lt 0 (length w)) (list_all is_plain w) is).1

pub word_some : (w : List ℕ) → is_word w ≡ true → word_of w ≡ token.word w ∷ []
word_some [] is = absurd (false≢true is)
word_some (b ∷ w) is = refl

type_is_word : (base : BaseType) → is_word (type_word base) ≡ true
type_is_word Byte = refl
type_is_word Int16 = refl
type_is_word UInt16 = refl
type_is_word Int32 = refl
type_is_word UInt32 = refl
type_is_word Float32 = refl
type_is_word Float64 = refl
type_is_word Text = refl
type_is_word Url = refl

-- a word and a sign, and a word, a space and a sign
pub reads_word_sign : (w : List ℕ) (s : ℕ) → is_word w ≡ true → is_sign s ≡ true → Reads (w ++ s ∷ []) [] (token.word w ∷ token.sign s ∷ []) []
reads_word_sign w s is signs =
    reads_as (w ++ s ∷ []) [] (word_of w ++ token.sign s ∷ []) (token.word w ∷ token.sign s ∷ []) [] (ap (λ ts. ts ++ token.sign s ∷ []) (word_some w is))
    (reads_append w (s ∷ []) [] w [] [] (word_of w ++ token.sign s ∷ []) (reads_word w [] (word_plain w is)) (reads_sign s w signs))

reads_word_space : (w : List ℕ) → is_word w ≡ true → Reads (w ++ codes " ") [] (token.word w ∷ []) []
reads_word_space w is =
    reads_as (w ++ codes " ") [] (word_of w) (token.word w ∷ []) [] (word_some w is)
    (reads_append w (codes " ") [] w [] [] (word_of w) (reads_word w [] (word_plain w is)) (reads_white 32 w refl refl))

pub reads_opening : (w : List ℕ) → is_word w ≡ true → Reads (w ++ codes " {") [] (token.word w ∷ token.sign 123 ∷ []) []
reads_opening w is =
    subst (λ text. Reads text [] (token.word w ∷ token.sign 123 ∷ []) []) (append_assoc w (codes " ") (codes "{"))
    (reads_append (w ++ codes " ") (codes "{") [] [] [] (token.word w ∷ []) (token.sign 123 ∷ []) (reads_word_space w is) (reads_sign 123 [] refl))

-- a type word and a name, of which the end has still to come
pub reads_typed : (base : BaseType) (own : List ℕ) → is_word own ≡ true → Reads (typed base own) [] (token.word (type_word base) ∷ []) own
reads_typed base own is =
    reads_append (type_word base ++ codes " ") own [] [] own (token.word (type_word base) ∷ []) [] (reads_word_space (type_word base) (type_is_word base)) (reads_word own [] (word_plain own is))

pub reads_closing : (own : List ℕ) → is_word own ≡ true → Reads (codes "} " ++ own ++ codes ";") [] (token.sign 125 ∷ token.word own ∷ token.sign 59 ∷ []) []
reads_closing own is =
    subst (λ text. Reads text [] (token.sign 125 ∷ token.word own ∷ token.sign 59 ∷ []) []) (sym (append_assoc (codes "} ") own (codes ";")))
    (reads_append (codes "} ") (own ++ codes ";") [] [] [] (token.sign 125 ∷ []) (token.word own ∷ token.sign 59 ∷ [])
    (reads_append (codes "}") (codes " ") [] [] [] (token.sign 125 ∷ []) [] (reads_sign 125 [] refl) (reads_white 32 [] refl refl)) (reads_word_sign own 59 is refl))
