-- Tokens as bytes: with which byte each begins, and how a spaced text splits into its first token and the rest.
use Rattle.viable.proofs.Tests.{and_parts, or_parts}
use Rattle.std.proofs.Common.{◌≡◌, List, [], ◌∷◌, ◌++◌, ℕ, ◌<◌, refl, ap, subst, ◌∙◌, Bool, true, false, ◌==◌, IsTrue, arith, inl, inr}
use Rattle.std.specs.List.{list_all}
use Rattle.std.proofs.lemmas.Bool.{eqb-true, eq-eqb, ne_eqb, ltb-true}
use Rattle.std.proofs.lemmas.Bool.Decides.{nat_tests}
use Rattle.constraint_parse.specs.Language.{is_blank, is_digit, is_name_byte, is_word_byte, equal, not_equal, less, less_equal, greater, greater_equal, matches, Token, name, number, word, argument, quoted, operator, comma, ampersand, dot, colon, open_bracket, close_bracket, open_brace, close_brace, token_bytes, is_token, IsSpaced}
use Rattle.viable.specs.Runs.{is_run}

pub name_not_blank : (b : ℕ) → IsTrue (is_name_byte b) → is_blank b ≡ false
name_not_blank b h =
    let above : 32 < b = ltb-true 32 b (and_parts _ _ (and_parts _ _ h).0).0 in
    rw (ne_eqb b 9 (omega arith), ne_eqb b 32 (omega arith)) refl

pub digit_not_blank : (b : ℕ) → IsTrue (is_digit b) → is_blank b ≡ false
digit_not_blank b h = grind (arith, nat_tests)

pub word_not_blank : (b : ℕ) → IsTrue (is_word_byte b) → is_blank b ≡ false
word_not_blank b h = elim (or_parts _ _ h) [
  | inl g ↦ elim (or_parts _ _ g) [ inl n ↦ name_not_blank b n | inr d ↦ rw (eqb-true b 46 d) refl ]
  | inr c ↦ rw (eqb-true b 58 c) refl
]

-- a token of this kind may begin with the byte
abbrev pub opens : Token → ℕ → Bool
opens (name _) b = is_name_byte b
opens (number _) b = is_digit b
opens (word _) b = is_word_byte b
opens (argument _) b = b == 40
opens (quoted _) b = b == 34
opens (operator equal) b = b == 61
opens (operator not_equal) b = b == 33
opens (operator less) b = b == 60
opens (operator less_equal) b = b == 60
opens (operator greater) b = b == 62
opens (operator greater_equal) b = b == 62
opens (operator matches) b = b == 61
opens comma b = b == 44
opens ampersand b = b == 38
opens dot b = b == 46
opens colon b = b == 58
opens open_bracket b = b == 91
opens close_bracket b = b == 93
opens open_brace b = b == 123
opens close_brace b = b == 125

abbrev pub Opens : Token → ℕ → Type 0
Opens t b = IsTrue (opens t b)

head_is : (b c : ℕ) (bs cs : List ℕ) → b ∷ bs ≡ c ∷ cs → IsTrue (b == c)
head_is b c bs cs e = eq-eqb b c (let h : b ≡ c = cc in h)

run_opens : (p : ℕ → Bool) (run : List ℕ) (b : ℕ) (bs rest : List ℕ) → IsTrue (is_run p run) → b ∷ bs ≡ run ++ rest → IsTrue (p b)
run_opens p [] b bs rest v e = cc
run_opens p (x ∷ run) b bs rest v e =
    let same : x ≡ b = cc in subst (λ (y : ℕ). IsTrue (p y)) same (and_parts _ _ v).0

pub opened : (t : Token) (b : ℕ) (bs rest : List ℕ) → IsTrue (is_token t) → b ∷ bs ≡ token_bytes t ++ rest → Opens t b
opened (name n) b bs rest v e = run_opens is_name_byte n b bs rest v e
opened (number n) b bs rest v e = run_opens is_digit n b bs rest v e
opened (word n) b bs rest v e = run_opens is_word_byte n b bs rest v e
opened (operator equal) b bs rest v e = head_is b _ bs _ e
opened (operator not_equal) b bs rest v e = head_is b _ bs _ e
opened (operator less) b bs rest v e = head_is b _ bs _ e
opened (operator less_equal) b bs rest v e = head_is b _ bs _ e
opened (operator greater) b bs rest v e = head_is b _ bs _ e
opened (operator greater_equal) b bs rest v e = head_is b _ bs _ e
opened (operator matches) b bs rest v e = head_is b _ bs _ e
opened _ b bs rest v e = head_is b _ bs _ e

run_head : (p : ℕ → Bool) → ((b : ℕ) → IsTrue (p b) → is_blank b ≡ false) → (run more : List ℕ) → IsTrue (is_run p run)
    → (b : ℕ) × (bs : List ℕ) × (run ++ more ≡ b ∷ bs) × (is_blank b ≡ false)
run_head p q [] more v = cc
run_head p q (x ∷ run) more v = (x, run ++ more, refl, q x (and_parts _ _ v).0)

-- a token begins with a byte that is unblank blank
pub token_head : (t : Token) (more : List ℕ) → IsTrue (is_token t) → (b : ℕ) × (bs : List ℕ) × (token_bytes t ++ more ≡ b ∷ bs) × (is_blank b ≡ false)
token_head (name n) more v = run_head is_name_byte name_not_blank n more v
token_head (number n) more v = run_head is_digit digit_not_blank n more v
token_head (word n) more v = run_head is_word_byte word_not_blank n more v
token_head (argument a) more v = (40, (a ++ 41 ∷ []) ++ more, refl, refl)
token_head (quoted p) more v = (34, _, refl, refl)
token_head (operator equal) more v = (61, _, refl, refl)
token_head (operator not_equal) more v = (33, _, refl, refl)
token_head (operator less) more v = (60, _, refl, refl)
token_head (operator less_equal) more v = (60, _, refl, refl)
token_head (operator greater) more v = (62, _, refl, refl)
token_head (operator greater_equal) more v = (62, _, refl, refl)
token_head (operator matches) more v = (61, _, refl, refl)
token_head comma more v = (44, more, refl, refl)
token_head ampersand more v = (38, more, refl, refl)
token_head dot more v = (46, more, refl, refl)
token_head colon more v = (58, more, refl, refl)
token_head open_bracket more v = (91, more, refl, refl)
token_head close_bracket more v = (93, more, refl, refl)
token_head open_brace more v = (123, more, refl, refl)
token_head close_brace more v = (125, more, refl, refl)

-- a spaced text that begins with unblank blank is a token and a spaced text
pub record FirstToken (text : List ℕ) (tokens : List Token) : Type 0 where
  pub first : Token
  pub others : List Token
  pub rest : List ℕ
  pub tokens_are : tokens ≡ first ∷ others
  pub is_one : IsTrue (is_token first)
  pub bytes_are : text ≡ token_bytes first ++ rest
  pub spaced : IsSpaced rest others

pub first_token : (b : ℕ) (bs : List ℕ) (tokens : List Token) → is_blank b ≡ false → IsSpaced (b ∷ bs) tokens → FirstToken (b ∷ bs) tokens
first_token b bs [] unblank h = let t : is_blank b ≡ true = (and_parts _ _ h).0 in cc
first_token b bs (t ∷ tokens) unblank (blanks, rest, all, ok, e, spaced) = from blanks all e
  where
    from : (blanks : List ℕ) → IsTrue (list_all is_blank blanks) → b ∷ bs ≡ blanks ++ (token_bytes t ++ rest) → FirstToken (b ∷ bs) (t ∷ tokens)
    from [] all e = record { first = t; others = tokens; rest = rest; tokens_are = refl; is_one = ok; bytes_are = e; spaced = spaced }
    from (x ∷ blanks) all e = let s : x ≡ b = cc in let y : is_blank x ≡ true = (and_parts _ _ all).0 in cc

-- one blank more in front
pub blank_more : (b : ℕ) (text : List ℕ) (tokens : List Token) → is_blank b ≡ true → IsSpaced text tokens → IsSpaced (b ∷ text) tokens
blank_more b text [] h s = rw (h, s) refl
blank_more b text (t ∷ tokens) h (blanks, rest, all, ok, e, spaced) = (b ∷ blanks, rest, rw (h, all) refl, ok, ap (λ (x : List ℕ). b ∷ x) e, spaced)

pub blank_less : (b : ℕ) (text : List ℕ) (tokens : List Token) → is_blank b ≡ true → IsSpaced (b ∷ text) tokens → IsSpaced text tokens
blank_less b text [] h s = (and_parts _ _ s).1
blank_less b text (t ∷ tokens) h (blanks, rest, all, ok, e, spaced) = from blanks all e
  where
    from : (blanks : List ℕ) → IsTrue (list_all is_blank blanks) → b ∷ text ≡ blanks ++ (token_bytes t ++ rest) → IsSpaced text (t ∷ tokens)
    from [] all e =
        let (c, cs, same, unblank) = token_head t rest ok in
        let head : b ∷ text ≡ c ∷ cs = e ∙ same in cc
    from (x ∷ blanks) all e = (blanks, rest, (and_parts _ _ all).1, ok, (let s : text ≡ blanks ++ (token_bytes t ++ rest) = cc in s), spaced)
