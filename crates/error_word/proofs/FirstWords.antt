-- From a front of the first word of a body to one with another byte.
use Rattle.std.proofs.Common.{◌≡◌, ℕ, zero, suc, ◌+◌, ◌<◌, ◌≤◌, Bool, true, false, not, ◌||◌, if◌then◌else◌, List, [], ◌∷◌, ◌++◌, length, take, map, codes, get_or, nat_eq, bytes_eq, ◌==◌, refl, sym, ap, subst, ◌∙◌, append_assoc, append-nil, drop, arith}
use Rattle.std.proofs.lemmas.Grind.{common_steps}
use Rattle.std.proofs.lemmas.Bool.{eqb-true, false≢true, not-true}
use Rattle.std.proofs.lemmas.List.{map-append}
use Rattle.std.proofs.lemmas.List.Elements.{All-cons, All-nil, All-append}
use Rattle.std.specs.Char.{to_ascii_lowercase}
use Rattle.std.specs.List.{AllPass}
use Rattle.std.specs.Str.{str_to_ascii_lowercase}
use Rattle.dap_errors.specs.Object.{is_error_word}
use Rattle.dap_model.specs.Tokens.{Token, Placed, sign, ended, is_plain, is_sign, is_white, sign_at, tokens_from, tokens_of, whole_tokens}
use Rattle.dds_text.specs.inner.Words.{left}
use Rattle.dds_text.proofs.Bytes.{left-plain, left-stop, tokens-plain, tokens-stop, tokens_from-stop, whole_tokens-append}
use Rattle.error_word.specs.Saying.{begins_error, says_error}
use Rattle.error_word.specs.inner.FirstWords.{IsError, IsNoError, HasLetters}
use Rattle.dap_model.proofs.OneBody.{bare}

-- of no bytes
pub no_bytes : HasLetters 0 []
no_bytes = record { white = []; parts = refl; is_white = All-nil (λ b. is_white b ≡ true); no_token = refl; is_front = refl; most = omega arith }

pub no_placed : (ps : List Placed) → bare ps ≡ [] → ps ≡ []
no_placed [] e = refl
no_placed (p ∷ ps) e = cc

-- the tokens behind a byte that ends a word
pub stopped : (bytes : List ℕ) (b : ℕ) (more : List ℕ) → tokens_of bytes ≡ [] → is_plain b ≡ false
    → tokens_of (bytes ++ b ∷ more) ≡ bare (ended (left bytes) (length bytes) ++ sign_at b (length bytes) ++ tokens_from [] (length bytes + 1) more)
stopped bytes b more none stop =
    ap bare (tokens-stop bytes b more stop ∙ ap (λ ps. ps ++ (ended (left bytes) (length bytes) ++ sign_at b (length bytes) ++ tokens_from [] (length bytes + 1) more)) (no_placed (whole_tokens bytes) none))

-- a word that is ended comes first
first_ended : (w : List ℕ) (at : ℕ) (signs rest : List Placed) (c : Bool) → is_error_word w ≡ c → (w ≡ [] → ⊥) → begins_error (bare (ended w at ++ signs ++ rest)) ≡ c
first_ended [] at signs rest c is some = absurd (some refl)
first_ended (x ∷ xs) at signs rest c is some = is

some_letters : (w : List ℕ) (n : ℕ) → str_to_ascii_lowercase w ≡ take n (codes "error") → n ≡ 0 → w ≡ []
some_letters [] n is none = refl
some_letters (x ∷ xs) zero is none = cc
some_letters (x ∷ xs) (suc n) is none = absurd (omega (arith, none))

no_letters : (w : List ℕ) (n : ℕ) → str_to_ascii_lowercase w ≡ take n (codes "error") → (n ≡ 0 → ⊥) → w ≡ [] → ⊥
no_letters w zero is some none = some refl
no_letters w (suc n) is some none = absurd (none_is (sym is ∙ ap str_to_ascii_lowercase none))
  where
    none_is : 101 ∷ take n (codes "rror") ≡ [] → ⊥
    none_is e = cc

-- the whole word
is_whole : (w : List ℕ) → str_to_ascii_lowercase w ≡ codes "error" → is_error_word w ≡ true
unfolding is_error_word
is_whole w is = ap (bytes_eq (codes "error")) is

pub ends_error : (bytes : List ℕ) (n b : ℕ) → HasLetters n bytes → n ≡ 5 → is_plain b ≡ false → IsError (bytes ++ b ∷ [])
unfolding says_error
ends_error bytes n b o five stop more =
    let front : str_to_ascii_lowercase (left bytes) ≡ codes "error" = o.is_front ∙ ap (λ k. take k (codes "error")) five in
    ap (λ l. begins_error (tokens_of l)) (append_assoc bytes (b ∷ []) more)
    ∙ ap begins_error (stopped bytes b more o.no_token stop)
    ∙ first_ended (left bytes) (length bytes) (sign_at b (length bytes)) (tokens_from [] (length bytes + 1) more) true (is_whole (left bytes) front) (no_letters (left bytes) 5 front (λ e. absurd (omega (arith, e))))

-- fewer letters are another word
short_word : (w : List ℕ) (n : ℕ) → n < 5 → str_to_ascii_lowercase w ≡ take n (codes "error") → is_error_word w ≡ false
unfolding is_error_word
short_word w n lt is = ap (bytes_eq (codes "error")) is ∙ by n lt
  where
    by : (n : ℕ) → n < 5 → bytes_eq (codes "error") (take n (codes "error")) ≡ false
    by zero lt = refl
    by (suc zero) lt = refl
    by (suc (suc zero)) lt = refl
    by (suc (suc (suc zero))) lt = refl
    by (suc (suc (suc (suc zero)))) lt = refl
    by (suc (suc (suc (suc (suc n))))) lt = absurd (omega (arith, lt))

pub ends_other : (bytes : List ℕ) (n b : ℕ) → HasLetters n bytes → (n ≡ 5 → ⊥) → is_plain b ≡ false → (n ≡ 0 → is_white b ≡ false) → IsNoError (bytes ++ b ∷ [])
unfolding says_error
ends_other bytes n b o five stop sign_first more =
    ap (λ l. begins_error (tokens_of l)) (append_assoc bytes (b ∷ []) more)
    ∙ ap begins_error (stopped bytes b more o.no_token stop)
    ∙ by n refl
  where
    a_sign : (c d : Bool) → is_white b ≡ c → is_sign b ≡ d → c ≡ false → not (c || d) ≡ false → begins_error (bare ((if d then record { token = sign b; place = length bytes } ∷ [] else []) ++ tokens_from [] (length bytes + 1) more)) ≡ false
    a_sign c true w s none st = refl
    a_sign c false w s none st = absurd (false≢true (sym st ∙ ap (λ x. not (x || false)) none))

    by : (k : ℕ) → k ≡ n → begins_error (bare (ended (left bytes) (length bytes) ++ sign_at b (length bytes) ++ tokens_from [] (length bytes + 1) more)) ≡ false
    by zero e =
        let none : left bytes ≡ [] = some_letters (left bytes) n o.is_front (sym e) in
        ap (λ l. begins_error (bare (ended l (length bytes) ++ sign_at b (length bytes) ++ tokens_from [] (length bytes + 1) more))) none ∙ a_sign (is_white b) (is_sign b) refl refl (sign_first (sym e)) stop
    by (suc k) e =
        let lt : n < 5 = omega (arith, o.most, five) in
        first_ended (left bytes) (length bytes) (sign_at b (length bytes)) (tokens_from [] (length bytes + 1) more) false (short_word (left bytes) n lt o.is_front) (no_letters (left bytes) n o.is_front (λ z. absurd (omega (arith, e, z))))

pub some_more : (w : List ℕ) (b : ℕ) → w ++ b ∷ [] ≡ [] → ⊥
some_more [] b e = cc
some_more (x ∷ xs) b e = cc

-- a word that is `Error` with no more bytes is never first
never : (w : List ℕ) (at : ℕ) (more : List ℕ) → (w ≡ [] → ⊥) → ((u : List ℕ) → is_error_word (w ++ u) ≡ false) → begins_error (bare (tokens_from w at more)) ≡ false
never w at [] some other = refl
never w at (b ∷ more) some other =
    by (is_plain b) refl (never (w ++ b ∷ []) (at + 1) more (some_more w b) (λ u. ap is_error_word (append_assoc w (b ∷ []) u) ∙ other (b ∷ u)))
  where
    by : (c : Bool) → is_plain b ≡ c → begins_error (bare (tokens_from (w ++ b ∷ []) (at + 1) more)) ≡ false → begins_error (bare (tokens_from w at (b ∷ more))) ≡ false
    by false stop later =
        ap (λ ps. begins_error (bare ps)) (tokens_from-stop w at b more stop)
        ∙ first_ended w at (sign_at b at) (tokens_from [] (at + 1) more) false (ap is_error_word (sym (append-nil w)) ∙ other []) some
    by true on later =
        ap (λ c. begins_error (bare (if c then ended w at ++ sign_at b at ++ tokens_from [] (at + 1) more else tokens_from (w ++ b ∷ []) (at + 1) more))) (not-true (is_white b || is_sign b) on) ∙ later

-- letters and then a byte that is not the next one
not_it : (w : List ℕ) (n b : ℕ) (u : List ℕ) → n ≤ 5 → str_to_ascii_lowercase w ≡ take n (codes "error") → (n < 5 → to_ascii_lowercase b ≡ get_or (codes "error") n 0 → ⊥)
    → is_error_word (w ++ b ∷ u) ≡ false
unfolding is_error_word
not_it w n b u most is differs =
    ap (bytes_eq (codes "error")) (map-append to_ascii_lowercase w (b ∷ u) ∙ ap (λ l. l ++ (to_ascii_lowercase b ∷ str_to_ascii_lowercase u)) is) ∙ by n most differs
  where
    apart : (c d : ℕ) (rest more : List ℕ) → (d ≡ c → ⊥) → bytes_eq (c ∷ rest) (d ∷ more) ≡ false
    apart c d rest more other = on (nat_eq c d) refl
      where
        on : (x : Bool) → nat_eq c d ≡ x → bytes_eq (c ∷ rest) (d ∷ more) ≡ false
        on true e = absurd (other (sym (eqb-true c d e)))
        on false e = rw e refl

    by : (n : ℕ) → n ≤ 5 → (n < 5 → to_ascii_lowercase b ≡ get_or (codes "error") n 0 → ⊥) → bytes_eq (codes "error") (take n (codes "error") ++ (to_ascii_lowercase b ∷ str_to_ascii_lowercase u)) ≡ false
    by zero most other = apart 101 (to_ascii_lowercase b) (codes "rror") (str_to_ascii_lowercase u) (other (omega arith))
    by (suc zero) most other = apart 114 (to_ascii_lowercase b) (codes "ror") (str_to_ascii_lowercase u) (other (omega arith))
    by (suc (suc zero)) most other = apart 114 (to_ascii_lowercase b) (codes "or") (str_to_ascii_lowercase u) (other (omega arith))
    by (suc (suc (suc zero))) most other = apart 111 (to_ascii_lowercase b) (codes "r") (str_to_ascii_lowercase u) (other (omega arith))
    by (suc (suc (suc (suc zero)))) most other = apart 114 (to_ascii_lowercase b) [] (str_to_ascii_lowercase u) (other (omega arith))
    by (suc (suc (suc (suc (suc zero))))) most other = refl
    by (suc (suc (suc (suc (suc (suc n)))))) most other = absurd (omega (arith, most))

next_letter : (n : ℕ) → n < 5 → take n (codes "error") ++ get_or (codes "error") n 0 ∷ [] ≡ take (n + 1) (codes "error")
next_letter zero lt = refl
next_letter (suc zero) lt = refl
next_letter (suc (suc zero)) lt = refl
next_letter (suc (suc (suc zero))) lt = refl
next_letter (suc (suc (suc (suc zero)))) lt = refl
next_letter (suc (suc (suc (suc (suc n))))) lt = absurd (omega (arith, lt))

pub one_letter : (bytes : List ℕ) (n b : ℕ) → HasLetters n bytes → n < 5 → is_plain b ≡ true → to_ascii_lowercase b ≡ get_or (codes "error") n 0 → HasLetters (n + 1) (bytes ++ b ∷ [])
one_letter bytes n b o lt on is = record {
  white = o.white;
  parts = ap (λ l. l ++ b ∷ []) o.parts ∙ append_assoc o.white (left bytes) (b ∷ []) ∙ ap (λ l. o.white ++ l) (sym (left-plain bytes b on));
  is_white = o.is_white;
  no_token = tokens-plain bytes b on ∙ o.no_token;
  is_front =
      ap str_to_ascii_lowercase (left-plain bytes b on) ∙ map-append to_ascii_lowercase (left bytes) (b ∷ [])
      ∙ ap (λ l. l ++ to_ascii_lowercase b ∷ []) o.is_front ∙ ap (λ c. take n (codes "error") ++ c ∷ []) is ∙ next_letter n lt;
  most = omega (arith, lt);
}

pub other_letter : (bytes : List ℕ) (n b : ℕ) → HasLetters n bytes → is_plain b ≡ true → (n < 5 → to_ascii_lowercase b ≡ get_or (codes "error") n 0 → ⊥) → IsNoError (bytes ++ b ∷ [])
unfolding says_error
other_letter bytes n b o on differs more =
    ap (λ l. begins_error (tokens_of l)) (append_assoc bytes (b ∷ []) more ∙ sym (append_assoc bytes (b ∷ []) more))
    ∙ ap begins_error (ap bare (whole_tokens-append (bytes ++ b ∷ []) more ∙ ap (λ ps. ps ++ tokens_from (left (bytes ++ b ∷ [])) (length (bytes ++ b ∷ [])) more) (no_placed (whole_tokens (bytes ++ b ∷ [])) (tokens-plain bytes b on ∙ o.no_token)))
    ∙ ap (λ w. bare (tokens_from w (length (bytes ++ b ∷ [])) more)) (left-plain bytes b on))
    ∙ never (left bytes ++ b ∷ []) (length (bytes ++ b ∷ [])) more (some_more (left bytes) b) (λ u. ap is_error_word (append_assoc (left bytes) (b ∷ []) u) ∙ not_it (left bytes) n b u o.most o.is_front differs)

white_stops : (b : ℕ) → is_white b ≡ true → is_plain b ≡ false
white_stops b w = ap (λ c. not (c || is_sign b)) w

pub white_no_sign : (b : ℕ) → is_white b ≡ true → is_sign b ≡ false
white_no_sign b w = on (9 == b) (10 == b) (13 == b) (32 == b) refl refl refl refl w
  where
    same : (c : ℕ) → (c == b) ≡ true → is_sign c ≡ false → is_sign b ≡ false
    same c e none = ap is_sign (sym (eqb-true c b e)) ∙ none

    on : (p q r s : Bool) → (9 == b) ≡ p → (10 == b) ≡ q → (13 == b) ≡ r → (32 == b) ≡ s → (p || (q || (r || (s || false)))) ≡ true → is_sign b ≡ false
    on true q r s e f g h any = same 9 e refl
    on false true r s e f g h any = same 10 f refl
    on false false true s e f g h any = same 13 g refl
    on false false false true e f g h any = same 32 h refl
    on false false false false e f g h any = cc

pub more_white : (bytes : List ℕ) (n b : ℕ) → HasLetters n bytes → n ≡ 0 → is_white b ≡ true → HasLetters n (bytes ++ b ∷ [])
more_white bytes n b o none w =
    let empty : left bytes ≡ [] = some_letters (left bytes) n o.is_front none in
    let behind : left (bytes ++ b ∷ []) ≡ [] = left-stop bytes b (white_stops b w) in
    record {
      white = bytes ++ b ∷ [];
      parts = sym (append-nil (bytes ++ b ∷ [])) ∙ ap (λ l. (bytes ++ b ∷ []) ++ l) (sym behind);
      is_white = All-append (λ c. is_white c ≡ true) bytes (b ∷ []) (subst (λ l. AllPass is_white l) (sym (o.parts ∙ ap (λ l. o.white ++ l) empty ∙ append-nil o.white)) o.is_white) (All-cons (λ c. is_white c ≡ true) b [] w (All-nil (λ c. is_white c ≡ true)));
      no_token =
          stopped bytes b [] o.no_token (white_stops b w) ∙ ap (λ l. bare (ended l (length bytes) ++ sign_at b (length bytes) ++ [])) empty
          ∙ ap (λ c. bare ((if c then record { token = sign b; place = length bytes } ∷ [] else []) ++ [])) (white_no_sign b w);
      is_front = ap str_to_ascii_lowercase behind ∙ ap (λ k. take k (codes "error")) (sym none);
      most = o.most;
    }

pub stops_byte : (b : ℕ) → (is_white b || is_sign b) ≡ true → is_plain b ≡ false
stops_byte b any = ap not any

pub white_byte : (b : ℕ) → is_white b ≡ true → is_plain b ≡ false
white_byte b w = white_stops b w

pub sign_byte : (b : ℕ) → is_white b ≡ false → is_sign b ≡ true → is_plain b ≡ false
sign_byte b w s = ap (λ c. not (c || is_sign b)) w ∙ ap not s

pub plain_byte : (b : ℕ) → is_white b ≡ false → is_sign b ≡ false → is_plain b ≡ true
plain_byte b w s = ap (λ c. not (c || is_sign b)) w ∙ ap not s

pub ruleset first_words = (no_bytes, ends_error, ends_other, one_letter, other_letter, more_white)

pub ruleset word_bytes = (white_byte, sign_byte, plain_byte)

-- a piece up to a byte, and what follows that
pub seam : (bytes piece : List ℕ) (i : ℕ) → i < length piece → ((bytes ++ take i piece) ++ get_or piece i 0 ∷ []) ++ drop (i + 1) piece ≡ bytes ++ piece
seam bytes piece i lt = grind (arith, common_steps)

on : (bytes piece : List ℕ) (i : ℕ) → i < length piece → (more : List ℕ) → (bytes ++ piece) ++ more ≡ ((bytes ++ take i piece) ++ get_or piece i 0 ∷ []) ++ (drop (i + 1) piece ++ more)
on bytes piece i lt more =
    ap (λ l. l ++ more) (sym (seam bytes piece i lt)) ∙ append_assoc ((bytes ++ take i piece) ++ get_or piece i 0 ∷ []) (drop (i + 1) piece) more

pub error_in : (bytes piece : List ℕ) (i : ℕ) → i < length piece → IsError ((bytes ++ take i piece) ++ get_or piece i 0 ∷ []) → IsError (bytes ++ piece)
error_in bytes piece i lt is more = ap says_error (on bytes piece i lt more) ∙ is (drop (i + 1) piece ++ more)

pub no_error_in : (bytes piece : List ℕ) (i : ℕ) → i < length piece → IsNoError ((bytes ++ take i piece) ++ get_or piece i 0 ∷ []) → IsNoError (bytes ++ piece)
no_error_in bytes piece i lt is more = ap says_error (on bytes piece i lt more) ∙ is (drop (i + 1) piece ++ more)
