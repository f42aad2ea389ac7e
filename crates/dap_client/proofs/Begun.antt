-- What begins with the word `Error` is no data response; and white space up to the limit begins no Error
-- object.
use Rattle.std.proofs.Common.{◌≡◌, ℕ, ◌+◌, ◌-◌, ◌<◌, ◌≤◌, Bool, true, false, ◌&&◌, ◌==◌, List, [], ◌∷◌, ◌++◌, length, take, drop, codes, refl, sym, ap, subst, ◌∙◌, append_assoc, append-nil, length-append, take-append-drop, length-take, take_all, nat_le, inl, inr, ◌⊎◌, ⊎_elim, arith}
use Rattle.std.proofs.Math.Seq.{take-append-add}
use Rattle.std.proofs.lemmas.Bool.{cases_lt, eqb-true, false≢true}
use Rattle.std.proofs.lemmas.List.{take-append-le}
use Rattle.std.proofs.lemmas.List.Elements.{All-head, All-tail}
use Rattle.std.specs.Char.{to_ascii_lowercase}
use Rattle.std.specs.List.{AllPass, list_all}
use Rattle.std.specs.Str.{str_to_ascii_lowercase}
use Rattle.plain_lemmas.proofs.Lists.{all_of_take}
use Rattle.viable.proofs.Tests.{and_parts}
use Rattle.dap_types.specs.Model.{Dataset}
use Rattle.dap_model.specs.Grammar.{DdsOf, semicolon}
use Rattle.dap_model.specs.Received.{HasHead}
use Rattle.dap_model.specs.Tokens as dds
use Rattle.dds_text.specs.inner.Words.{left}
use Rattle.text_tokens.proofs.Machines.{breaks_of, starts}
use Rattle.text_tokens.specs.Tokens.{NoToken, is_white, is_word_byte}
use Rattle.dap_errors.proofs.Live.{machine}
use Rattle.dap_errors.specs.Object.{IsObject, signs}
use Rattle.dap_errors.specs.Reading.{IsBad, IsUnended, front, limit}
use Rattle.dap_errors.specs.inner.Machine.{Ended, IsOpenState, Start, step}
use Rattle.reply_faults.specs.declared.bad.Bad.TheVariants.{BadError}
use Rattle.dap_client.specs.Shows.{HasFewValues}
use Rattle.error_word.proofs.Bodies.{text_no_error}
use Rattle.error_word.specs.Saying.{says_error}
use Rattle.dap_client.specs.declared.object.Object.{Object}
use Rattle.dap_client.specs.declared.object.Object.TheVariants.{Front, Behind, Bad}
use Rattle.error_word.specs.inner.FirstWords.{HasLetters, IsError}
use Rattle.dap_client.specs.inner.Objects.{IsObjectOf, IsShort}
use Rattle.dap_client.specs.inner.Stages.{IsDataRefused}
use Rattle.das_text.proofs.SameTokens.{white_same}

-- ---- no data response
error_no_text : (bytes text rest : List ℕ) (d : Dataset) → IsError bytes → DdsOf text d → bytes ≡ text ++ rest → ⊥
error_no_text bytes text rest d error is parts =
    false≢true (sym (text_no_error text rest d is) ∙ ap says_error (sym parts ∙ sym (append-nil bytes)) ∙ error [])

pub error_no_head : (bytes good : List ℕ) (rest : List ℕ) → IsError bytes → bytes ≡ good ++ rest → HasHead good → ⊥
error_no_head bytes good rest error parts (head, values, d, is, h) =
    let behind : List ℕ = h.white ++ (codes "Data:" ++ (h.end ++ (values ++ rest))) in
    let laid : bytes ≡ h.text ++ behind =
    parts ∙ ap (λ l. l ++ rest) is ∙ append_assoc head values rest ∙ ap (λ l. l ++ (values ++ rest)) h.parts ∙ append_assoc (h.text ++ h.white ++ codes "Data:") h.end (values ++ rest)
    ∙ append_assoc (h.text ++ h.white) (codes "Data:") (h.end ++ (values ++ rest)) ∙ append_assoc h.text h.white (codes "Data:" ++ (h.end ++ (values ++ rest))) in
    error_no_text bytes h.text behind d error h.is_text laid

pub error_few : (bytes : List ℕ) (most : ℕ) → IsError bytes → HasFewValues most bytes
error_few bytes most error d head values (h, is) = absurd (error_no_head bytes bytes [] error (sym (append-nil bytes)) (head, values, d, is, h))

pub error_refused : (bytes : List ℕ) (place : ℕ) → IsError bytes → ((more : List ℕ) → IsBad (bytes ++ more) place) → IsDataRefused (record { kind = BadError; place = place }) bytes []
error_refused bytes place error bad = record {
  stays = λ more. inl (error more, inl (bad more, refl));
  is_fault = refl;
  shows = inr (λ h. error_no_head bytes (take place bytes) (drop place bytes) error (sym (take-append-drop place bytes)) h, refl);
}

pub short_of : (bytes : List ℕ) (object : Object) → IsObjectOf bytes object → IsShort object
short_of bytes (Front front) o = omega (arith, o.1, ap length o.0)
short_of bytes (Behind object semicolon) o = tt
short_of bytes (Bad place) o = tt

-- ---- white space and letters
abbrev is_lower : ℕ → Bool
is_lower b = nat_le 97 b && nat_le b 122

apart : (b c : ℕ) → is_lower (to_ascii_lowercase b) ≡ true → is_lower (to_ascii_lowercase c) ≡ false → (b == c) ≡ false
apart b c letter none = on (b == c) refl
  where
    on : (x : Bool) → (b == c) ≡ x → x ≡ false
    on true e = absurd (false≢true (sym none ∙ ap (λ x. is_lower (to_ascii_lowercase x)) (sym (eqb-true b c e)) ∙ letter))
    on false e = refl

apart_from : (b c : ℕ) → is_lower (to_ascii_lowercase b) ≡ true → is_lower (to_ascii_lowercase c) ≡ false → (c == b) ≡ false
apart_from b c letter none = on (c == b) refl
  where
    on : (x : Bool) → (c == b) ≡ x → x ≡ false
    on true e = absurd (false≢true (sym none ∙ ap (λ x. is_lower (to_ascii_lowercase x)) (eqb-true c b e) ∙ letter))
    on false e = refl

letter_plain : (b : ℕ) → is_lower (to_ascii_lowercase b) ≡ true → is_word_byte signs b ≡ true
letter_plain b letter =
    rw (apart b 9 letter refl, apart b 10 letter refl, apart b 13 letter refl, apart b 32 letter refl, apart b 34 letter refl, apart_from b 123 letter refl, apart_from b 125 letter refl, apart_from b 59 letter refl, apart_from b 61 letter refl) refl

letters_plain : (w : List ℕ) → list_all is_lower (str_to_ascii_lowercase w) ≡ true → list_all (is_word_byte signs) w ≡ true
letters_plain [] all = refl
letters_plain (b ∷ w) all =
    let (first, rest) = and_parts (is_lower (to_ascii_lowercase b)) (list_all is_lower (str_to_ascii_lowercase w)) all in
    rw (letter_plain b first, letters_plain w rest) refl

pub whites : (ws : List ℕ) → AllPass dds.is_white ws → list_all is_white ws ≡ true
whites [] all = refl
whites (w ∷ ws) all =
    let first : is_white w ≡ true = sym (white_same w) ∙ All-head (λ b. dds.is_white b ≡ true) w ws all in
    rw (first, whites ws (All-tail (λ b. dds.is_white b ≡ true) w ws all)) refl

-- no whole token stands in a front of white space and word bytes
blank : (white letters : List ℕ) (n : ℕ) → list_all is_white white ≡ true → list_all (is_word_byte signs) letters ≡ true → NoToken signs (take n (white ++ letters))
blank white letters n all plain = ⊎_elim in_white behind_white (cases_lt n (length white))
  where
    in_white : n < length white → NoToken signs (take n (white ++ letters))
    in_white lt = record {
      white = take n white;
      left = [];
      all_white = all_of_take is_white n white all;
      bytes_are = take-append-le n white letters (omega (arith, lt)) ∙ sym (append-nil (take n white));
      part = inl refl;
    }

    behind_white : length white ≤ n → NoToken signs (take n (white ++ letters))
    behind_white le = record {
      white = white;
      left = take (n - length white) letters;
      all_white = all;
      bytes_are = (let whole : n ≡ length white + (n - length white) = omega (arith, le) in ap (λ k. take k (white ++ letters)) whole ∙ take-append-add white letters (n - length white));
      part = inl (all_of_take (is_word_byte signs) (n - length white) letters plain);
    }

blank_unended : (bytes : List ℕ) (n : ℕ) → HasLetters n bytes → IsUnended bytes
blank_unended bytes n o =
    let lower : list_all is_lower (str_to_ascii_lowercase (left bytes)) ≡ true = ap (list_all is_lower) o.is_front ∙ all_of_take is_lower n (codes "error") refl in
    let none : NoToken signs (take limit bytes) = subst (λ l. NoToken signs (take limit l)) (sym o.parts) (blank o.white (left bytes) limit (whites o.white o.is_white) (letters_plain (left bytes) lower)) in
    breaks_of signs IsObject step Start Ended IsOpenState machine (take limit bytes) (0, Start, starts signs step Start (take limit bytes), tt, none)

-- up to the limit came no Error object
pub blank_bad : (bytes : List ℕ) (n : ℕ) → HasLetters n bytes → limit ≤ length bytes → (more : List ℕ) → IsBad (bytes ++ more) limit
blank_bad bytes n o long more =
    inr (inr (subst (λ l. Rattle.text_tokens.specs.Languages.Breaks signs IsObject l) (sym (take-append-le limit bytes more long)) (blank_unended bytes n o), omega (arith, long, length-append bytes more), refl))

-- what was kept of the bytes up to the limit is all, or there are as many
pub full_front : (bytes kept : List ℕ) → kept ≡ take limit bytes → length kept ≡ 65536 → limit ≤ length bytes
full_front bytes kept is full = omega (arith, full, ap length is, length-take limit bytes)

pub short_front : (bytes kept : List ℕ) → kept ≡ take limit bytes → (length kept ≡ 65536 → ⊥) → (kept ≡ bytes) × (length bytes < limit)
short_front bytes kept is other =
    let short : length bytes < limit = omega (arith, other, ap length is, length-take limit bytes) in
    (is ∙ take_all limit bytes (omega (arith, short)), short)
