-- A printed Error object is read back.
use Rattle.std.proofs.Common.{◌≡◌, List, [], ◌∷◌, ◌++◌, ℕ, ◌<◌, ◌≤◌, ◌^◌, length, refl, sym, ap, subst, ◌∙◌, append_assoc, Bool, true, false, ◌==◌, nat_le, IsTrue, arith, inr, pos}
use Rattle.std.specs.Prelude.{codes}
use Rattle.std.specs.Char.{is_ascii_digit}
use Rattle.std.specs.Fmt.{decimal}
use Rattle.std.specs.Int.{IsInRange}
use Rattle.std.specs.List.{list_all}
use Rattle.std.specs.Str.Parse.{AllDigits}
use Rattle.std.proofs.lemmas.Bool.Decides.{nat_tests}
use Rattle.std.proofs.lemmas.Fmt.{decimal_is_IsNumeral, length-decimal-le}
use Rattle.std.proofs.lemmas.List.{take_all}
use Rattle.std.proofs.lemmas.Str.Parse.{digit_from_value}
use Rattle.viable.proofs.Escaped.{pieces_of, escape_is, pieces_fit, pieces_value}
use Rattle.viable.specs.Quoted.{spelling, escape}
use Rattle.viable.specs.Runs.{is_run}
use Rattle.viable.proofs.Tests.{and_parts}
use Rattle.text_tokens.specs.Tokens.{Token, is_word_byte, Reads}
use Rattle.dap_errors.specs.Object.{signs, bare, text, Field, object_tokens, is_error_word, is_code, is_message, unsigned, has_minus, is_code_word, code_value, IsObject}
use Rattle.text_tokens.proofs.Spelling.{Spelled, reads_of}
use Rattle.dap_errors.specs.Printed.{error_text}
use Rattle.dap_errors.specs.Reading.{front, limit, ErrorOf}
use Rattle.dap_errors.specs.declared.object.ErrorObject.{ErrorObject}

-- the digits of the code

digits_fit : (ds : List ℕ) → AllDigits 10 ds → IsTrue (list_all is_ascii_digit ds)
digits_fit [] all = refl
digits_fit (d ∷ ds) (h, all) =
    let r : IsInRange 48 57 d = digit_from_value d h in
    let one : is_ascii_digit d ≡ true = grind (arith, nat_tests, r.0, r.1) in
    rw (one, digits_fit ds all) refl

digit_in_word : (d : ℕ) → IsTrue (is_ascii_digit d) → IsTrue (is_word_byte signs d)
digit_in_word d h = grind (arith, nat_tests)

digits_in_word : (ds : List ℕ) → IsTrue (list_all is_ascii_digit ds) → IsTrue (list_all (is_word_byte signs) ds)
digits_in_word [] h = refl
digits_in_word (d ∷ ds) h =
    let one : IsTrue (is_ascii_digit d) = (and_parts _ _ h).0 in
    let more : IsTrue (list_all is_ascii_digit ds) = (and_parts _ _ h).1 in
    rw (digit_in_word d one, digits_in_word ds more) refl

run_of : (test : ℕ → Bool) (ds : List ℕ) → 0 < length ds → IsTrue (list_all test ds) → IsTrue (is_run test ds)
run_of test [] h all = absurd (omega arith)
run_of test (d ∷ ds) h all = all

no_minus : (ds : List ℕ) → IsTrue (list_all is_ascii_digit ds) → (has_minus ds ≡ false) × (unsigned ds ≡ ds)
no_minus [] h = (refl, refl)
no_minus (d ∷ ds) h =
    let one : IsTrue (is_ascii_digit d) = (and_parts _ _ h).0 in
    let other : (d == 45) ≡ false = grind (arith, nat_tests) in
    (other, rw other refl)

pub record CodeFits (code : ℕ) : Type 0 where
  pub is_word : IsTrue (is_run (is_word_byte signs) (decimal code))
  pub fits : IsTrue (is_code_word (decimal code))
  pub value : code_value (decimal code) ≡ pos code

code_fits : (code : ℕ) → code < 10 ^ 9 → CodeFits code
code_fits code lt =
    let wide : code < 2 ^ 64 = omega arith in
    let ((some, all), is) = decimal_is_IsNumeral code wide in
    let digits : IsTrue (list_all is_ascii_digit (decimal code)) = digits_fit (decimal code) all in
    let (minus, same) = no_minus (decimal code) digits in
    let short : length (decimal code) ≤ 9 = length-decimal-le 9 code (omega arith) lt wide in
    let short' : nat_le (length (decimal code)) 9 ≡ true = grind (arith, nat_tests) in
    let run : is_run is_ascii_digit (decimal code) ≡ true = run_of is_ascii_digit (decimal code) some digits in
    record {
      is_word = run_of (is_word_byte signs) (decimal code) some (digits_in_word (decimal code) digits);
      fits = rw (same, run, short') refl;
      value = rw (minus, same) (ap pos is);
    }

code_field : ℕ → Field
code_field code = record { label = codes "code"; value = bare (decimal code) }

message_field : List ℕ → Field
message_field message = record { label = codes "message"; value = text (pieces_of message) }

-- the tokens of a printed object
printed_tokens : ℕ → List ℕ → List Token
printed_tokens code message = object_tokens (codes "Error") (code_field code ∷ message_field message ∷ [])

nested : (a b c d e : List ℕ) → a ++ b ++ c ++ d ++ e ≡ a ++ (b ++ (c ++ (d ++ e)))
nested a b c d e = simp append_assoc

-- its text is these tokens
printed_spelled : (code : ℕ) (message : List ℕ) → CodeFits code → Spelled signs (error_text code message) (printed_tokens code message) (codes ";\n")
unfolding error_text printed_tokens code_field message_field
printed_spelled code message fits =
    let last : List ℕ = escape message ++ codes "\";\n};\n" in
    let behind : List ℕ = codes ";\n    message = \"" ++ last in (
      [],
      codes " {\n    code = " ++ (decimal code ++ behind),
      refl,
      refl,
      refl,
      nested (codes "Error {\n    code = ") (decimal code) (codes ";\n    message = \"") (escape message) (codes "\";\n};\n"),
      (
        codes " ",
        codes "\n    code = " ++ (decimal code ++ behind),
        refl,
        refl,
        refl,
        refl,
        (
          codes "\n    ",
          codes " = " ++ (decimal code ++ behind),
          refl,
          refl,
          refl,
          refl,
          (
            codes " ",
            codes " " ++ (decimal code ++ behind),
            refl,
            refl,
            refl,
            refl,
            (
              codes " ",
              behind,
              refl,
              fits.is_word,
              refl,
              refl,
              (
                [],
                codes "\n    message = \"" ++ last,
                refl,
                refl,
                refl,
                refl,
                (
                  codes "\n    ",
                  codes " = \"" ++ last,
                  refl,
                  refl,
                  refl,
                  refl,
                  (
                    codes " ",
                    codes " \"" ++ last,
                    refl,
                    refl,
                    refl,
                    refl,
                    (
                      codes " ",
                      codes ";\n};\n",
                      refl,
                      pieces_fit message,
                      refl,
                      ap (λ (z : List ℕ). 32 ∷ 34 ∷ z) (ap (λ (z : List ℕ). z ++ codes "\";\n};\n") (escape_is message) ∙ sym (append_assoc (spelling (pieces_of message)) (34 ∷ []) (codes ";\n};\n"))),
                      (
                        [],
                        codes "\n};\n",
                        refl,
                        refl,
                        refl,
                        refl,
                        (codes "\n", codes ";\n", refl, refl, refl, refl, refl),
                      ),
                    ),
                  ),
                ),
              ),
            ),
          ),
        ),
      ),
    )

printed_object : (code : ℕ) (message : List ℕ) (error : ErrorObject) → CodeFits code → error.code ≡ pos code → error.message ≡ message → IsObject (printed_tokens code message) error
unfolding printed_tokens code_field message_field is_error_word is_code is_message
printed_object code message error fits c m = record {
  name = codes "Error";
  fields = code_field code ∷ message_field message ∷ [];
  code = decimal code;
  message = pieces_of message;
  named = refl;
  spelled = refl;
  one_code = refl;
  code_fits = fits.fits;
  code_is = c ∙ sym fits.value;
  one_message = refl;
  message_is = m ∙ sym (pieces_value message);
}

pub read_back : (code : ℕ) (message : List ℕ) → code < 10 ^ 9 → length (error_text code message) ≤ limit → (error : ErrorObject) → error.code ≡ pos code → error.message ≡ message → ErrorOf (error_text code message) error
read_back code message lt short error c m =
    let fits = code_fits code lt in
    let (placed, to, is, r, d) = reads_of signs [] (error_text code message) (printed_tokens code message) (codes ";\n") (printed_spelled code message fits) in
    let whole : front (error_text code message) ≡ error_text code message = take_all limit (error_text code message) short in
    record {
      behind = to;
      ends = record {
        tokens = placed;
        read = subst (λ (z : List ℕ). Reads signs z 0 placed to) (sym whole) r;
        says = subst (λ (z : List Token). IsObject z error) (sym is) (printed_object code message error fits c m);
      };
      end = inr ([], codes "\n", refl, refl, d);
    }
