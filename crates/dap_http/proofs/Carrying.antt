-- The heads that are sent are final heads, and say how the length of their body is told.
use Rattle.std.proofs.Common.{◌≡◌, ℕ, ◌^◌, ◌<◌, ◌≤◌, ◌⊎◌, Bool, true, false, not, List, [], ◌∷◌, ◌++◌, length, get_or, reverse, tests, Option, Some, None, refl, sym, ap, ◌∙◌, subst, arith, append_assoc, append-nil, inl, inr}
use Rattle.std.specs.Prelude.{if◌then◌else◌, ◌==◌, ◌&&◌, ◌||◌, nat_le, nat_lt, codes, decimal, unwrap_or, IsTrue, All}
use Rattle.std.specs.List.{flat_map, list_all, list_any}
use Rattle.std.specs.Char.{is_ascii_digit}
use Rattle.std.specs.Str.{all_ascii_digits, str_eq_ignore_ascii_case}
use Rattle.std.specs.Str.Parse.{AllDigits, digits_value}
use Rattle.std.proofs.lemmas.Bool.{le-leb, lt-ltb}
use Rattle.std.proofs.lemmas.Fmt.{decimal_is_IsNumeral, length-decimal-le}
use Rattle.std.proofs.lemmas.Grind.{flat_map-append}
use Rattle.std.proofs.lemmas.List.{map-append}
use Rattle.std.proofs.lemmas.List.Elements.{All-append, All-cons, All-nil}
use Rattle.std.proofs.lemmas.List.Sums.{AllPass-from_list_all}
use Rattle.std.proofs.lemmas.Str.Parse.{numerals_by_value, tells_all_ascii_digits}
use Rattle.plain_lemmas.proofs.Lists.{right_of_five}
use Rattle.http.specs.StatusCode.{code_digits, reason_phrase}
use Rattle.httparse.specs.Ascii.{crlf_bytes}
use Rattle.httparse.specs.Grammar.{AllPass, Field, IsField, IsResponseHead, IsToken, ResponseHead, crlf, is_ows, is_token_byte, is_value_byte, print_field, print_response, print_section, skip_ows, trim_ows}
use Rattle.httparse.proofs.TrimLemmas.{AllPass-reverse, trim_ows_space}
use Rattle.reply_faults.specs.declared.bad.Bad.{Bad}
use Rattle.reply_faults.specs.declared.bad.Bad.TheVariants as bad
use Rattle.dap_http.specs.Carried.{Carries, said}
use Rattle.dap_http.specs.Fields.{named, value_of, values_of}
use Rattle.dap_http.specs.Frames.{chunked, framed}
use Rattle.dap_http.specs.Replies.{HasFinal, coding_by, coding_in, is_length, length_of}
use Rattle.dap_http.specs.Texts.{IsReplyStatus, allow_line, close_line, content_type, description_lines, head_text, length_line, server_lines, status_line}
use Rattle.dap_http.specs.declared.coding.Coding.{Coding}
use Rattle.dap_http.specs.declared.coding.Coding.TheVariants.{Chunked, Length, ToEnd}
use Rattle.dap_http.proofs.FramedWhole.{framed-whole}

-- ---- the fields of a head that is sent

abbrev pub field : List ℕ → List ℕ → Field
field name value = record { name = name; raw = 32 ∷ value; end = crlf }

abbrev server_fields : List Field
server_fields = field (codes "XDODS-Server") (codes "dap2/1.0") ∷ field (codes "XDAP") (codes "2.0") ∷ []

abbrev allow_fields : Bool → List Field
allow_fields b = if b then field (codes "Allow") (codes "GET, HEAD") ∷ [] else []

abbrev kind_fields : List ℕ → List ℕ → List Field
kind_fields description type = field (codes "Content-Description") description ∷ field (codes "Content-Type") type ∷ []

abbrev length_fields : Option ℕ → Bool → List Field
length_fields (Some n) in_chunks = field (codes "Content-Length") (decimal n) ∷ []
length_fields None in_chunks = if in_chunks then field (codes "Transfer-Encoding") (codes "chunked") ∷ [] else []

abbrev close_fields : Bool → List Field
close_fields close = if close then field (codes "Connection") (codes "close") ∷ [] else []

abbrev fields_of : Bool → List ℕ → List ℕ → Option ℕ → Bool → Bool → List Field
fields_of other description type len in_chunks close =
    server_fields ++ (allow_fields other ++ (kind_fields description type ++ (length_fields len in_chunks ++ close_fields close)))

abbrev head_of : ℕ → List ℕ → Option ℕ → Bool → Bool → ResponseHead
head_of status description len in_chunks close = record {
  blank = [];
  minor = 1;
  digits = code_digits status;
  reason = Some (unwrap_or (reason_phrase status) []);
  line_end = crlf;
  fields = fields_of (status == 405) description (content_type description) len in_chunks close;
  last = crlf;
}

-- ---- its bytes

allow-printed : (b : Bool) → flat_map print_field (allow_fields b) ≡ (if b then codes "Allow: GET, HEAD\r\n" else [])
allow-printed true = refl
allow-printed false = refl

close-printed : (b : Bool) → flat_map print_field (close_fields b) ≡ close_line b
close-printed true = refl
close-printed false = refl

length-printed : (len : Option ℕ) (b : Bool) → flat_map print_field (length_fields len b) ≡ length_line len b
length-printed (Some n) b = append-nil (codes "Content-Length: " ++ (decimal n ++ crlf_bytes))
length-printed None true = refl
length-printed None false = refl

kind-printed : (d t : List ℕ) → flat_map print_field (kind_fields d t) ≡ codes "Content-Description: " ++ (d ++ (codes "\r\nContent-Type: " ++ (t ++ codes "\r\n")))
kind-printed d t =
    ap (λ x. codes "Content-Description: " ++ x)
    (append_assoc d crlf_bytes ((codes "Content-Type: " ++ (t ++ crlf_bytes)) ++ []) ∙ ap (λ x. d ++ (crlf_bytes ++ x)) (append-nil (codes "Content-Type: " ++ (t ++ crlf_bytes))))

five : (a b c d e z : List ℕ) → (a ++ (b ++ (c ++ (d ++ e)))) ++ z ≡ a ++ (b ++ (c ++ (d ++ (e ++ z))))
five a b c d e z =
    append_assoc a (b ++ (c ++ (d ++ e))) z ∙ ap (λ t. a ++ t) (append_assoc b (c ++ (d ++ e)) z ∙ ap (λ t. b ++ t) (append_assoc c (d ++ e) z ∙ ap (λ t. c ++ t) (append_assoc d e z)))

fields-printed : (o : Bool) (d t : List ℕ) (len : Option ℕ) (b close : Bool) (a k : List ℕ) → flat_map print_field (allow_fields o) ≡ a → flat_map print_field (kind_fields d t) ≡ k
    → flat_map print_field (fields_of o d t len b close) ≡ server_lines ++ (a ++ (k ++ (length_line len b ++ close_line close)))
fields-printed o d t len b close a k allowed kinds =
    let r1 = allow_fields o ++ (kind_fields d t ++ (length_fields len b ++ close_fields close)) in
    let r2 = kind_fields d t ++ (length_fields len b ++ close_fields close) in
    let r3 = length_fields len b ++ close_fields close in
    let p3 : flat_map print_field r3 ≡ length_line len b ++ close_line close =
    flat_map-append print_field (length_fields len b) (close_fields close) ∙ ap (λ x. x ++ flat_map print_field (close_fields close)) (length-printed len b) ∙ ap (λ x. length_line len b ++ x) (close-printed close) in
    let p2 : flat_map print_field r2 ≡ k ++ (length_line len b ++ close_line close) =
    flat_map-append print_field (kind_fields d t) r3 ∙ ap (λ x. x ++ flat_map print_field r3) kinds ∙ ap (λ x. k ++ x) p3 in
    let p1 : flat_map print_field r1 ≡ a ++ (k ++ (length_line len b ++ close_line close)) =
    flat_map-append print_field (allow_fields o) r2 ∙ ap (λ x. x ++ flat_map print_field r2) allowed ∙ ap (λ x. a ++ x) p2 in
    flat_map-append print_field server_fields r1 ∙ ap (λ x. server_lines ++ x) p1

allow-is : (status : ℕ) → flat_map print_field (allow_fields (status == 405)) ≡ allow_line status
allow-is status = allow-printed (status == 405)

right-of-seven : (a b c d e f g : List ℕ) → (((((a ++ b) ++ c) ++ d) ++ e) ++ f) ++ g ≡ a ++ (b ++ (c ++ (d ++ (e ++ (f ++ g)))))
right-of-seven a b c d e f g =
    append_assoc ((((a ++ b) ++ c) ++ d) ++ e) f g ∙ append_assoc (((a ++ b) ++ c) ++ d) e (f ++ g) ∙ right_of_five a b c d (e ++ (f ++ g))

kind-is : (d : List ℕ) → flat_map print_field (kind_fields d (content_type d)) ≡ description_lines d
kind-is d =
    kind-printed d (content_type d)
    ∙ sym (right_of_five (codes "Content-Description: ") d (codes "\r\nContent-Type: ") (content_type d) (codes "\r\n"))

pub head-printed : (status : ℕ) (description : List ℕ) (len : Option ℕ) (in_chunks close : Bool)
    → head_text status description len in_chunks close ≡ print_response (head_of status description len in_chunks close)
unfolding head_text print_response
head-printed status description len in_chunks close =
    let a = allow_line status in
    let k = description_lines description in
    let l = length_line len in_chunks in
    let c = close_line close in
    let fs = fields_of (status == 405) description (content_type description) len in_chunks close in
    let printed : flat_map print_field fs ≡ server_lines ++ (a ++ (k ++ (l ++ c))) = fields-printed (status == 405) description (content_type description) len in_chunks close a k (allow-is status) (kind-is description) in
    let section : print_section fs crlf ≡ server_lines ++ (a ++ (k ++ (l ++ (c ++ crlf_bytes)))) = ap (λ t. t ++ crlf_bytes) printed ∙ five server_lines a k l c crlf_bytes in
    right-of-seven (status_line status) server_lines a k l c crlf_bytes ∙ ap (λ t. status_line status ++ t) (sym section)

-- ---- it is a head

pub by-bits : (test : ℕ → Bool) (xs : List ℕ) → list_all test xs ≡ true → AllPass test xs
by-bits test xs e = AllPass-from_list_all test xs e

pub token : (xs : List ℕ) → 0 < length xs → list_all is_token_byte xs ≡ true → IsToken xs
token xs some e = (some, by-bits is_token_byte xs e)

spaced : (value : List ℕ) → AllPass is_value_byte value → AllPass is_value_byte (32 ∷ value)
spaced value all = All-cons (λ b. IsTrue (is_value_byte b)) 32 value refl all

is-field : (name value : List ℕ) → IsToken name → AllPass is_value_byte value → IsField (field name value)
is-field name value n v = record { name = n; raw = spaced value v }

one-field : (f : Field) → IsField f → All IsField (f ∷ [])
one-field f is = All-cons IsField f [] is (All-nil IsField)

two-fields : (f g : Field) → IsField f → IsField g → All IsField (f ∷ g ∷ [])
two-fields f g a b = All-cons IsField f (g ∷ []) a (one-field g b)

server-ok : All IsField server_fields
unfolding is_token_byte
server-ok = two-fields _ _
    (is-field (codes "XDODS-Server") (codes "dap2/1.0") (token (codes "XDODS-Server") (omega arith) refl) (by-bits is_value_byte (codes "dap2/1.0") refl))
    (is-field (codes "XDAP") (codes "2.0") (token (codes "XDAP") (omega arith) refl) (by-bits is_value_byte (codes "2.0") refl))

allow-ok : (b : Bool) → All IsField (allow_fields b)
unfolding is_token_byte
allow-ok true = one-field _ (is-field (codes "Allow") (codes "GET, HEAD") (token (codes "Allow") (omega arith) refl) (by-bits is_value_byte (codes "GET, HEAD") refl))
allow-ok false = All-nil IsField

close-ok : (b : Bool) → All IsField (close_fields b)
unfolding is_token_byte
close-ok true = one-field _ (is-field (codes "Connection") (codes "close") (token (codes "Connection") (omega arith) refl) (by-bits is_value_byte (codes "close") refl))
close-ok false = All-nil IsField

type-ok : (b : Bool) → AllPass is_value_byte (if b then codes "application/octet-stream" else codes "text/plain")
type-ok true = by-bits is_value_byte (codes "application/octet-stream") refl
type-ok false = by-bits is_value_byte (codes "text/plain") refl

kind-ok : (d t : List ℕ) → AllPass is_value_byte d → AllPass is_value_byte t → All IsField (kind_fields d t)
unfolding is_token_byte
kind-ok d t dv tv = two-fields _ _
    (is-field (codes "Content-Description") d (token (codes "Content-Description") (omega arith) refl) dv)
    (is-field (codes "Content-Type") t (token (codes "Content-Type") (omega arith) refl) tv)

-- ---- digits

same-test : (xs : List ℕ) → all_ascii_digits xs ≡ list_all is_ascii_digit xs
same-test [] = refl
same-test (x ∷ xs) = ap (λ v. is_ascii_digit x && v) (same-test xs)

digits-pass : (xs : List ℕ) → AllDigits 10 xs → list_all is_ascii_digit xs ≡ true
digits-pass xs d = sym (same-test xs) ∙ (numerals_by_value (λ (ds : List ℕ). all_ascii_digits ds ≡ true) tells_all_ascii_digits).from xs d

digit-value : (b : ℕ) → is_ascii_digit b ≡ true → is_value_byte b ≡ true
digit-value b e = grind (arith, tests, e)

digit-ows : (b : ℕ) → is_ascii_digit b ≡ true → is_ows b ≡ false
digit-ows b e = grind (arith, tests, e)

digits-value : (xs : List ℕ) → AllPass is_ascii_digit xs → AllPass is_value_byte xs
digits-value xs all = λ k d lt. digit-value (get_or xs k d) (all k d lt)

no-ows : (xs : List ℕ) → AllPass is_ascii_digit xs → skip_ows xs ≡ xs
no-ows [] all = refl
no-ows (x ∷ xs) all = ap (λ b. if b then skip_ows xs else x ∷ xs) (digit-ows x (all 0 0 (omega arith)))

-- a number and its digits
record IsWritten (n : ℕ) : Type 0 where
  all : AllPass is_ascii_digit (decimal n)
  long : is_length (decimal n) ≡ true
  value : digits_value 10 (decimal n) ≡ n
  trimmed : trim_ows (32 ∷ decimal n) ≡ decimal n

written : (n : ℕ) → n < 10 ^ 18 → IsWritten n
written n small =
    let ((some, digits), value) = decimal_is_IsNumeral n (omega (arith, small)) in
    let few = length-decimal-le 18 n (omega arith) small (omega (arith, small)) in
    let pass = digits-pass (decimal n) digits in
    let all = by-bits is_ascii_digit (decimal n) pass in
    let a : nat_lt 0 (length (decimal n)) ≡ true = lt-ltb 0 (length (decimal n)) some in
    let b : nat_le (length (decimal n)) 18 ≡ true = le-leb (length (decimal n)) 18 few in
    record {
      all = all;
      long = rw (a, b, pass) refl;
      value = value;
      trimmed = trim_ows_space (decimal n) (no-ows (decimal n) all) (no-ows (reverse (decimal n)) (AllPass-reverse is_ascii_digit (decimal n) all));
    }

length-ok : (len : Option ℕ) (b : Bool) → ((n : ℕ) → len ≡ Some n → n < 10 ^ 18) → All IsField (length_fields len b)
unfolding is_token_byte
length-ok (Some n) b small = one-field _ (is-field (codes "Content-Length") (decimal n) (token (codes "Content-Length") (omega arith) refl) (digits-value (decimal n) (written n (small n refl)).all))
length-ok None true small = one-field _ (is-field (codes "Transfer-Encoding") (codes "chunked") (token (codes "Transfer-Encoding") (omega arith) refl) (by-bits is_value_byte (codes "chunked") refl))
length-ok None false small = All-nil IsField

-- a status, its digits and its phrase
record IsTold (status : ℕ) : Type 0 where
  digits : AllPass is_ascii_digit (code_digits status)
  phrase : AllPass is_value_byte (unwrap_or (reason_phrase status) [])
  final : not (nat_le 100 (digits_value 10 (code_digits status)) && nat_lt (digits_value 10 (code_digits status)) 200) ≡ true

told : (status : ℕ) → IsReplyStatus status → IsTold status
told status (inl e) = subst IsTold (sym e) (record { digits = by-bits is_ascii_digit (code_digits 200) refl; phrase = by-bits is_value_byte (codes "OK") refl; final = refl })
told status (inr (inl e)) = subst IsTold (sym e) (record { digits = by-bits is_ascii_digit (code_digits 400) refl; phrase = by-bits is_value_byte (codes "Bad Request") refl; final = refl })
told status (inr (inr (inl e))) = subst IsTold (sym e) (record { digits = by-bits is_ascii_digit (code_digits 404) refl; phrase = by-bits is_value_byte (codes "Not Found") refl; final = refl })
told status (inr (inr (inr (inl e)))) = subst IsTold (sym e) (record { digits = by-bits is_ascii_digit (code_digits 405) refl; phrase = by-bits is_value_byte (codes "Method Not Allowed") refl; final = refl })
told status (inr (inr (inr (inr (inl e))))) = subst IsTold (sym e) (record { digits = by-bits is_ascii_digit (code_digits 431) refl; phrase = by-bits is_value_byte (codes "Request Header Fields Too Large") refl; final = refl })
told status (inr (inr (inr (inr (inr (inl e)))))) = subst IsTold (sym e) (record { digits = by-bits is_ascii_digit (code_digits 500) refl; phrase = by-bits is_value_byte (codes "Internal Server Error") refl; final = refl })
told status (inr (inr (inr (inr (inr (inr (inl e))))))) = subst IsTold (sym e) (record { digits = by-bits is_ascii_digit (code_digits 502) refl; phrase = by-bits is_value_byte (codes "Bad Gateway") refl; final = refl })
told status (inr (inr (inr (inr (inr (inr (inr e))))))) = subst IsTold (sym e) (record { digits = by-bits is_ascii_digit (code_digits 503) refl; phrase = by-bits is_value_byte (codes "Service Unavailable") refl; final = refl })

fields-ok : (o : Bool) (d t : List ℕ) (len : Option ℕ) (b close : Bool) → AllPass is_value_byte d → AllPass is_value_byte t → ((n : ℕ) → len ≡ Some n → n < 10 ^ 18) → All IsField (fields_of o d t len b close)
fields-ok o d t len b close dv tv small =
    All-append IsField server_fields _ server-ok (All-append IsField (allow_fields o) _ (allow-ok o) (All-append IsField (kind_fields d t) _ (kind-ok d t dv tv) (All-append IsField (length_fields len b) _ (length-ok len b small) (close-ok close))))

few-fields : (o : Bool) (d t : List ℕ) (len : Option ℕ) (b close : Bool) → length (fields_of o d t len b close) ≤ 128
few-fields true d t (Some n) b true = omega arith
few-fields true d t (Some n) b false = omega arith
few-fields true d t None true true = omega arith
few-fields true d t None true false = omega arith
few-fields true d t None false true = omega arith
few-fields true d t None false false = omega arith
few-fields false d t (Some n) b true = omega arith
few-fields false d t (Some n) b false = omega arith
few-fields false d t None true true = omega arith
few-fields false d t None true false = omega arith
few-fields false d t None false true = omega arith
few-fields false d t None false false = omega arith

-- ---- how the length of its body is told

values-append : (name : List ℕ) (a b : List Field) → values_of name (named (a ++ b)) ≡ values_of name (named a) ++ values_of name (named b)
values-append name a b = ap (values_of name) (map-append _ a b) ∙ flat_map-append (value_of name) (named a) (named b)

-- only the fields on its length have such a name
record IsElsewhere (name : List ℕ) : Type 0 where
  server : values_of name (named server_fields) ≡ []
  allow : (b : Bool) → values_of name (named (allow_fields b)) ≡ []
  kind : (d t : List ℕ) → values_of name (named (kind_fields d t)) ≡ []
  close : (b : Bool) → values_of name (named (close_fields b)) ≡ []

values-are : (name : List ℕ) (o : Bool) (d t : List ℕ) (len : Option ℕ) (b close : Bool) → IsElsewhere name
    → values_of name (named (fields_of o d t len b close)) ≡ values_of name (named (length_fields len b))
values-are name o d t len b close e =
    let r1 = allow_fields o ++ (kind_fields d t ++ (length_fields len b ++ close_fields close)) in
    let r2 = kind_fields d t ++ (length_fields len b ++ close_fields close) in
    let r3 = length_fields len b ++ close_fields close in
    values-append name server_fields r1 ∙ ap (λ x. x ++ values_of name (named r1)) e.server
    ∙ values-append name (allow_fields o) r2 ∙ ap (λ x. x ++ values_of name (named r2)) (e.allow o)
    ∙ values-append name (kind_fields d t) r3 ∙ ap (λ x. x ++ values_of name (named r3)) (e.kind d t)
    ∙ values-append name (length_fields len b) (close_fields close) ∙ ap (λ x. values_of name (named (length_fields len b)) ++ x) (e.close close)
    ∙ append-nil (values_of name (named (length_fields len b)))

two : (P : Bool → Type 0) → P true → P false → (b : Bool) → P b
two P so other true = so
two P so other false = other

transfer : IsElsewhere (codes "Transfer-Encoding")
transfer = record { server = refl; allow = two _ refl refl; kind = λ d t. refl; close = two _ refl refl }

content : IsElsewhere (codes "Content-Encoding")
content = record { server = refl; allow = two _ refl refl; kind = λ d t. refl; close = two _ refl refl }

lengths : IsElsewhere (codes "Content-Length")
lengths = record { server = refl; allow = two _ refl refl; kind = λ d t. refl; close = two _ refl refl }

abbrev coded : List (List ℕ) → List (List ℕ) → List (List ℕ) → Bad ⊎ Coding
coded codings contents lens =
    if list_any (λ v. not (str_eq_ignore_ascii_case v (codes "chunked"))) codings
    || list_any (λ v. not (str_eq_ignore_ascii_case v (codes "identity"))) contents
    then inl bad.Coded
    else if list_any (λ v. true) codings then inr Chunked
    else length_of lens

of-length : (len : Option ℕ) (b : Bool) → ((n : ℕ) → len ≡ Some n → n < 10 ^ 18)
    → coded (values_of (codes "Transfer-Encoding") (named (length_fields len b))) (values_of (codes "Content-Encoding") (named (length_fields len b))) (values_of (codes "Content-Length") (named (length_fields len b)))
    ≡ inr (said len b)
unfolding trim_ows
of-length (Some n) b small = let w = written n (small n refl) in rw (w.trimmed, w.long, w.value) refl
of-length None true small = refl
of-length None false small = refl

coding-said : (o : Bool) (d t : List ℕ) (len : Option ℕ) (b close : Bool) → ((n : ℕ) → len ≡ Some n → n < 10 ^ 18) → coding_by (named (fields_of o d t len b close)) ≡ inr (said len b)
coding-said o d t len b close small =
    let fs = fields_of o d t len b close in
    let ls = length_fields len b in
    ap (λ x. coded x (values_of (codes "Content-Encoding") (named fs)) (values_of (codes "Content-Length") (named fs))) (values-are (codes "Transfer-Encoding") o d t len b close transfer)
    ∙ ap (λ x. coded (values_of (codes "Transfer-Encoding") (named ls)) x (values_of (codes "Content-Length") (named fs))) (values-are (codes "Content-Encoding") o d t len b close content)
    ∙ ap (λ x. coded (values_of (codes "Transfer-Encoding") (named ls)) (values_of (codes "Content-Encoding") (named ls)) x) (values-are (codes "Content-Length") o d t len b close lengths)
    ∙ of-length len b small

-- ---- the head that is sent

pub is-final : (status : ℕ) (description : List ℕ) (len : Option ℕ) (in_chunks close : Bool) (rest : List ℕ) → IsReplyStatus status → AllPass is_value_byte description
    → ((n : ℕ) → len ≡ Some n → n < 10 ^ 18)
    → (head : ResponseHead) × HasFinal (head_text status description len in_chunks close ++ rest) head rest × (coding_in head ≡ inr (said len in_chunks))
unfolding coding_in
is-final status description len in_chunks close rest is value small =
    let t = told status is in
    let type = content_type description in
    let head = head_of status description len in_chunks close in
    let valid : IsResponseHead head = record {
      minor = omega arith;
      digits = (refl, t.digits);
      reason = t.phrase;
      fields = fields-ok (status == 405) description type len in_chunks close value (type-ok _) small;
    } in (
      head,
      record {
        before = [];
        behind = head_text status description len in_chunks close ++ rest;
        interim = refl;
        reads = ((valid, ap (λ x. x ++ rest) (head-printed status description len in_chunks close)), few-fields (status == 405) description type len in_chunks close);
        is_final = t.final;
      },
      coding-said (status == 405) description type len in_chunks close small,
    )

-- data in chunks, or up to the end of the connection
pub carries-data : (status : ℕ) (description body : List ℕ) (in_chunks close : Bool) → IsReplyStatus status → AllPass is_value_byte description
    → Carries (head_text status description None in_chunks close ++ framed in_chunks body) body
carries-data status description body in_chunks close is value =
    let (head, final, coding) = is-final status description None in_chunks close (framed in_chunks body) is value (λ n e. absurd (cc e)) in
    go in_chunks head final coding where
      go : (b : Bool) (head : ResponseHead) → HasFinal (head_text status description None b close ++ framed b body) head (framed b body) → coding_in head ≡ inr (said None b)
          → Carries (head_text status description None b close ++ framed b body) body
      go true head final coding = record { head = head; framed = chunked body; coding = Chunked; is_final = final; is_coding = coding; ends = inl (framed-whole body) }
      go false head final coding = record { head = head; framed = body; coding = ToEnd; is_final = final; is_coding = coding; ends = inr (refl, refl) }

-- a text of a stated length
pub carries-text : (status : ℕ) (description body : List ℕ) (in_chunks close : Bool) → IsReplyStatus status → AllPass is_value_byte description → length body < 10 ^ 18
    → Carries (head_text status description (Some (length body)) in_chunks close ++ body) body
carries-text status description body in_chunks close is value small =
    let (head, final, coding) = is-final status description (Some (length body)) in_chunks close body is value (λ n e. subst (λ (m : ℕ). m < 10 ^ 18) (cc e) small) in
    record { head = head; framed = body; coding = Length (length body); is_final = final; is_coding = coding; ends = inl (refl, refl) }
