-- The request that is sent is read as the head that it is, and its target as what it asks for.
use Rattle.std.proofs.Common.{◌≡◌, ℕ, zero, suc, ◌+◌, ◌-◌, ◌*◌, ◌/◌, ◌<◌, ◌≤◌, Bool, true, false, List, [], ◌∷◌, ◌++◌, length, refl, sym, ap, ◌∙◌, arith, eqb, ltb, leb, not, Some, append_assoc, append-nil, length-append}
use Rattle.std.specs.Prelude.{codes, IsTrue, All, nat_le, nat_lt, ◌&&◌}
use Rattle.std.specs.Fmt.{decimal}
use Rattle.std.specs.Fmt as fmt
use Rattle.std.specs.List.{list_all}
use Rattle.std.proofs.lemmas.Bool.{and_parts, ltb-true}
use Rattle.std.proofs.lemmas.Bool.Decides.{nat_tests}
use Rattle.std.proofs.lemmas.Grind.{flat_map-append}
use Rattle.std.proofs.lemmas.Fmt.{digits_decimal, length-decimal-le}
use Rattle.std.proofs.lemmas.List.Elements.{All-cons, All-nil}
use Rattle.std.proofs.lemmas.List.Sums.{AllPass-from_list_all}
use Rattle.std.proofs.lemmas.Str.{IsUtf8-from_ascii}
use Rattle.std.specs.Str.{IsAscii}
use Rattle.plain_lemmas.proofs.Lists.{right_of_five}
use Rattle.httparse.specs.Grammar.{AllPass, Field, IsField, IsRequestHead, IsToken, RequestHead, crlf, is_token_byte, is_uri_byte, is_value_byte, print_request, print_section}
use Rattle.percent_encoding.specs.Percent.{percent_decode}
use Rattle.target_names.specs.Names.{is_name}
use Rattle.dap_http.specs.Requests.{FirstRequest}
use Rattle.dap_http.specs.Targets.{is_target_long, target_of}
use Rattle.dap_http.specs.Texts.{close_line, escaped, escaped_byte, host_lines, is_plain, request_text}
use Rattle.dap_http.specs.Urls.{url_of}
use Rattle.dap_http.specs.declared.kind.Kind.TheVariants.{Dods}
use Rattle.viable.specs.Prefix.{is_byte}
use Rattle.constraint_parse.specs.Language.{is_digit}
use Rattle.soak.specs.Asked.{constraint_text, file_name, request, target, url_text}
use Rattle.soak.proofs.Spelled.{digits}
use Rattle.dap_http.proofs.Carrying.{by-bits, field, token}

pub url-is : url_of url_text ≡ Some (record { host = codes "localhost"; port = 80; path = codes "/soak.nc" })
unfolding url_of
url-is = refl

-- ---- the escapes

plain-digit : (d : ℕ) → is_digit d ≡ true → is_plain d ≡ true
unfolding is_plain
plain-digit d e = grind (arith, nat_tests, e)

plain-stays : (ds : List ℕ) → list_all is_digit ds ≡ true → escaped ds ≡ ds
plain-stays [] e = refl
plain-stays (d ∷ ds) e =
    let own = and_parts _ _ e in
    let plain : is_plain d ≡ true = plain-digit d own.0 in
    rw plain (ap (λ xs. d ∷ xs) (plain-stays ds own.1))

-- a text with digits in two places
around : (a b c ds : List ℕ) → list_all is_digit ds ≡ true → escaped (a ++ (ds ++ (b ++ (ds ++ c)))) ≡ escaped a ++ (ds ++ (escaped b ++ (ds ++ escaped c)))
around a b c ds e =
    flat_map-append escaped_byte a (ds ++ (b ++ (ds ++ c)))
    ∙ ap (λ xs. escaped a ++ xs) (flat_map-append escaped_byte ds (b ++ (ds ++ c)) ∙ ap (λ xs. xs ++ escaped (b ++ (ds ++ c))) (plain-stays ds e)
    ∙ ap (λ xs. ds ++ xs) (flat_map-append escaped_byte b (ds ++ c)
    ∙ ap (λ xs. escaped b ++ xs) (flat_map-append escaped_byte ds c ∙ ap (λ xs. xs ++ escaped c) (plain-stays ds e))))

escaped-is : (ds : List ℕ) → list_all is_digit ds ≡ true
    → escaped (codes "s[0:2:" ++ (ds ++ (codes "][0:31][1:3:31],i[0:" ++ (ds ++ codes "][31:31][0:31]"))))
    ≡ codes "s%5B0:2:" ++ (ds ++ (codes "%5D%5B0:31%5D%5B1:3:31%5D,i%5B0:" ++ (ds ++ codes "%5D%5B31:31%5D%5B0:31%5D")))
unfolding is_plain
escaped-is ds e = around (codes "s[0:2:") (codes "][0:31][1:3:31],i[0:") (codes "][31:31][0:31]") ds e

-- ---- the head

abbrev head_for : List ℕ → RequestHead
head_for t = record {
  blank = [];
  method = codes "GET";
  target = t;
  minor = 1;
  line_end = crlf;
  fields = field (codes "Host") (codes "localhost:80") ∷ field (codes "User-Agent") (codes "dap2/1.0") ∷ field (codes "Accept-Encoding") (codes "identity") ∷ field (codes "Connection") (codes "close") ∷ [];
  last = crlf;
}

abbrev pub head : ℕ → RequestHead
head records = head_for (target records)

-- what stands behind the target
abbrev behind : List ℕ
behind = codes " HTTP/1.1\r\nHost: localhost:80\r\nUser-Agent: dap2/1.0\r\nAccept-Encoding: identity\r\nConnection: close\r\n\r\n"

three : (a b c d : List ℕ) → ((a ++ b) ++ c) ++ d ≡ a ++ (b ++ (c ++ d))
three a b c d = append_assoc (a ++ b) c d ∙ append_assoc a b (c ++ d)

printed : (t : List ℕ) → print_request (head_for t) ≡ codes "GET " ++ (t ++ behind)
unfolding print_request
printed t = ap (λ xs. codes "GET " ++ xs) (three t (32 ∷ codes "HTTP/1.1") (13 ∷ 10 ∷ []) (print_section (head_for t).fields crlf))

-- what is sent, around its query
sent : (q : List ℕ) → (codes "GET /soak.nc.dods?" ++ q ++ codes " HTTP/1.1\r\n") ++ host_lines (codes "localhost") 80 ++ close_line true ++ codes "\r\n" ≡ codes "GET " ++ ((codes "/soak.nc.dods?" ++ q) ++ behind)
unfolding fmt.digits
sent q = ap (λ xs. codes "GET /soak.nc.dods?" ++ xs) (right_of_five q (codes " HTTP/1.1\r\n") (host_lines (codes "localhost") 80) (close_line true) (codes "\r\n"))

request-is : (records : ℕ) → records ≤ 4096 → request records ≡ print_request (head records)
unfolding request_text
request-is records few =
    let last = decimal (records - 1) in
    let is_digits : list_all is_digit last ≡ true = digits_decimal digits (records - 1) (omega arith) in
    ap (λ q. (codes "GET /soak.nc.dods?" ++ q ++ codes " HTTP/1.1\r\n") ++ host_lines (codes "localhost") 80 ++ close_line true ++ codes "\r\n") (escaped-is last is_digits)
    ∙ sent (codes "s%5B0:2:" ++ (last ++ (codes "%5D%5B0:31%5D%5B1:3:31%5D,i%5B0:" ++ (last ++ codes "%5D%5B31:31%5D%5B0:31%5D"))))
    ∙ sym (printed (target records))

-- ---- what the target asks for

plain_first : (b : ℕ) (xs : List ℕ) → eqb b 37 ≡ false → percent_decode (b ∷ xs) ≡ b ∷ percent_decode xs
unfolding percent_decode
plain_first b [] e = refl
plain_first b (c ∷ []) e = refl
plain_first b (c ∷ d ∷ xs) e = rw e refl

abbrev is_plain_byte : ℕ → Bool
is_plain_byte b = not (eqb b 37)

plain_run : (xs rest : List ℕ) → list_all is_plain_byte xs ≡ true → percent_decode (xs ++ rest) ≡ xs ++ percent_decode rest
plain_run [] rest e = refl
plain_run (b ∷ xs) rest e =
    let own = and_parts _ _ e in
    plain_first b (xs ++ rest) (no (eqb b 37) own.0) ∙ ap (λ ys. b ∷ ys) (plain_run xs rest own.1)
  where
    no : (t : Bool) → not t ≡ true → t ≡ false
    no true h = absurd cc
    no false h = refl

digits_plain : (ds : List ℕ) → list_all is_digit ds ≡ true → list_all is_plain_byte ds ≡ true
digits_plain [] e = refl
digits_plain (d ∷ ds) e =
    let own = and_parts _ _ e in
    let is : is_digit d ≡ true = own.0 in
    let plain : eqb d 37 ≡ false = grind (arith, nat_tests, is) in
    rw plain (digits_plain ds own.1)

decoded-2 : (ds : List ℕ) → list_all is_digit ds ≡ true → percent_decode (codes "0:" ++ (ds ++ codes "%5D%5B31:31%5D%5B0:31%5D")) ≡ codes "0:" ++ (ds ++ codes "][31:31][0:31]")
unfolding percent_decode
decoded-2 ds e =
    plain_run (codes "0:") (ds ++ codes "%5D%5B31:31%5D%5B0:31%5D") refl
    ∙ ap (λ xs. codes "0:" ++ xs) (plain_run ds (codes "%5D%5B31:31%5D%5B0:31%5D") (digits_plain ds e))

decoded-1 : (ds : List ℕ) → list_all is_digit ds ≡ true
    → percent_decode (codes "%5D%5B0:31%5D%5B1:3:31%5D,i%5B0:" ++ (ds ++ codes "%5D%5B31:31%5D%5B0:31%5D")) ≡ codes "][0:31][1:3:31],i[0:" ++ (ds ++ codes "][31:31][0:31]")
unfolding percent_decode
decoded-1 ds e = ap (λ xs. codes "][0:31][1:3:31],i[" ++ xs) (decoded-2 ds e)

decoded : (ds : List ℕ) → list_all is_digit ds ≡ true
    → percent_decode (codes "s%5B0:2:" ++ (ds ++ (codes "%5D%5B0:31%5D%5B1:3:31%5D,i%5B0:" ++ (ds ++ codes "%5D%5B31:31%5D%5B0:31%5D"))))
    ≡ codes "s[0:2:" ++ (ds ++ (codes "][0:31][1:3:31],i[0:" ++ (ds ++ codes "][31:31][0:31]")))
unfolding percent_decode
decoded ds e =
    let z = codes "%5D%5B0:31%5D%5B1:3:31%5D,i%5B0:" ++ (ds ++ codes "%5D%5B31:31%5D%5B0:31%5D") in
    ap (λ xs. codes "s[" ++ xs) (plain_run (codes "0:2:") (ds ++ z) refl)
    ∙ ap (λ xs. codes "s[0:2:" ++ xs) (plain_run ds z (digits_plain ds e) ∙ ap (λ xs. ds ++ xs) (decoded-1 ds e))

asked-for : (q : List ℕ) → is_target_long (codes "/soak.nc.dods?" ++ q) ≡ true → target_of (codes "/soak.nc.dods?" ++ q) ≡ Some (record { name = file_name; kind = Dods; query = percent_decode q })
unfolding target_of is_name percent_decode
asked-for q e = rw e refl

length-five : (a l b c : List ℕ) → length (a ++ (l ++ (b ++ (l ++ c)))) ≡ length a + length l + length b + length l + length c
length-five a l b c =
    omega (arith, length-append a (l ++ (b ++ (l ++ c))), length-append l (b ++ (l ++ c)), length-append b (l ++ c), length-append l c)

length-is : (records : ℕ) → length (target records) ≡ 78 + 2 * length (decimal (records - 1))
length-is records = length-five (codes "/soak.nc.dods?s%5B0:2:") (decimal (records - 1)) (codes "%5D%5B0:31%5D%5B1:3:31%5D,i%5B0:") (codes "%5D%5B31:31%5D%5B0:31%5D") ∙ omega arith

length-most : (records : ℕ) → records ≤ 4096 → length (target records) ≤ 86
length-most records few =
    omega (arith, length-is records, length-decimal-le 4 (records - 1) (omega arith) (omega arith) (omega arith))

long-of : (n : ℕ) → 78 ≤ n → n ≤ 86 → (nat_lt 0 n && nat_le n 16384) ≡ true
long-of n some most =
    let low : ltb 0 n ≡ true = grind (arith, nat_tests) in
    let high : leb n 16384 ≡ true = grind (arith, nat_tests) in
    rw low (rw high refl)

long-is : (records : ℕ) → records ≤ 4096 → is_target_long (target records) ≡ true
long-is records few = long-of (length (target records)) (omega (arith, length-is records)) (length-most records few)

pub asked : (records : ℕ) → records ≤ 4096 → target_of (target records) ≡ Some (record { name = file_name; kind = Dods; query = constraint_text records })
asked records few =
    let last = decimal (records - 1) in
    let is_digits : list_all is_digit last ≡ true = digits_decimal digits (records - 1) (omega arith) in
    asked-for (codes "s%5B0:2:" ++ (last ++ (codes "%5D%5B0:31%5D%5B1:3:31%5D,i%5B0:" ++ (last ++ codes "%5D%5B31:31%5D%5B0:31%5D")))) (long-is records few)
    ∙ ap (λ q. Some (record { name = file_name; kind = Dods; query = q })) (decoded last is_digits)

-- ---- the head is one, and the first request

is-field : (name value : List ℕ) → IsToken name → list_all is_value_byte (32 ∷ value) ≡ true → IsField (field name value)
is-field name value n v = record { name = n; raw = by-bits is_value_byte (32 ∷ value) v }

four : (a b c d : Field) → IsField a → IsField b → IsField c → IsField d → All IsField (a ∷ b ∷ c ∷ d ∷ [])
four a b c d p q r t =
    All-cons IsField a (b ∷ c ∷ d ∷ []) p (All-cons IsField b (c ∷ d ∷ []) q (All-cons IsField c (d ∷ []) r (All-cons IsField d [] t (All-nil IsField))))

-- each digit passes a test, and so does what follows them
digits-pass : (test : ℕ → Bool) → ((d : ℕ) → is_digit d ≡ true → test d ≡ true) → (ds rest : List ℕ) → list_all is_digit ds ≡ true → list_all test rest ≡ true → list_all test (ds ++ rest) ≡ true
digits-pass test passes [] rest e h = h
digits-pass test passes (d ∷ ds) rest e h =
    let own = and_parts _ _ e in
    let first : test d ≡ true = passes d own.0 in
    rw first (digits-pass test passes ds rest own.1 h)

digit-uri : (d : ℕ) → is_digit d ≡ true → is_uri_byte d ≡ true
digit-uri d e = grind (arith, nat_tests, e)

is_ascii : ℕ → Bool
is_ascii b = nat_lt b 128

digit-ascii : (d : ℕ) → is_digit d ≡ true → is_ascii d ≡ true
unfolding is_ascii
digit-ascii d e = grind (arith, nat_tests, e)

uris : (ds : List ℕ) → list_all is_digit ds ≡ true → list_all is_uri_byte (codes "/soak.nc.dods?s%5B0:2:" ++ (ds ++ (codes "%5D%5B0:31%5D%5B1:3:31%5D,i%5B0:" ++ (ds ++ codes "%5D%5B31:31%5D%5B0:31%5D")))) ≡ true
uris ds e = digits-pass is_uri_byte digit-uri ds (codes "%5D%5B0:31%5D%5B1:3:31%5D,i%5B0:" ++ (ds ++ codes "%5D%5B31:31%5D%5B0:31%5D")) e (digits-pass is_uri_byte digit-uri ds (codes "%5D%5B31:31%5D%5B0:31%5D") e refl)

asciis : (ds : List ℕ) → list_all is_digit ds ≡ true → list_all is_ascii (codes "/soak.nc.dods?s%5B0:2:" ++ (ds ++ (codes "%5D%5B0:31%5D%5B1:3:31%5D,i%5B0:" ++ (ds ++ codes "%5D%5B31:31%5D%5B0:31%5D")))) ≡ true
unfolding is_ascii
asciis ds e = digits-pass is_ascii digit-ascii ds (codes "%5D%5B0:31%5D%5B1:3:31%5D,i%5B0:" ++ (ds ++ codes "%5D%5B31:31%5D%5B0:31%5D")) e (digits-pass is_ascii digit-ascii ds (codes "%5D%5B31:31%5D%5B0:31%5D") e refl)

to-ascii : (xs : List ℕ) → list_all is_ascii xs ≡ true → IsAscii xs
unfolding is_ascii
to-ascii [] e i = omega arith
to-ascii (b ∷ xs) e zero = ltb-true b 128 (and_parts _ _ e).0
to-ascii (b ∷ xs) e (suc i) = to-ascii xs (and_parts _ _ e).1 i

valid : (records : ℕ) → records ≤ 4096 → IsRequestHead (head records)
unfolding is_token_byte
valid records few =
    let is_digits : list_all is_digit (decimal (records - 1)) ≡ true = digits_decimal digits (records - 1) (omega arith) in
    record {
      method = token (codes "GET") (omega arith) refl;
      target = (omega (arith, length-is records), by-bits is_uri_byte (target records) (uris (decimal (records - 1)) is_digits));
      target_text = IsUtf8-from_ascii (target records) (to-ascii (target records) (asciis (decimal (records - 1)) is_digits));
      minor = omega arith;
      fields = four (field (codes "Host") (codes "localhost:80")) (field (codes "User-Agent") (codes "dap2/1.0")) (field (codes "Accept-Encoding") (codes "identity")) (field (codes "Connection") (codes "close"))
          (is-field (codes "Host") (codes "localhost:80") (token (codes "Host") (omega arith) refl) refl)
          (is-field (codes "User-Agent") (codes "dap2/1.0") (token (codes "User-Agent") (omega arith) refl) refl)
          (is-field (codes "Accept-Encoding") (codes "identity") (token (codes "Accept-Encoding") (omega arith) refl) refl)
          (is-field (codes "Connection") (codes "close") (token (codes "Connection") (omega arith) refl) refl);
    }

request-most : (records : ℕ) → records ≤ 4096 → length (request records) ≤ 16384
request-most records few =
    omega (arith, ap length (request-is records few ∙ printed (target records)), length-append (codes "GET ") (target records ++ behind), length-append (target records) behind, length-most records few)

pub is-first : (records : ℕ) → records ≤ 4096 → FirstRequest (request records) (head records) []
is-first records few = (((valid records few, request-is records few ∙ sym (append-nil (print_request (head records)))), omega arith), request-most records few)

digit-byte : (d : ℕ) → is_digit d ≡ true → is_byte d ≡ true
digit-byte d e = grind (arith, nat_tests, e)

bytes-of : (ds : List ℕ) → list_all is_digit ds ≡ true → list_all is_byte (codes "s[0:2:" ++ (ds ++ (codes "][0:31][1:3:31],i[0:" ++ (ds ++ codes "][31:31][0:31]")))) ≡ true
bytes-of ds e = digits-pass is_byte digit-byte ds (codes "][0:31][1:3:31],i[0:" ++ (ds ++ codes "][31:31][0:31]")) e (digits-pass is_byte digit-byte ds (codes "][31:31][0:31]") e refl)

pub are_bytes : (records : ℕ) → records ≤ 4096 → IsTrue (list_all is_byte (constraint_text records))
are_bytes records few = bytes-of (decimal (records - 1)) (digits_decimal digits (records - 1) (omega arith))
