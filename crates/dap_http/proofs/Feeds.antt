-- How many line feeds a head has, and what can complete one whose fields are too many.
use Rattle.std.proofs.Common.{Bool, ◌≡◌, ◌≤◌, ◌<◌, ◌+◌, ◌⊎◌, ℕ, true, false, not, List, [], ◌∷◌, ◌++◌, length, take, drop, refl, sym, ap, subst, arith, ◌≢◌, ◌∙◌, inl, inr, append_assoc, append-nil}
use Rattle.std.specs.Prelude.{if◌then◌else◌, ◌==◌, ◌||◌, IsTrue}
use Rattle.std.specs.List.{flat_map}
use Rattle.std.proofs.Math.Seq.{take-append_seam}
use Rattle.std.proofs.lemmas.List.{take-append-drop, take-append-le, length-take-le}
use Rattle.std.proofs.lemmas.List.Elements.{All-cons, All-head, All-take, All-append}
use Rattle.std.proofs.lemmas.List.Sums.{sum_by-append}
use Rattle.std.proofs.lemmas.Grind.{flat_map-append}
use Rattle.std.proofs.lemmas.Bool.{cases_lt, false≢true, or_from, ne_eqb}
use Rattle.httparse.specs.Grammar.{AllPass, Field, IsField, IsToken, LineEnd, crlf, lf, is_token_byte, is_uri_byte, print_blank, print_end, print_field, print_request, print_section, print_version, RequestHead, MayBecomeRequest}
use Rattle.httparse.specs.Pieces.{is_newline}
use Rattle.httparse.specs.Spans.{RequestExceeds}
use Rattle.std.proofs.Common.{length-append}
use Rattle.std.specs.List.{list_any}
use Rattle.httparse.proofs.PieceLemmas.{token_is_no_newline}
use Rattle.dap_http.specs.Requests.{IsFirstLine, MayBecomeHead, after_newlines, feeds}

pub feeds-append : (a b : List ℕ) → feeds (a ++ b) ≡ feeds a + feeds b
feeds-append a b = sum_by-append (λ x. if x == 10 then 1 else 0) a b

pub feeds-end : (e : LineEnd) → feeds (print_end e) ≡ 1
feeds-end crlf = refl
feeds-end lf = refl

-- no line feed is found
pub none-found : (xs : List ℕ) → list_any (λ b. b == 10) xs ≡ false → feeds xs ≡ 0
none-found [] e = refl
none-found (x ∷ xs) e = go (x == 10) refl (λ f. none-found xs f) where
  go : (b : Bool) → (x == 10) ≡ b → (list_any (λ b. b == 10) xs ≡ false → feeds xs ≡ 0) → feeds (x ∷ xs) ≡ 0
  go true is more = absurd (false≢true (sym e ∙ ap (λ v. v || list_any (λ b. b == 10) xs) is))
  go false is more =
      let first : feeds (x ∷ []) ≡ 0 = rw is refl in
      omega (arith, feeds-append (x ∷ []) xs, first, more (sym (ap (λ v. v || list_any (λ b. b == 10) xs) is) ∙ e))

feeds-field : (f : Field) → 1 ≤ feeds (print_field f)
feeds-field f =
    let e = feeds-append (f.name ++ 58 ∷ f.raw) (print_end f.end) in
    let one = feeds-end f.end in
    omega (arith, e, one)

-- a head ends with a line feed
pub end-feed : (e : LineEnd) → (front : List ℕ) × (print_end e ≡ front ++ 10 ∷ [])
end-feed crlf = (13 ∷ [], refl)
end-feed lf = ([], refl)

one-feed : (rest : List ℕ) → feeds (10 ∷ rest) ≡ 1 + feeds rest
one-feed rest = feeds-append (10 ∷ []) rest

-- bytes without a line feed end no head that was not there before
pub no-feed : (bytes x print rest front : List ℕ) → bytes ++ x ≡ print ++ rest → print ≡ front ++ 10 ∷ [] → feeds (bytes ++ x) ≡ feeds bytes → length print ≤ length bytes
no-feed bytes x print rest front is ends same = elim (cases_lt (length bytes) (length print)) [
  | inr le ↦ le
  | inl lt ↦
      let long : length print ≡ length front + 1 = ap length ends ∙ length-append front (10 ∷ []) in
      let all : (bytes ++ x) ≡ front ++ (10 ∷ rest) = is ∙ ap (λ t. t ++ rest) ends ∙ append_assoc front (10 ∷ []) rest in
      let first : take (length bytes) front ≡ bytes =
      sym (take-append-le (length bytes) front (10 ∷ rest) (omega (arith, lt, long))) ∙ ap (take (length bytes)) (sym all) ∙ take-append_seam bytes x in
      let split : front ≡ bytes ++ drop (length bytes) front = sym (take-append-drop (length bytes) front) ∙ ap (λ t. t ++ drop (length bytes) front) first in
      let a : feeds (bytes ++ x) ≡ feeds (front ++ (10 ∷ rest)) = ap feeds all in
      let b = feeds-append front (10 ∷ rest) in
      let c : feeds front ≡ feeds (bytes ++ drop (length bytes) front) = ap feeds split in
      let d = feeds-append bytes (drop (length bytes) front) in
      absurd (omega (arith, same, a, b, c, d, one-feed rest))
]

-- a line feed for each field at least
pub feeds-lines : (fs : List Field) → length fs ≤ feeds (flat_map print_field fs)
feeds-lines [] = omega arith
feeds-lines (f ∷ fs) =
    let e = feeds-append (print_field f) (flat_map print_field fs) in
    let one = feeds-field f in
    let rest = feeds-lines fs in
    omega (arith, e, one, rest)

pub feeds-section : (fs : List Field) (last : LineEnd) → length fs + 1 ≤ feeds (print_section fs last)
feeds-section fs last =
    let e = feeds-append (flat_map print_field fs) (print_end last) in
    let lines = feeds-lines fs in
    let one = feeds-end last in
    omega (arith, e, lines, one)

-- the bytes of a head before its fields
abbrev pub print_start : RequestHead → List ℕ
print_start h = print_blank h.blank ++ h.method ++ 32 ∷ h.target ++ 32 ∷ print_version h.minor ++ print_end h.line_end

request_parts : (h : RequestHead) → print_request h ≡ print_start h ++ print_section h.fields h.last
unfolding print_request
request_parts h = refl

pub request-feed : (h : RequestHead) → (front : List ℕ) × (print_request h ≡ front ++ 10 ∷ [])
request-feed h =
    let (e, is) = end-feed h.last in (
      print_start h ++ (flat_map print_field h.fields ++ e),
      request_parts h ∙ ap (λ t. print_start h ++ (flat_map print_field h.fields ++ t)) is
          ∙ ap (λ t. print_start h ++ t) (sym (append_assoc (flat_map print_field h.fields) e (10 ∷ [])))
          ∙ sym (append_assoc (print_start h) (flat_map print_field h.fields ++ e) (10 ∷ [])),
    )

feeds-start : (h : RequestHead) → 1 ≤ feeds (print_start h)
feeds-start h =
    let e = feeds-append (print_blank h.blank ++ h.method ++ 32 ∷ h.target ++ 32 ∷ print_version h.minor) (print_end h.line_end) in
    let one = feeds-end h.line_end in
    omega (arith, e, one)

-- bytes with too many fields have a line feed for each, and one for the first line
pub exceeds-feeds : (room : ℕ) (buf : List ℕ) → RequestExceeds room buf → room + 2 ≤ feeds buf
exceeds-feeds room buf (front, rest, is, h, reads, many) =
    let whole : feeds (front ++ print_end lf) ≡ feeds (print_request h) = ap feeds (reads.1 ∙ append-nil _) in
    let a = feeds-append front (print_end lf) in
    let one = feeds-end lf in
    let parts : feeds (print_request h) ≡ feeds (print_start h ++ print_section h.fields h.last) = ap feeds (request_parts h) in
    let b = feeds-append (print_start h) (print_section h.fields h.last) in
    let s = feeds-start h in
    let f = feeds-section h.fields h.last in
    let c : feeds buf ≡ feeds (front ++ rest) = ap feeds is in
    let d = feeds-append front rest in
    omega (arith, whole, a, one, parts, b, s, f, c, d, many)

-- what follows a start and then more fields than there is room for, cut off after those that fit
pub cut : (start buf more : List ℕ) (fields : List Field) (last : LineEnd) (room : ℕ) → room < length fields → 1 ≤ feeds start
    → buf ++ more ≡ start ++ print_section fields last
    → (room + 1 ≤ feeds buf) ⊎ ((other : List ℕ) × (buf ++ other ≡ start ++ print_section (take room fields) lf))
cut start buf more fields last room many one is =
    let front = start ++ flat_map print_field (take room fields) in
    let back = flat_map print_field (drop room fields) ++ print_end last in
    let split : flat_map print_field fields ≡ flat_map print_field (take room fields) ++ flat_map print_field (drop room fields) =
    ap (flat_map print_field) (sym (take-append-drop room fields)) ∙ flat_map-append print_field (take room fields) (drop room fields) in
    let whole : buf ++ more ≡ front ++ back =
    is ∙ ap (λ l. start ++ (l ++ print_end last)) split
    ∙ ap (λ l. start ++ l) (append_assoc (flat_map print_field (take room fields)) (flat_map print_field (drop room fields)) (print_end last))
    ∙ sym (append_assoc start (flat_map print_field (take room fields)) back) in
    elim (cases_lt (length buf) (length front)) [
      | inl short ↦
          let prefix : buf ≡ take (length buf) front =
          sym (take-append_seam buf more) ∙ ap (take (length buf)) whole ∙ take-append-le (length buf) front back (omega (arith, short)) in
          let filled : buf ++ drop (length buf) front ≡ front = ap (λ l. l ++ drop (length buf) front) prefix ∙ take-append-drop (length buf) front in
          inr (
            drop (length buf) front ++ print_end lf,
            sym (append_assoc buf (drop (length buf) front) (print_end lf)) ∙ ap (λ l. l ++ print_end lf) filled
                ∙ append_assoc start (flat_map print_field (take room fields)) (print_end lf),
          )
      | inr long ↦
          let prefix : front ≡ take (length front) buf =
          sym (take-append_seam front back) ∙ ap (take (length front)) (sym whole) ∙ take-append-le (length front) buf more long in
          let a = feeds-append (take (length front) buf) (drop (length front) buf) in
          let b : feeds (take (length front) buf ++ drop (length front) buf) ≡ feeds buf = ap feeds (take-append-drop (length front) buf) in
          let c : feeds front ≡ feeds (take (length front) buf) = ap feeds prefix in
          let d = feeds-append start (flat_map print_field (take room fields)) in
          let e = feeds-lines (take room fields) in
          let n = length-take-le room fields (omega (arith, many)) in
          inl (omega (arith, a, b, c, d, e, n, one))
    ]

-- no byte of a line's end
blank-after : (ends : List LineEnd) (xs : List ℕ) → after_newlines (print_blank ends ++ xs) ≡ after_newlines xs
blank-after [] xs = refl
blank-after (crlf ∷ ends) xs = blank-after ends xs
blank-after (lf ∷ ends) xs = blank-after ends xs

plain_token : (bytes : List ℕ) → AllPass is_token_byte bytes → AllPass (λ b. not (is_newline b)) bytes
plain_token bytes all = λ k d lt. rw (token_is_no_newline _ (all k d lt)) refl

uri_is_no_newline : (b : ℕ) → is_uri_byte b ≡ true → is_newline b ≡ false
uri_is_no_newline b uri =
    let not_cr : b ≢ 13 = λ e. false≢true (subst (λ (v : ℕ). is_uri_byte v ≡ true) e uri) in
    let not_lf : b ≢ 10 = λ e. false≢true (subst (λ (v : ℕ). is_uri_byte v ≡ true) e uri) in
    or_from _ _ (ne_eqb b 13 not_cr) (ne_eqb b 10 not_lf)

plain_uri : (bytes : List ℕ) → AllPass is_uri_byte bytes → AllPass (λ b. not (is_newline b)) bytes
plain_uri bytes all = λ k d lt. rw (uri_is_no_newline _ (all k d lt)) refl

-- a request line up to the target holds no CR and no LF
in_line : (method target : List ℕ) → IsToken method → AllPass is_uri_byte target → IsFirstLine (method ++ 32 ∷ target)
in_line [] target token uri = absurd (omega (arith, token.0))
in_line (m ∷ ms) target token uri =
    let first : is_newline m ≡ false = token_is_no_newline m (All-head (λ b. IsTrue (is_token_byte b)) m ms token.1) in
    rw first (
      omega arith,
      All-append (λ b. IsTrue (not (is_newline b))) (m ∷ ms) (32 ∷ target) (plain_token (m ∷ ms) token.1)
          (All-cons (λ b. IsTrue (not (is_newline b))) 32 target refl (plain_uri target uri)),
    )

-- what a partial answer shows, with room for so many fields
pub may-become : (room : ℕ) (buf : List ℕ) → room ≡ 64 → MayBecomeRequest buf → MayBecomeHead buf ⊎ (IsFirstLine buf ⊎ (room + 1 ≤ feeds buf))
may-become room buf e (inl (more, h, reads)) = elim (cases_lt room (length h.fields)) [
  | inl many ↦
      let is : buf ++ more ≡ print_start h ++ print_section h.fields h.last = reads.1 ∙ append-nil _ ∙ request_parts h in
      elim (cut (print_start h) buf more h.fields h.last room many (feeds-start h) is) [
        | inl enough ↦ inr (inr enough)
        | inr other ↦
            let cut_head : RequestHead = record h { fields = take room h.fields; last = lf } in
            let n = length-take-le room h.fields (omega (arith, many)) in
            inl (
              other.0,
              cut_head,
              (
                (
                  record { method = reads.0.method; target = reads.0.target; target_text = reads.0.target_text; minor = reads.0.minor; fields = All-take IsField room h.fields reads.0.fields },
                  other.1 ∙ sym (request_parts cut_head) ∙ sym (append-nil _),
                ),
                omega (arith, n, e),
              ),
            )
      ]
  | inr fits ↦ inl (more, h, (reads, omega (arith, fits, e)))
]
may-become room buf e (inr (blank, method, target, token, uri, is)) =
    let front : after_newlines buf ≡ after_newlines (method ++ 32 ∷ target) =
    ap after_newlines (is ∙ append_assoc (print_blank blank) method (32 ∷ target)) ∙ blank-after blank (method ++ 32 ∷ target) in
    inr (inl (rw front (in_line method target token uri)))
