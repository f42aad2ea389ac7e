-- A framed body is a whole coded body, and carries that body.
use Rattle.std.proofs.Common.{◌≡◌, ℕ, zero, suc, ◌+◌, ◌*◌, ◌/◌, ◌%◌, ◌^◌, ◌<◌, ◌≤◌, true, false, eqb, None, List, [], ◌∷◌, ◌++◌, length, take, drop, refl, sym, ap, ◌∙◌, subst, arith, append_assoc, append-nil, length-append, length-drop, inl, inr}
use Rattle.std.specs.Prelude.{All}
use Rattle.std.specs.List.{flat_map}
use Rattle.std.specs.Char.{digit_value, is_ascii_hexdigit}
use Rattle.std.specs.Fmt.{digit_glyph, digits}
use Rattle.std.specs.Str.Parse.{digits_value}
use Rattle.std.proofs.Math.Nat.{pow-suc}
use Rattle.std.proofs.lemmas.Bool.{agree_below, agree_below_at, cases_lt, eqb-true}
use Rattle.std.proofs.lemmas.Int.Digits.{digits_value_push}
use Rattle.std.proofs.lemmas.List.{length-take, take-append-drop}
use Rattle.std.proofs.lemmas.List.Elements.{All-cons, All-nil, All-push}
use Rattle.httparse.specs.Ascii.{crlf_bytes}
use Rattle.httparse.specs.Grammar.{AllPass, ChunkLine, chunk_size, print_chunk_line}
use Rattle.dap_http.specs.Chunks.{Chunk, IsChunk, IsInLine, IsSizeLine, IsTrailer, IsWhole, bodies, print_chunks}
use Rattle.dap_http.specs.Frames.{chunk, chunked, first_pieces, last_chunk, piece_size}
use Rattle.dap_http.proofs.Hex.{last-digit, one-digit}
use Rattle.dap_http.proofs.Lines.{line-parts}

glyphs-hex : agree_below (λ d. is_ascii_hexdigit (digit_glyph false d)) (λ d. true) 16 ≡ true
glyphs-hex = refl

glyphs-value : agree_below (λ d. eqb (digit_value (digit_glyph false d)) d) (λ d. true) 16 ≡ true
glyphs-value = refl

glyph-hex : (d : ℕ) → d < 16 → is_ascii_hexdigit (digit_glyph false d) ≡ true
glyph-hex d small = agree_below_at (λ n. is_ascii_hexdigit (digit_glyph false n)) (λ n. true) 16 d glyphs-hex small

glyph-value : (d : ℕ) → d < 16 → digit_value (digit_glyph false d) ≡ d
glyph-value d small = eqb-true _ d (agree_below_at (λ n. eqb (digit_value (digit_glyph false n)) n) (λ n. true) 16 d glyphs-value small)

-- hexadecimal digits of a number
record IsHex (k n : ℕ) (ds : List ℕ) : Type 0 where
  some : 0 < length ds
  few : length ds ≤ suc k
  all : AllPass is_ascii_hexdigit ds
  value : digits_value 16 ds ≡ n

plus-none : (a n : ℕ) → a ≡ n → 0 + a ≡ n
plus-none a n e = omega (arith, e)

hex-one : (k n : ℕ) → n < 16 → IsHex k n (digits 16 false n)
hex-one k n small = subst (IsHex k n) (sym (one-digit n small)) (record {
  some = omega arith;
  few = omega arith;
  all = All-cons (λ b. is_ascii_hexdigit b ≡ true) (digit_glyph false n) [] (glyph-hex n small) (All-nil (λ b. is_ascii_hexdigit b ≡ true));
  value = plus-none (digit_value (digit_glyph false n)) n (glyph-value n small);
})

hex : (k n : ℕ) → n < 16 ^ k → n < 2 ^ 64 → IsHex k n (digits 16 false n)
hex zero n small top = hex-one zero n (omega (arith, small))
hex (suc k) n small top = elim (cases_lt n 16) [
  | inl one ↦ hex-one (suc k) n one
  | inr more ↦
      let e : 16 ^ suc k ≡ 16 ^ k * 16 = pow-suc 16 k in
      let before = hex k (n / 16) (omega (arith, small, e)) (omega (arith, top)) in
      let ds = digits 16 false (n / 16) in
      let g = digit_glyph false (n % 16) in
      let last : n % 16 < 16 = omega arith in
      let long = length-append ds (g ∷ []) in
      subst (IsHex (suc k) n) (sym (last-digit n more top)) (record {
        some = omega (arith, long);
        few = omega (arith, long, before.few);
        all = All-push (λ b. is_ascii_hexdigit b ≡ true) ds g before.all (glyph-hex (n % 16) last);
        value = digits_value_push 16 ds g ∙ omega (arith, before.value, glyph-value (n % 16) last);
      })
]

abbrev line-of : ℕ → ChunkLine
line-of n = record { digits = digits 16 false n; pad = []; extension = None }

is-line : (n : ℕ) → n ≤ 65536 → IsSizeLine (line-of n)
unfolding print_chunk_line
is-line n small =
    let h = hex 5 n (omega (arith, small)) (omega (arith, small)) in
    let e : print_chunk_line (line-of n) ≡ digits 16 false n ++ crlf_bytes = line-parts (line-of n) in
    record {
      is_line = record { digits = (h.some, omega (arith, h.few), h.all); pad = All-nil _; extension = tt };
      few = omega (arith, h.few);
      short = omega (arith, h.few, ap length e, length-append (digits 16 false n) crlf_bytes);
    }

size-is : (n : ℕ) → n ≤ 65536 → chunk_size (line-of n) ≡ n
size-is n small = let h = hex 5 n (omega (arith, small)) (omega (arith, small)) in h.value

chunks-of : (k : ℕ) (body : List ℕ) → k ≡ (length body + 65535) / 65536
    → (cs : List Chunk) × All IsChunk cs × (flat_map chunk (first_pieces 65536 k body) ≡ print_chunks cs) × (body ≡ bodies cs)
chunks-of zero [] e = ([], All-nil IsChunk, refl, refl)
chunks-of zero (b ∷ body) e = absurd (omega (arith, e))
chunks-of (suc k) body e =
    let p = take 65536 body in
    let (cs, all, printed, carried) = chunks-of k (drop 65536 body) (omega (arith, e, length-drop 65536 body)) in
    let long = length-take 65536 body in
    let some : 0 < length p = omega (arith, e, long) in
    let few : length p ≤ 65536 = omega (arith, long) in
    let c : Chunk = record { line = line-of (length p); bytes = p } in
    let size = size-is (length p) few in
    let is_chunk : IsChunk c = record { line = is-line (length p) few; some = omega (arith, some, size); size = sym size } in
    (c ∷ cs, All-cons IsChunk c cs is_chunk all, ap (λ t. chunk p ++ t) printed ∙ ap (λ t. ((t ++ p) ++ crlf_bytes) ++ print_chunks cs) (sym (line-parts (line-of (length p)))), sym (take-append-drop 65536 body) ∙ ap (λ t. p ++ t) carried)

abbrev last-line : ChunkLine
last-line = record { digits = 48 ∷ []; pad = []; extension = None }

is-last : IsSizeLine last-line
unfolding print_chunk_line
is-last = record {
  is_line = record { digits = (omega arith, omega arith, All-cons (λ b. is_ascii_hexdigit b ≡ true) 48 [] refl (All-nil (λ b. is_ascii_hexdigit b ≡ true))); pad = All-nil _; extension = tt };
  few = omega arith;
  short = omega arith;
}

in-line : IsInLine []
in-line front rest e = omega (arith, ap length e, length-append (front ++ crlf_bytes) rest, length-append front crlf_bytes)

pub framed-whole : (body : List ℕ) → IsWhole (chunked body) body
unfolding chunked piece_size print_chunk_line
framed-whole body =
    let (cs, all, printed, carried) = chunks-of ((length body + 65535) / 65536) body refl in
    record {
      chunks = cs;
      last = last-line;
      lines = [];
      is_stage = (all, is-last, refl, All-nil IsTrailer, omega arith);
      fits = ([], in-line, refl, omega arith);
      bytes_are = ap (λ t. t ++ last_chunk) printed ∙ sym (ap (λ t. t ++ crlf_bytes) (append-nil (print_chunks cs ++ (48 ∷ crlf_bytes))) ∙ append_assoc (print_chunks cs) (48 ∷ crlf_bytes) crlf_bytes);
      body_is = carried;
    }
