-- What a state says of the bytes behind a stage, byte by byte.
use Rattle.std.proofs.Common.{◌≡◌, ℕ, ◌+◌, ◌-◌, ◌*◌, ◌<◌, ◌≤◌, ◌⊎◌, Bool, true, false, List, [], ◌∷◌, ◌++◌, length, replicate, refl, sym, ap, ◌∙◌, arith, append_assoc, append-nil, length-append, inl, inr, Option, Some, None}
use Rattle.std.specs.Prelude.{if◌then◌else◌, ◌==◌, nat_lt, nat_le, IsTrue}
use Rattle.std.specs.Char.{is_ascii_hexdigit, digit_value}
use Rattle.std.specs.Str.Parse.{digits_value}
use Rattle.std.proofs.lemmas.Bool.{eqb-true, leb-true, leb-false, ltb-true, ltb-false, true≢false}
use Rattle.std.proofs.lemmas.Int.Digits.{digits_value_push}
use Rattle.std.proofs.lemmas.List.Elements.{All-nil, All-push}
use Rattle.httparse.specs.Ascii.{crlf_bytes}
use Rattle.httparse.specs.Grammar.{AllPass, ChunkLine, IsExtension, chunk_size, is_extension_byte, is_ows, print_chunk_line, print_extension}
use Rattle.dap_http.specs.declared.chunk_step.At.{At}
use Rattle.dap_http.specs.declared.chunk_step.At.TheVariants.{Line, Digits, Blanks, Extension, LineFeed, Data, EndCr, EndLf, Fresh, Trailer, EmptyCr, TrailerCr, Done, Bad}
use Rattle.dap_http.specs.Chunks.{Fits, IsInLine, IsSizeLine, MayFit, Stage, at_bytes, at_end, at_line, at_trailer, print_trailers}
use Rattle.std.proofs.lemmas.List.{length-replicate}
use Rattle.plain_lemmas.proofs.Truths.{true_or_false}
use Rattle.dap_http.specs.inner.Steps.{is_data, is_done, is_open, is_start, step, step_blanks, step_trailer}
use Rattle.dap_http.proofs.Lines.{line-parts}
use Rattle.dap_http.proofs.Seams.{in-line-nil, in-line-push, in-line-front, one-more, snoc-same}

-- the digits of a number
pub record IsNumber (size : ℕ) (digits : List ℕ) : Type 0 where
  pub some : 0 < length digits
  pub few : length digits ≤ 8
  pub all : AllPass is_ascii_hexdigit digits
  pub value : digits_value 16 digits ≡ size

-- a line with these parts begins so
pub record IsBegun (n size : ℕ) (part digits pad tail : List ℕ) : Type 0 where
  pub number : IsNumber size digits
  pub blanks : AllPass is_ows pad
  pub is : part ≡ digits ++ (pad ++ tail)
  pub count : length part ≡ n
  pub short : n ≤ 1022

abbrev pub Holds : At → Stage → List ℕ → Type 0
Holds Line (at_line cs) part = part ≡ []
Holds (Digits n size) (at_line cs) part = IsNumber size part × (length part ≡ n)
Holds (Blanks n size) (at_line cs) part = (ds pad : List ℕ) × IsBegun n size part ds pad []
Holds (Extension n size) (at_line cs) part = (ds pad t : List ℕ) × IsBegun n size part ds pad (59 ∷ t) × AllPass is_extension_byte t
Holds (LineFeed size) (at_line cs) part = (l : ChunkLine) × IsSizeLine l × (print_chunk_line l ≡ part ++ 10 ∷ [])
Holds (Data left) (at_bytes cs l) part = (length part + left ≡ chunk_size l) × (0 < left)
Holds EndCr (at_end cs l bytes) part = part ≡ []
Holds EndLf (at_end cs l bytes) part = part ≡ 13 ∷ []
Holds (Fresh r) (at_trailer cs l lines) part = (part ≡ []) × (length (print_trailers lines) + r ≡ 16384)
Holds (Trailer r) (at_trailer cs l lines) part =
    IsInLine part × ((xs : List ℕ) → ¬ (part ≡ xs ++ 13 ∷ [])) × (length (print_trailers lines) + length part + r ≡ 16384) × (2 ≤ r) × (0 < length part)
Holds (EmptyCr r) (at_trailer cs l lines) part = (part ≡ 13 ∷ []) × (length (print_trailers lines) + 1 + r ≡ 16384) × (1 ≤ r)
Holds (TrailerCr r) (at_trailer cs l lines) part =
    (xs : List ℕ) × (part ≡ xs ++ 13 ∷ []) × IsInLine part × (length (print_trailers lines) + length part + r ≡ 16384) × (1 ≤ r) × (0 < length xs)
Holds at s part = ⊥

-- what one more byte does: it goes on, it ends, or it is wrong
abbrev pub Steps : At → Stage → List ℕ → Type 0
Steps next s part = Holds next s part ⊎ (Fits s part ⊎ (next ≡ Bad))

-- ---- chunk lines

number-push : (size b : ℕ) (ds : List ℕ) → IsNumber size ds → is_ascii_hexdigit b ≡ true → length ds < 8 → IsNumber (size * 16 + digit_value b) (ds ++ b ∷ [])
number-push size b ds is hex few = record {
  some = omega (arith, one-more ds b);
  few = omega (arith, one-more ds b, few);
  all = All-push (λ x. IsTrue (is_ascii_hexdigit x)) ds b is.all hex;
  value = digits_value_push 16 ds b ∙ ap (λ n. n * 16 + digit_value b) is.value;
}

-- a line of parts that fits
pub line-of : List ℕ → List ℕ → Option (List ℕ) → ChunkLine
line-of ds pad e = record { digits = ds; pad = pad; extension = e }

whole-line : (size : ℕ) (ds pad : List ℕ) (e : Option (List ℕ)) → IsNumber size ds → AllPass is_ows pad → IsExtension e
    → length (ds ++ (pad ++ print_extension e)) ≤ 1022 → IsSizeLine (line-of ds pad e) × (print_chunk_line (line-of ds pad e) ≡ (ds ++ (pad ++ print_extension e)) ++ crlf_bytes)
unfolding line-of
whole-line size ds pad e number blanks ext short =
    let printed : print_chunk_line (line-of ds pad e) ≡ (ds ++ (pad ++ print_extension e)) ++ crlf_bytes =
    line-parts (line-of ds pad e) ∙ ap (λ t. ds ++ t) (sym (append_assoc pad (print_extension e) crlf_bytes)) ∙ sym (append_assoc ds (pad ++ print_extension e) crlf_bytes) in
    let long : length (print_chunk_line (line-of ds pad e)) ≡ length (ds ++ (pad ++ print_extension e)) + 2 = ap length printed ∙ length-append (ds ++ (pad ++ print_extension e)) crlf_bytes in (
      record {
        is_line = record { digits = (number.some, omega (arith, number.few), number.all); pad = blanks; extension = ext };
        few = number.few;
        short = omega (arith, long, short);
      },
      printed,
    )

-- what its tail is
tail-of : Option (List ℕ) → List ℕ
tail-of e = print_extension e

ended : (n size : ℕ) (cs : List _) (part ds pad : List ℕ) (e : Option (List ℕ)) → IsBegun n size part ds pad (print_extension e) → IsExtension e → Holds (LineFeed size) (at_line cs) (part ++ 13 ∷ [])
ended n size cs part ds pad e begun ext =
    let short : length (ds ++ (pad ++ print_extension e)) ≤ 1022 = omega (arith, begun.short, begun.count, ap length begun.is) in
    let (is, printed) = whole-line size ds pad e begun.number begun.blanks ext short in
    (line-of ds pad e, is, printed ∙ ap (λ t. t ++ crlf_bytes) (sym begun.is) ∙ sym (append_assoc part (13 ∷ []) (10 ∷ [])))

more-blanks : (n size b : ℕ) (part ds pad : List ℕ) → IsBegun n size part ds pad [] → is_ows b ≡ true → n ≤ 1021 → IsBegun (n + 1) size (part ++ b ∷ []) ds (pad ++ b ∷ []) []
more-blanks n size b part ds pad begun ows few = record {
  number = begun.number;
  blanks = All-push (λ x. IsTrue (is_ows x)) pad b begun.blanks ows;
  is = ap (λ t. t ++ b ∷ []) begun.is ∙ append_assoc ds (pad ++ []) (b ∷ []) ∙ ap (λ t. ds ++ t) (append_assoc pad [] (b ∷ []) ∙ sym (append-nil (pad ++ b ∷ [])));
  count = one-more part b ∙ ap (λ k. k + 1) begun.count;
  short = omega (arith, few);
}

more-tail : (n size b : ℕ) (part ds pad tail : List ℕ) → IsBegun n size part ds pad tail → n ≤ 1021 → IsBegun (n + 1) size (part ++ b ∷ []) ds pad (tail ++ b ∷ [])
more-tail n size b part ds pad tail begun few = record {
  number = begun.number;
  blanks = begun.blanks;
  is = ap (λ t. t ++ b ∷ []) begun.is ∙ append_assoc ds (pad ++ tail) (b ∷ []) ∙ ap (λ t. ds ++ t) (append_assoc pad tail (b ∷ []));
  count = one-more part b ∙ ap (λ k. k + 1) begun.count;
  short = omega (arith, few);
}

-- behind the digits and some blanks
blanks-step : (n size b : ℕ) (cs : List _) (part ds pad : List ℕ) → IsBegun n size part ds pad [] → Steps (step_blanks n size b) (at_line cs) (part ++ b ∷ [])
blanks-step n size b cs part ds pad begun = go (true_or_false (b == 13)) (true_or_false (nat_lt 1021 n)) (true_or_false (is_ows b)) (true_or_false (b == 59)) where
  go : ((b == 13) ≡ true) ⊎ ((b == 13) ≡ false) → (nat_lt 1021 n ≡ true) ⊎ (nat_lt 1021 n ≡ false) → (is_ows b ≡ true) ⊎ (is_ows b ≡ false) → ((b == 59) ≡ true) ⊎ ((b == 59) ≡ false)
      → Steps (step_blanks n size b) (at_line cs) (part ++ b ∷ [])
  go (inl cr) few ows semi =
      let same : b ≡ 13 = eqb-true b 13 cr in
      rw same (inl (ended n size cs part ds pad None begun tt))
  go (inr cr) (inl many) ows semi = rw (cr, many) (inr (inr refl))
  go (inr cr) (inr few) (inl ows) semi = rw (cr, few, ows) (inl (ds, pad ++ b ∷ [], more-blanks n size b part ds pad begun ows (ltb-false 1021 n few)))
  go (inr cr) (inr few) (inr ows) (inl semi) =
      let same : b ≡ 59 = eqb-true b 59 semi in
      rw (cr, few, ows, semi) (rw same (inl (ds, pad, [], more-tail n size 59 part ds pad [] begun (ltb-false 1021 n few), All-nil (λ x. IsTrue (is_extension_byte x)))))
  go (inr cr) (inr few) (inr ows) (inr semi) = rw (cr, few, ows, semi) (inr (inr refl))

digits-step : (n size b : ℕ) (cs : List _) (part : List ℕ) → IsNumber size part → length part ≡ n → Steps (step (Digits n size) b) (at_line cs) (part ++ b ∷ [])
digits-step n size b cs part number count = go (true_or_false (is_ascii_hexdigit b)) (true_or_false (nat_lt n 8)) where
  begun : IsBegun n size part part [] []
  begun = record { number = number; blanks = All-nil (λ x. IsTrue (is_ows x)); is = sym (append-nil part); count = count; short = omega (arith, count, number.few) }

  go : (is_ascii_hexdigit b ≡ true) ⊎ (is_ascii_hexdigit b ≡ false) → (nat_lt n 8 ≡ true) ⊎ (nat_lt n 8 ≡ false) → Steps (step (Digits n size) b) (at_line cs) (part ++ b ∷ [])
  go (inl hex) (inl few) =
      let lt = ltb-true n 8 few in
      rw (hex, few) (inl (number-push size b part number hex (omega (arith, lt, count)), one-more part b ∙ ap (λ k. k + 1) count))
  go (inl hex) (inr many) = rw (hex, many) (inr (inr refl))
  go (inr hex) few = rw hex (blanks-step n size b cs part part [] begun)

first-step : (b : ℕ) (cs : List _) → Steps (step Line b) (at_line cs) (b ∷ [])
first-step b cs = go (true_or_false (is_ascii_hexdigit b)) where
  go : (is_ascii_hexdigit b ≡ true) ⊎ (is_ascii_hexdigit b ≡ false) → Steps (step Line b) (at_line cs) (b ∷ [])
  go (inl hex) = rw hex (inl (
    record {
      some = omega arith;
      few = omega arith;
      all = All-push (λ x. IsTrue (is_ascii_hexdigit x)) [] b (All-nil (λ x. IsTrue (is_ascii_hexdigit x))) hex;
      value = digits_value_push 16 [] b ∙ omega arith;
    },
    refl,
  ))
  go (inr hex) = rw hex (inr (inr refl))

extension-step : (n size b : ℕ) (cs : List _) (part ds pad t : List ℕ) → IsBegun n size part ds pad (59 ∷ t) → AllPass is_extension_byte t → Steps (step (Extension n size) b) (at_line cs) (part ++ b ∷ [])
extension-step n size b cs part ds pad t begun ext = go (true_or_false (b == 13)) (true_or_false (b == 10)) (true_or_false (nat_lt 1021 n)) where
  go : ((b == 13) ≡ true) ⊎ ((b == 13) ≡ false) → ((b == 10) ≡ true) ⊎ ((b == 10) ≡ false) → (nat_lt 1021 n ≡ true) ⊎ (nat_lt 1021 n ≡ false) → Steps (step (Extension n size) b) (at_line cs) (part ++ b ∷ [])
  go (inl cr) lf few =
      let same : b ≡ 13 = eqb-true b 13 cr in
      rw same (inl (ended n size cs part ds pad (Some t) begun ext))
  go (inr cr) (inl lf) few = rw (cr, lf) (inr (inr refl))
  go (inr cr) (inr lf) (inl many) = rw (cr, lf, many) (inr (inr refl))
  go (inr cr) (inr lf) (inr few) =
      let plain : is_extension_byte b ≡ true = rw (cr, lf) refl in
      rw (cr, lf, few) (inl (ds, pad, t ++ b ∷ [], more-tail n size b part ds pad (59 ∷ t) begun (ltb-false 1021 n few), All-push (λ x. IsTrue (is_extension_byte x)) t b ext plain))

feed-step : (size b : ℕ) (cs : List _) (part : List ℕ) (l : ChunkLine) → IsSizeLine l → print_chunk_line l ≡ part ++ 10 ∷ [] → Steps (step (LineFeed size) b) (at_line cs) (part ++ b ∷ [])
feed-step size b cs part l is printed = go (true_or_false (b == 10)) where
  go : ((b == 10) ≡ true) ⊎ ((b == 10) ≡ false) → Steps (step (LineFeed size) b) (at_line cs) (part ++ b ∷ [])
  go (inl lf) =
      let same : b ≡ 10 = eqb-true b 10 lf in
      rw same (inr (inl (l, is, sym printed)))
  go (inr lf) = rw lf (inr (inr refl))

-- ---- bytes and their line end

data-step : (left b : ℕ) (cs : List _) (l : ChunkLine) (part : List ℕ) → length part + left ≡ chunk_size l → 0 < left → Steps (step (Data left) b) (at_bytes cs l) (part ++ b ∷ [])
data-step left b cs l part count some = go (true_or_false (nat_le left 1)) where
  go : (nat_le left 1 ≡ true) ⊎ (nat_le left 1 ≡ false) → Steps (step (Data left) b) (at_bytes cs l) (part ++ b ∷ [])
  go (inl one) =
      let le = leb-true left 1 one in
      rw one (inr (inl (omega (arith, one-more part b, count, le, some))))
  go (inr more) =
      let gt = leb-false left 1 more in
      rw more (inl (omega (arith, one-more part b, count, gt), omega (arith, gt)))

cr-step : (b : ℕ) (cs : List _) (l : ChunkLine) (bytes : List ℕ) → Steps (step EndCr b) (at_end cs l bytes) (b ∷ [])
cr-step b cs l bytes = go (true_or_false (b == 13)) where
  go : ((b == 13) ≡ true) ⊎ ((b == 13) ≡ false) → Steps (step EndCr b) (at_end cs l bytes) (b ∷ [])
  go (inl cr) = let same : b ≡ 13 = eqb-true b 13 cr in rw same (inl refl)
  go (inr cr) = rw cr (inr (inr refl))

lf-step : (b : ℕ) (cs : List _) (l : ChunkLine) (bytes : List ℕ) → Steps (step EndLf b) (at_end cs l bytes) (13 ∷ b ∷ [])
lf-step b cs l bytes = go (true_or_false (b == 10)) where
  go : ((b == 10) ≡ true) ⊎ ((b == 10) ≡ false) → Steps (step EndLf b) (at_end cs l bytes) (13 ∷ b ∷ [])
  go (inl lf) = let same : b ≡ 10 = eqb-true b 10 lf in rw same (inr (inl refl))
  go (inr lf) = rw lf (inr (inr refl))

-- ---- trailer lines

-- a byte that ends no line, behind part of one: `cr` is the state where it is a CR
trailer-step : (r b : ℕ) (cr : At) (cs : List _) (l : ChunkLine) (lines : List (List ℕ)) (part : List ℕ) → IsInLine (part ++ b ∷ [])
    → length (print_trailers lines) + length part + r ≡ 16384
    → (b ≡ 13 → 2 ≤ r → Holds cr (at_trailer cs l lines) (part ++ 13 ∷ []))
    → Steps (step_trailer r b cr) (at_trailer cs l lines) (part ++ b ∷ [])
trailer-step r b cr cs l lines part inside count holds = go (true_or_false (b == 13)) (true_or_false (nat_lt r 2)) (true_or_false (nat_lt r 3)) where
  go : ((b == 13) ≡ true) ⊎ ((b == 13) ≡ false) → (nat_lt r 2 ≡ true) ⊎ (nat_lt r 2 ≡ false) → (nat_lt r 3 ≡ true) ⊎ (nat_lt r 3 ≡ false)
      → Steps (step_trailer r b cr) (at_trailer cs l lines) (part ++ b ∷ [])
  go (inl is) (inl few) three = rw (is, few) (inr (inr refl))
  go (inl is) (inr few) three =
      let same : b ≡ 13 = eqb-true b 13 is in
      rw (is, few) (inl (rw same (holds same (ltb-false r 2 few))))
  go (inr non) two (inl few) = rw (non, few) (inr (inr refl))
  go (inr non) two (inr few) =
      let room = ltb-false r 3 few in
      let plain : (xs : List ℕ) → ¬ (part ++ b ∷ [] ≡ xs ++ 13 ∷ []) = λ xs e.
      let last : b ≡ 13 = (snoc-same part xs b 13 e).1 in
      absurd (true≢false (rw last at non)) in
      rw (non, few) (inl (inside, plain, omega (arith, one-more part b, count, room), omega (arith, room), omega (arith, one-more part b)))

fresh-step : (r b : ℕ) (cs : List _) (l : ChunkLine) (lines : List (List ℕ)) → length (print_trailers lines) + r ≡ 16384 → Steps (step (Fresh r) b) (at_trailer cs l lines) (b ∷ [])
fresh-step r b cs l lines count =
    trailer-step r b (EmptyCr (r - 1)) cs l lines [] (in-line-push [] b in-line-nil none) (omega (arith, count))
    (λ e two. (refl, omega (arith, count, two), omega (arith, two)))
  where
    none : (xs : List ℕ) → ¬ ((b ≡ 10) × ([] ≡ xs ++ 13 ∷ []))
    none xs (e, q) =
        let long : 0 ≡ length (xs ++ 13 ∷ []) = ap length q in
        absurd (omega (arith, long, one-more xs 13))

plain-step : (r b : ℕ) (cs : List _) (l : ChunkLine) (lines : List (List ℕ)) (part : List ℕ) → Holds (Trailer r) (at_trailer cs l lines) part → Steps (step (Trailer r) b) (at_trailer cs l lines) (part ++ b ∷ [])
plain-step r b cs l lines part (inside, plain, count, room, some) =
    let line : IsInLine (part ++ b ∷ []) = in-line-push part b inside (λ xs e. plain xs e.1) in
    trailer-step r b (TrailerCr (r - 1)) cs l lines part line count
    (λ e two. (part, refl, in-line-push part 13 inside (λ xs e. plain xs e.1), omega (arith, one-more part 13, count, two), omega (arith, two), some))

-- behind a CR
behind-cr : (r b : ℕ) (cs : List _) (l : ChunkLine) (lines : List (List ℕ)) (part : List ℕ) → (b == 10) ≡ false → IsInLine part → 0 < length part
    → length (print_trailers lines) + length part + r ≡ 16384 → Steps (step_trailer r b (TrailerCr (r - 1))) (at_trailer cs l lines) (part ++ b ∷ [])
behind-cr r b cs l lines part non inside some count =
    let line : IsInLine (part ++ b ∷ []) = in-line-push part b inside (λ xs e. true≢false (rw e.0 at non)) in
    trailer-step r b (TrailerCr (r - 1)) cs l lines part line count
    (λ e two. (part, refl, rw e at line, omega (arith, one-more part 13, count, two), omega (arith, two), some))

cr-in-line : IsInLine (13 ∷ [])
cr-in-line = in-line-push [] 13 in-line-nil (λ xs e. absurd (omega (arith, e.0)))

empty-step : (r b : ℕ) (cs : List _) (l : ChunkLine) (lines : List (List ℕ)) → length (print_trailers lines) + 1 + r ≡ 16384 → 1 ≤ r → Steps (step (EmptyCr r) b) (at_trailer cs l lines) (13 ∷ b ∷ [])
empty-step r b cs l lines count room = go (true_or_false (b == 10)) where
  go : ((b == 10) ≡ true) ⊎ ((b == 10) ≡ false) → Steps (step (EmptyCr r) b) (at_trailer cs l lines) (13 ∷ b ∷ [])
  go (inl lf) =
      let same : b ≡ 10 = eqb-true b 10 lf in
      let long = length-append (print_trailers lines) crlf_bytes in
      rw same (inr (inl ([], in-line-nil, refl, omega (arith, long, count, room))))
  go (inr lf) = rw lf (behind-cr r b cs l lines (13 ∷ []) lf cr-in-line (omega arith) (omega (arith, count)))

trailer-cr-step : (r b : ℕ) (cs : List _) (l : ChunkLine) (lines : List (List ℕ)) (part : List ℕ) → Holds (TrailerCr r) (at_trailer cs l lines) part → Steps (step (TrailerCr r) b) (at_trailer cs l lines) (part ++ b ∷ [])
trailer-cr-step r b cs l lines part (xs, is, inside, count, room, some) = go (true_or_false (b == 10)) where
  go : ((b == 10) ≡ true) ⊎ ((b == 10) ≡ false) → Steps (step (TrailerCr r) b) (at_trailer cs l lines) (part ++ b ∷ [])
  go (inl lf) =
      let same : b ≡ 10 = eqb-true b 10 lf in
      let text : part ++ 10 ∷ [] ≡ xs ++ crlf_bytes = ap (λ t. t ++ 10 ∷ []) is ∙ append_assoc xs (13 ∷ []) (10 ∷ []) in
      let line : IsInLine xs = in-line-front xs (13 ∷ []) (rw is at inside) in
      let long = length-append (print_trailers lines) (part ++ 10 ∷ []) in
      rw same (inr (inl (xs, line, text, omega (arith, long, one-more part 10, count, room))))
  go (inr lf) = rw lf (behind-cr r b cs l lines part lf inside (omega (arith, ap length is, one-more xs 13)) count)

-- ---- all of them

pub stepped : (at : At) (s : Stage) (part : List ℕ) (b : ℕ) → Holds at s part → Steps (step at b) s (part ++ b ∷ [])
stepped Line (at_line cs) part b is = rw is (first-step b cs)
stepped (Digits n size) (at_line cs) part b (number, count) = digits-step n size b cs part number count
stepped (Blanks n size) (at_line cs) part b (ds, pad, begun) = blanks-step n size b cs part ds pad begun
stepped (Extension n size) (at_line cs) part b (ds, pad, t, begun, ext) = extension-step n size b cs part ds pad t begun ext
stepped (LineFeed size) (at_line cs) part b (l, is, printed) = feed-step size b cs part l is printed
stepped (Data left) (at_bytes cs l) part b (count, some) = data-step left b cs l part count some
stepped EndCr (at_end cs l bytes) part b is = rw is (cr-step b cs l bytes)
stepped EndLf (at_end cs l bytes) part b is = rw is (lf-step b cs l bytes)
stepped (Fresh r) (at_trailer cs l lines) part b (is, count) = rw is (fresh-step r b cs l lines count)
stepped (Trailer r) (at_trailer cs l lines) part b holds = plain-step r b cs l lines part holds
stepped (EmptyCr r) (at_trailer cs l lines) part b (is, count, room) = rw is (empty-step r b cs l lines count room)
stepped (TrailerCr r) (at_trailer cs l lines) part b holds = trailer-cr-step r b cs l lines part holds
stepped at s part b holds = absurd holds

-- ---- some bytes complete it

live-line : (n size : ℕ) (cs : List _) (part ds pad : List ℕ) (e : Option (List ℕ)) → IsBegun n size part ds pad (print_extension e) → IsExtension e → MayFit (at_line cs) part
live-line n size cs part ds pad e begun ext =
    let short : length (ds ++ (pad ++ print_extension e)) ≤ 1022 = omega (arith, begun.short, begun.count, ap length begun.is) in
    let (is, printed) = whole-line size ds pad e begun.number begun.blanks ext short in
    inr (crlf_bytes, omega arith, (line-of ds pad e, is, ap (λ t. t ++ crlf_bytes) begun.is ∙ sym printed))

pub live : (at : At) (s : Stage) (part : List ℕ) → Holds at s part → MayFit s part
live Line (at_line cs) part is = inl is
live (Digits n size) (at_line cs) part (number, count) =
    live-line n size cs part part [] None (record { number = number; blanks = All-nil (λ x. IsTrue (is_ows x)); is = sym (append-nil part); count = count; short = omega (arith, count, number.few) }) tt
live (Blanks n size) (at_line cs) part (ds, pad, begun) = live-line n size cs part ds pad None begun tt
live (Extension n size) (at_line cs) part (ds, pad, t, begun, ext) = live-line n size cs part ds pad (Some t) begun ext
live (LineFeed size) (at_line cs) part (l, is, printed) = inr (10 ∷ [], omega arith, (l, is, sym printed))
live (Data left) (at_bytes cs l) part (count, some) =
    let zeros : List ℕ = replicate left 0 in
    let long : length zeros ≡ left = length-replicate left 0 in
    inr (zeros, omega (arith, long, some), omega (arith, length-append part zeros, long, count))
live EndCr (at_end cs l bytes) part is = inl is
live EndLf (at_end cs l bytes) part is = inr (10 ∷ [], omega arith, ap (λ t. t ++ 10 ∷ []) is)
live (Fresh r) (at_trailer cs l lines) part (is, count) = inl is
live (Trailer r) (at_trailer cs l lines) part (inside, plain, count, room, some) =
    inr (crlf_bytes, omega arith, (part, inside, refl, omega (arith, length-append (print_trailers lines) (part ++ crlf_bytes), length-append part crlf_bytes, count, room)))
live (EmptyCr r) (at_trailer cs l lines) part (is, count, room) =
    inr (10 ∷ [], omega arith, ([], in-line-nil, ap (λ t. t ++ 10 ∷ []) is, omega (arith, length-append (print_trailers lines) (part ++ 10 ∷ []), one-more part 10, ap length is, count, room)))
live (TrailerCr r) (at_trailer cs l lines) part (xs, is, inside, count, room, some) =
    inr (
      10 ∷ [],
      omega arith,
      (
        xs,
        in-line-front xs (13 ∷ []) (rw is at inside),
        ap (λ t. t ++ 10 ∷ []) is ∙ append_assoc xs (13 ∷ []) (10 ∷ []),
        omega (arith, length-append (print_trailers lines) (part ++ 10 ∷ []), one-more part 10, count, room),
      ),
    )
live at s part holds = absurd holds

-- ---- what a state is by its stage

abbrev pub is_bytes : Stage → Bool
is_bytes (at_bytes cs l) = true
is_bytes s = false

pub data-is : (at : At) (s : Stage) (part : List ℕ) → Holds at s part → is_data at ≡ is_bytes s
data-is Line (at_line cs) part holds = refl
data-is (Digits n size) (at_line cs) part holds = refl
data-is (Blanks n size) (at_line cs) part holds = refl
data-is (Extension n size) (at_line cs) part holds = refl
data-is (LineFeed size) (at_line cs) part holds = refl
data-is (Data left) (at_bytes cs l) part holds = refl
data-is EndCr (at_end cs l bytes) part holds = refl
data-is EndLf (at_end cs l bytes) part holds = refl
data-is (Fresh r) (at_trailer cs l lines) part holds = refl
data-is (Trailer r) (at_trailer cs l lines) part holds = refl
data-is (EmptyCr r) (at_trailer cs l lines) part holds = refl
data-is (TrailerCr r) (at_trailer cs l lines) part holds = refl
data-is at s part holds = absurd holds

pub open-is : (at : At) (s : Stage) (part : List ℕ) → Holds at s part → (is_done at ≡ false) × (is_open at ≡ true)
open-is Done s part holds = absurd (done-none s holds) where
  done-none : (s : Stage) → Holds Done s part → ⊥
  done-none (at_line cs) holds = holds
  done-none (at_bytes cs l) holds = holds
  done-none (at_end cs l bytes) holds = holds
  done-none (at_trailer cs l lines) holds = holds
open-is Bad s part holds = absurd (bad-none s holds) where
  bad-none : (s : Stage) → Holds Bad s part → ⊥
  bad-none (at_line cs) holds = holds
  bad-none (at_bytes cs l) holds = holds
  bad-none (at_end cs l bytes) holds = holds
  bad-none (at_trailer cs l lines) holds = holds
open-is at s part holds = (refl, refl)

none-there : (part : List ℕ) → part ≡ [] → 0 < length part → ⊥
none-there part is some = omega (arith, ap length is, some)

-- inside a line no line begins
pub start-is : (at : At) (s : Stage) (part : List ℕ) → Holds at s part → 0 < length part → is_bytes s ≡ false → is_start at ≡ false
start-is Line (at_line cs) part is some other = absurd (none-there part is some)
start-is (Digits n size) (at_line cs) part is some other = refl
start-is (Blanks n size) (at_line cs) part is some other = refl
start-is (Extension n size) (at_line cs) part is some other = refl
start-is (LineFeed size) (at_line cs) part is some other = refl
start-is (Data left) (at_bytes cs l) part is some other = absurd (true≢false other)
start-is EndCr (at_end cs l bytes) part is some other = absurd (none-there part is some)
start-is EndLf (at_end cs l bytes) part is some other = refl
start-is (Fresh r) (at_trailer cs l lines) part is some other = absurd (none-there part is.0 some)
start-is (Trailer r) (at_trailer cs l lines) part is some other = refl
start-is (EmptyCr r) (at_trailer cs l lines) part is some other = refl
start-is (TrailerCr r) (at_trailer cs l lines) part is some other = refl
start-is at s part holds some other = absurd holds

-- bytes of a chunk are never wrong
pub bad-not-bytes : (at : At) (s : Stage) (part : List ℕ) (b : ℕ) → Holds at s part → step at b ≡ Bad → is_bytes s ≡ false
bad-not-bytes (Data left) (at_bytes cs l) part b holds e = absurd (go (nat_le left 1) e) where
  go : (t : Bool) → (if t then EndCr else Data (left - 1)) ≡ Bad → ⊥
  go true q = cc
  go false q = cc
bad-not-bytes at (at_line cs) part b holds e = refl
bad-not-bytes at (at_end cs l bytes) part b holds e = refl
bad-not-bytes at (at_trailer cs l lines) part b holds e = refl
bad-not-bytes at (at_bytes cs l) part b holds e = absurd holds
