-- The line between a DDS and the values: what was read of it, and why nothing was.
use Rattle.std.proofs.Common.{◌≡◌, ℕ, suc, ◌+◌, ◌-◌, ◌<◌, ◌≤◌, List, [], ◌∷◌, ◌++◌, length, take, drop, get_or, codes, true, false, inl, inr, ⊎_elim, refl, ap, ◌∙◌, sym, subst, arith, append_assoc, append-nil, length-drop, drop-cons, take-append-drop}
use Rattle.std.proofs.lemmas.Bool.{false≢true}
use Rattle.std.proofs.lemmas.List.{append_cancel_left, drop_all, take_more}
use Rattle.std.proofs.lemmas.List.Elements.{All-head, All-tail}
use Rattle.std.specs.List.{AllPass}
use Rattle.plain_lemmas.proofs.Lists.{cons_first, cons_rest}
use Rattle.dap_model.specs.Tokens.{is_white}
use Rattle.xdr_decode.specs.Verdict.{IsDataLine}
use Rattle.xdr_decode.specs.declared.data_line.LineStop.{LineStop}
use Rattle.xdr_decode.specs.declared.data_line.LineStop.TheVariants.{Cut, Differs}
use Rattle.xdr_decode.specs.inner.Lined.{Behind, EndLines, EndsWhite, IsText, StopsIn, WordLines}

-- ---- a text, byte by byte
-- the first bytes are those of the text
abbrev pub Same : List ℕ → List ℕ → ℕ → Type 0
Same bytes text at = (at ≤ length bytes) × (take at bytes ≡ take at text)

pub same_more : (bytes text : List ℕ) (at b : ℕ) → at < length text → at < length bytes → b ≡ get_or text at 0 → get_or bytes at 0 ≡ b → Same bytes text at → Same bytes text (at + 1)
same_more bytes text at b lt inside is same so = (
  omega (arith, inside),
  take_more bytes at 0 inside ∙ ap (λ l. l ++ get_or bytes at 0 ∷ []) so.1 ∙ ap (λ x. take at text ++ x ∷ []) (same ∙ is) ∙ sym (take_more text at 0 lt),
)

apart_at : (xs : List ℕ) (at : ℕ) → at < length xs → xs ≡ take at xs ++ get_or xs at 0 ∷ drop (suc at) xs
apart_at xs at lt = sym (take-append-drop at xs) ∙ ap (λ l. take at xs ++ l) (drop-cons xs at 0 lt)

pub text_cut : (bytes text : List ℕ) (at : ℕ) → at < length text → length bytes ≤ at → Same bytes text at → StopsIn (IsText text) bytes Cut
text_cut bytes text at lt all so =
    let whole : take at bytes ≡ bytes = take_whole bytes at all in
    (get_or text at 0, drop (suc at) text, ap (λ l. l ++ get_or text at 0 ∷ drop (suc at) text) (sym whole ∙ so.1) ∙ sym (apart_at text at lt))
  where
    take_whole : (xs : List ℕ) (n : ℕ) → length xs ≤ n → take n xs ≡ xs
    take_whole xs n le = sym (append-nil (take n xs)) ∙ ap (λ l. take n xs ++ l) (sym (drop_all n xs le)) ∙ take-append-drop n xs

pub text_differs : (bytes text : List ℕ) (at b left : ℕ) → at < length text → at < length bytes → b ≡ get_or text at 0 → ¬ (get_or bytes at 0 ≡ b) → left ≡ length bytes - at → Same bytes text at → StopsIn (IsText text) bytes (Differs left)
text_differs bytes text at b left lt inside is other left_is so = record {
  front = take at bytes;
  next = get_or bytes at 0;
  rest = drop (suc at) bytes;
  parts = apart_at bytes at inside;
  is_left = omega (arith, left_is, length-drop (suc at) bytes, inside);
  other = get_or text at 0;
  more = drop (suc at) text;
  begun = ap (λ l. l ++ get_or text at 0 ∷ drop (suc at) text) so.1 ∙ sym (apart_at text at lt);
  none = λ t behind after t_is same.
      let whole : take at text ++ (get_or text at 0 ∷ drop (suc at) text ++ behind) ≡ take at text ++ (get_or bytes at 0 ∷ after) =
      sym (append_assoc (take at text) (get_or text at 0 ∷ drop (suc at) text) behind) ∙ ap (λ l. l ++ behind) (sym (apart_at text at lt)) ∙ ap (λ l. l ++ behind) (sym t_is) ∙ same
      ∙ ap (λ l. l ++ get_or bytes at 0 ∷ after) so.1 in
      let later : get_or text at 0 ∷ drop (suc at) text ++ behind ≡ get_or bytes at 0 ∷ after = append_cancel_left (take at text) (get_or text at 0 ∷ drop (suc at) text ++ behind) (get_or bytes at 0 ∷ after) whole in
      other (sym (cons_first (get_or text at 0) (get_or bytes at 0) (drop (suc at) text ++ behind) after later) ∙ sym is);
}

pub text_read : (bytes text : List ℕ) (at : ℕ) → length text ≤ at → at ≤ length text → Same bytes text at → bytes ≡ text ++ drop (length text) bytes
text_read bytes text at all within so =
    let e : at ≡ length text = omega (arith, all, within) in
    let whole : take at text ≡ text = sym (append-nil (take at text)) ∙ ap (λ l. take at text ++ l) (sym (drop_all at text all)) ∙ take-append-drop at text in
    sym (take-append-drop at bytes) ∙ ap (λ l. l ++ drop at bytes) (so.1 ∙ whole) ∙ ap (λ n. text ++ drop n bytes) e

-- ---- the end of the line
pub end_cut : (bytes : List ℕ) → bytes ≡ [] → StopsIn EndLines bytes Cut
end_cut bytes none = (10, [], inl (ap (λ l. l ++ 10 ∷ []) none))

some_bytes : (bytes : List ℕ) → ¬ (bytes ≡ []) → bytes ≡ get_or bytes 0 0 ∷ drop 1 bytes
some_bytes [] some = absurd (some refl)
some_bytes (b ∷ bytes) some = refl

pub end_feed : (bytes : List ℕ) → ¬ (bytes ≡ []) → get_or bytes 0 0 ≡ 10 → Behind EndLines bytes (drop 1 bytes)
end_feed bytes some is = (codes "\n", inl refl, some_bytes bytes some ∙ ap (λ b. b ∷ drop 1 bytes) is)

pub end_return : (bytes rest : List ℕ) → bytes ≡ codes "\r\n" ++ rest → Behind EndLines bytes rest
end_return bytes rest is = (codes "\r\n", inr refl, is)

pub end_differs : (bytes : List ℕ) (b left : ℕ) → ¬ (bytes ≡ []) → get_or bytes 0 0 ≡ b → ¬ (b ≡ 10) → ¬ (b ≡ 13) → left ≡ length bytes → StopsIn EndLines bytes (Differs left)
end_differs bytes b left some is feed back left_is = record {
  front = [];
  next = get_or bytes 0 0;
  rest = drop 1 bytes;
  parts = some_bytes bytes some;
  is_left = left_is ∙ ap length (some_bytes bytes some);
  other = 10;
  more = [];
  begun = inl refl;
  none = λ text behind after t same. not_begun text behind after t same;
}
  where
    not_begun : (text behind after : List ℕ) → EndLines text → text ++ behind ≡ get_or bytes 0 0 ∷ after → ⊥
    not_begun text behind after (inl t) same = feed (sym is ∙ sym (cons_first 10 (get_or bytes 0 0) behind after (ap (λ l. l ++ behind) (sym t) ∙ same)))
    not_begun text behind after (inr t) same = back (sym is ∙ sym (cons_first 13 (get_or bytes 0 0) (10 ∷ behind) after (ap (λ l. l ++ behind) (sym t) ∙ same)))

first_same : (front : List ℕ) (next : ℕ) (rest after : List ℕ) → get_or (front ++ next ∷ rest) 0 0 ≡ get_or (front ++ next ∷ after) 0 0
first_same [] next rest after = refl
first_same (f ∷ front) next rest after = refl

pub end_stop : (bytes : List ℕ) (e : LineStop) → get_or bytes 0 0 ≡ 13 → StopsIn (IsText (codes "\r\n")) bytes e → StopsIn EndLines bytes e
end_stop bytes Cut is (next, more, same) = (next, more, inr same)
end_stop bytes (Differs left) is p = record {
  front = p.front;
  next = p.next;
  rest = p.rest;
  parts = p.parts;
  is_left = p.is_left;
  other = p.other;
  more = p.more;
  begun = inr p.begun;
  none = λ text behind after t same.
      ⊎_elim (λ feed.
      let back : get_or (p.front ++ p.next ∷ after) 0 0 ≡ 13 = sym (first_same p.front p.next p.rest after) ∙ ap (λ l. get_or l 0 0) (sym p.parts) ∙ is in
      let ten : 10 ≡ get_or (p.front ++ p.next ∷ after) 0 0 = ap (λ l. get_or l 0 0) (ap (λ l. l ++ behind) (sym feed) ∙ same) in
      omega (arith, ten, back)) (λ both. p.none text behind after both same) t;
}

-- ---- the word
pub word_read : (bytes rest behind : List ℕ) → bytes ≡ codes "Data:" ++ rest → Behind EndLines rest behind → Behind WordLines bytes behind
word_read bytes rest behind is (end, is_end, parts) = (codes "Data:" ++ end, (end, is_end, refl), is ∙ ap (λ l. codes "Data:" ++ l) parts)

pub word_stop : (bytes : List ℕ) (e : LineStop) → StopsIn (IsText (codes "Data:")) bytes e → StopsIn WordLines bytes e
word_stop bytes Cut (next, more, same) = (next, more ++ codes "\n", (codes "\n", inl refl, sym (append_assoc bytes (next ∷ more) (codes "\n")) ∙ ap (λ l. l ++ codes "\n") same))
word_stop bytes (Differs left) p = record {
  front = p.front;
  next = p.next;
  rest = p.rest;
  parts = p.parts;
  is_left = p.is_left;
  other = p.other;
  more = p.more ++ codes "\n";
  begun = (codes "\n", inl refl, sym (append_assoc p.front (p.other ∷ p.more) (codes "\n")) ∙ ap (λ l. l ++ codes "\n") p.begun);
  none = λ text behind after t same.
      let (end, is_end, is) = t in
      p.none (codes "Data:") (end ++ behind) after refl (sym (append_assoc (codes "Data:") end behind) ∙ ap (λ l. l ++ behind) (sym is) ∙ same);
}

pub word_end_stop : (bytes rest : List ℕ) (e : LineStop) → bytes ≡ codes "Data:" ++ rest → StopsIn EndLines rest e → StopsIn WordLines bytes e
word_end_stop bytes rest Cut is (next, more, same) =
    (next, more, (rest ++ next ∷ more, same, ap (λ l. l ++ next ∷ more) is))
word_end_stop bytes rest (Differs left) is p = record {
  front = codes "Data:" ++ p.front;
  next = p.next;
  rest = p.rest;
  parts = is ∙ ap (λ l. codes "Data:" ++ l) p.parts;
  is_left = p.is_left;
  other = p.other;
  more = p.more;
  begun = (p.front ++ p.other ∷ p.more, p.begun, refl);
  none = λ text behind after t same.
      let (end, is_end, text_is) = t in
      let whole : codes "Data:" ++ (end ++ behind) ≡ codes "Data:" ++ (p.front ++ p.next ∷ after) = sym (append_assoc (codes "Data:") end behind) ∙ ap (λ l. l ++ behind) (sym text_is) ∙ same in
      p.none end behind after is_end (append_cancel_left (codes "Data:") (end ++ behind) (p.front ++ p.next ∷ after) whole);
}

not_white : (w x : ℕ) → is_white w ≡ true → is_white x ≡ false → w ≡ x → ⊥
not_white w x white other same = false≢true (sym other ∙ ap is_white (sym same) ∙ white)

pub white_same : (ws vs : List ℕ) (x y : ℕ) (xs ys : List ℕ) → AllPass is_white ws → AllPass is_white vs → is_white x ≡ false → is_white y ≡ false → ws ++ x ∷ xs ≡ vs ++ y ∷ ys → x ∷ xs ≡ y ∷ ys
white_same [] [] x y xs ys a b one two same = same
white_same [] (v ∷ vs) x y xs ys a b one two same = absurd (not_white v x (All-head (λ z. is_white z ≡ true) v vs b) one (sym (cons_first x v xs (vs ++ y ∷ ys) same)))
white_same (w ∷ ws) [] x y xs ys a b one two same = absurd (not_white w y (All-head (λ z. is_white z ≡ true) w ws a) two (cons_first w y (ws ++ x ∷ xs) ys same))
white_same (w ∷ ws) (v ∷ vs) x y xs ys a b one two same =
    white_same ws vs x y xs ys (All-tail (λ z. is_white z ≡ true) w ws a) (All-tail (λ z. is_white z ≡ true) v vs b) one two (cons_rest w v (ws ++ x ∷ xs) (vs ++ y ∷ ys) same)

first_other : (front : List ℕ) (next : ℕ) (rest after : List ℕ) → EndsWhite (front ++ next ∷ rest) → (y : ℕ) × (ys : List ℕ) × (front ++ next ∷ after ≡ y ∷ ys) × (is_white y ≡ false)
first_other [] next rest after ends = (next, after, refl, ends)
first_other (f ∷ front) next rest after ends = (f, front ++ next ∷ after, refl, ends)

d_other : is_white 68 ≡ false
d_other = refl

pub line_read : (bytes white rest behind : List ℕ) → bytes ≡ white ++ rest → AllPass is_white white → Behind WordLines rest behind → Behind IsDataLine bytes behind
line_read bytes white rest behind is all (text, (end, is_end, text_is), parts) = (
  white ++ text,
  record { white = white; end = end; parts = ap (λ l. white ++ l) text_is; is_white = all; is_end = is_end },
  is ∙ ap (λ l. white ++ l) parts ∙ sym (append_assoc white text behind),
)

pub line_stop : (bytes white rest : List ℕ) (e : LineStop) → bytes ≡ white ++ rest → AllPass is_white white → EndsWhite rest → StopsIn WordLines rest e → StopsIn IsDataLine bytes e
line_stop bytes white rest Cut is all ends (next, more, (end, is_end, same)) = (
  next,
  more,
  record { white = white; end = end; parts = ap (λ l. l ++ next ∷ more) is ∙ append_assoc white rest (next ∷ more) ∙ ap (λ l. white ++ l) same; is_white = all; is_end = is_end },
)
line_stop bytes white rest (Differs left) is all ends p = record {
  front = white ++ p.front;
  next = p.next;
  rest = p.rest;
  parts = is ∙ ap (λ l. white ++ l) p.parts ∙ sym (append_assoc white p.front (p.next ∷ p.rest));
  is_left = p.is_left;
  other = p.other;
  more = p.more;
  begun =
      let (end, is_end, same) = p.begun in
      record { white = white; end = end; parts = append_assoc white p.front (p.other ∷ p.more) ∙ ap (λ l. white ++ l) same; is_white = all; is_end = is_end };
  none = λ text behind after t same.
      let (y, ys, first, other) = first_other p.front p.next p.rest after (subst EndsWhite p.parts ends) in
      let later : List ℕ = codes "ata:" ++ (t.end ++ behind) in
      let whole : t.white ++ 68 ∷ later ≡ white ++ y ∷ ys =
      sym (append_assoc t.white (codes "Data:" ++ t.end) behind) ∙ ap (λ l. l ++ behind) (sym t.parts) ∙ same ∙ append_assoc white p.front (p.next ∷ after) ∙ ap (λ l. white ++ l) first in
      p.none (codes "Data:" ++ t.end) behind after (t.end, t.is_end, refl) (white_same t.white white 68 y later ys t.is_white all d_other other whole ∙ sym first);
}

-- ---- one line
end_alone : (e f y : List ℕ) → EndLines e → EndLines f → e ++ y ≡ f → y ≡ []
end_alone e f y (inl a) (inl b) same = cons_rest 10 10 y [] (ap (λ l. l ++ y) (sym a) ∙ same ∙ b)
end_alone e f y (inr a) (inr b) same = cons_rest 10 10 y [] (cons_rest 13 13 (10 ∷ y) (10 ∷ []) (ap (λ l. l ++ y) (sym a) ∙ same ∙ b))
end_alone e f y (inl a) (inr b) same = let n : 10 ≡ 13 = cons_first 10 13 y (10 ∷ []) (ap (λ l. l ++ y) (sym a) ∙ same ∙ b) in absurd (omega (arith, n))
end_alone e f y (inr a) (inl b) same = let n : 13 ≡ 10 = cons_first 13 10 (10 ∷ y) [] (ap (λ l. l ++ y) (sym a) ∙ same ∙ b) in absurd (omega (arith, n))

-- no line is a proper front of another
pub line_alone : (l y : List ℕ) → IsDataLine l → IsDataLine (l ++ y) → y ≡ []
line_alone l y a b =
    let whole : a.white ++ 68 ∷ (codes "ata:" ++ (a.end ++ y)) ≡ b.white ++ 68 ∷ (codes "ata:" ++ b.end) =
    sym (append_assoc a.white (codes "Data:" ++ a.end) y) ∙ ap (λ k. k ++ y) (sym a.parts) ∙ b.parts in
    let word : codes "Data:" ++ (a.end ++ y) ≡ codes "Data:" ++ b.end =
    white_same a.white b.white 68 68 (codes "ata:" ++ (a.end ++ y)) (codes "ata:" ++ b.end) a.is_white b.is_white d_other d_other whole in
    end_alone a.end b.end y a.is_end b.is_end (append_cancel_left (codes "Data:") (a.end ++ y) b.end word)
