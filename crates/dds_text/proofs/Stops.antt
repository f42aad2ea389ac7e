-- What the parts of a reader of bytes want.
use Rattle.std.proofs.Common.{◌≡◌, ℕ, ◌+◌, ◌-◌, ◌<◌, ◌≤◌, true, false, List, [], ◌∷◌, ◌++◌, length, take, drop, get_or, slice_range, Some, sym, ap, subst, ◌∙◌, append_assoc, append-nil, arith, length-append, length-drop, length-take}
use Rattle.std.proofs.lemmas.Grind.{common_steps}
use Rattle.std.proofs.lemmas.List.{take_more, take_all, get_or-drop}
use Rattle.dap_types.specs.Model.{Dataset}
use Rattle.dap_model.specs.Tokens.{is_plain, tokens_of}
use Rattle.dds_text.specs.inner.States.{State, begun, ended, IsOpenState}
use Rattle.dds_text.specs.inner.Standing.{Holds, Reads, IsReadTo, EndsDds, run, after_word, after_sign}
use Rattle.dds_text.specs.inner.Words.{left}
use Rattle.dds_text.specs.declared.front.Front.{Front}
use Rattle.dds_text.specs.declared.parser.Parser.{Parser}
use Rattle.dds_text.proofs.Answered.{held_open}
use Rattle.dds_text.proofs.Bytes.{after_word-more, run-stop, left-stop, left-plain, tokens-plain}

pub ruleset ends = (after_word-more)

-- what is held is open
pub holds_open : (p : Parser) (s : State) → Holds p s → IsOpenState s
unfolding Holds
holds_open p s is = subst IsOpenState (sym is.0) (held_open p.levels p.state)

-- behind a word and its last byte
pub stopped : (p : Parser) (left_over : List ℕ) (began : ℕ) (text w : List ℕ) (b : ℕ) (s s1 s2 : State) → run begun (tokens_of text) ≡ Some s → w ≡ left text → is_plain b ≡ false
    → after_word w s ≡ Some s1 → after_sign b s1 ≡ Some s2 → Holds p s2 → left_over ≡ [] → began ≡ length text + 1
    → Reads p (left_over ++ []) (text ++ b ∷ []) × (began + length (left (text ++ b ∷ [])) ≡ length (text ++ b ∷ []))
stopped p left_over began text w b s s1 s2 r e h first second held empty at =
    let nothing = left-stop text b h in (
      (s2, run-stop text w b s s1 r e h first ∙ second, held, ap (λ l. l ++ []) empty ∙ sym nothing),
      ap (λ l. began + length l) nothing ∙ omega (arith, at, length-append text (b ∷ [])),
    )

-- the end of a dataset behind a word
pub ended_at : (text w : List ℕ) (b : ℕ) (s s1 : State) (d : Dataset) → run begun (tokens_of text) ≡ Some s → w ≡ left text → is_plain b ≡ false
    → after_word w s ≡ Some s1 → after_sign b s1 ≡ Some (ended d) → b ≡ 59 → EndsDds (text ++ b ∷ []) d
ended_at text w b s s1 d r e h first second last = (run-stop text w b s s1 r e h first ∙ second, (text, ap (λ c. text ++ c ∷ []) last))

-- a byte more of the piece
pub text_more : (text piece : List ℕ) (i : ℕ) → i < length piece → (text ++ take i piece) ++ get_or piece i 0 ∷ [] ≡ text ++ take (i + 1) piece
text_more text piece i h = append_assoc text (take i piece) (get_or piece i 0 ∷ []) ∙ ap (λ l. text ++ l) (sym (take_more piece i 0 h))

pub text_whole : (text piece : List ℕ) (i : ℕ) → i < length piece → (text ++ take i piece) ++ get_or piece i 0 ∷ drop (i + 1) piece ≡ text ++ piece
text_whole text piece i h = grind (arith, common_steps)

pub range_more : (piece : List ℕ) (from i : ℕ) → from ≤ i → i < length piece → slice_range piece from i ++ get_or piece i 0 ∷ [] ≡ slice_range piece from (i + 1)
range_more piece from i le h =
    let one : i + 1 - from ≡ i - from + 1 = omega arith in
    let inside : i - from < length (drop from piece) = omega (arith, length-drop from piece) in
    sym (ap (λ n. take n (drop from piece)) one ∙ take_more (drop from piece) (i - from) 0 inside ∙ ap (λ b. take (i - from) (drop from piece) ++ b ∷ []) (get_or-drop from piece (i - from) 0 ∙ ap (λ k. get_or piece k 0) (let same : from + (i - from) ≡ i = omega arith in same)))

pub more_of_word : (f : Front) (piece text : List ℕ) (from i : ℕ) → from ≤ i → i < length piece → is_plain (get_or piece i 0) ≡ true
    → IsReadTo f (slice_range piece from i) (text ++ take i piece) → IsReadTo f (slice_range piece from (i + 1)) (text ++ take (i + 1) piece)
more_of_word f piece text from i le h plain is =
    let b = get_or piece i 0 in
    let ((s, r, held, part), at) = is in
    let before = text ++ take i piece in
    let more = left-plain before b plain in
    let whole = text_more text piece i h in
    let P : List ℕ → Type 0 = λ t. IsReadTo f (slice_range piece from (i + 1)) t in
    subst P whole (
      (
        s,
        ap (run begun) (tokens-plain before b plain) ∙ r,
        held,
        ap (λ l. f.word.items ++ l) (sym (range_more piece from i le h)) ∙ sym (append_assoc f.word.items (slice_range piece from i) (b ∷ [])) ∙ ap (λ l. l ++ b ∷ []) part ∙ sym more,
      ),
      ap (λ l. f.began + length l) more ∙ omega (arith, at, length-append before (b ∷ []), length-append (left before) (b ∷ [])),
    )

pub place_in : (text piece : List ℕ) (i n m : ℕ) → i < length piece → n ≡ m → m ≡ length text → length (text ++ take i piece) ≡ n + i
place_in text piece i n m h e at = omega (arith, length-append text (take i piece), length-take i piece)

-- from one byte to the next
pub next_byte : (f : Front) (piece text : List ℕ) (i : ℕ) → i < length piece → IsReadTo f [] ((text ++ take i piece) ++ get_or piece i 0 ∷ []) → IsReadTo f (slice_range piece (i + 1) (i + 1)) (text ++ take (i + 1) piece)
next_byte f piece text i h is =
    let P : List ℕ → Type 0 = λ t. IsReadTo f (slice_range piece (i + 1) (i + 1)) t in
    let none : i + 1 - (i + 1) ≡ 0 = omega arith in
    let Q : List ℕ → Type 0 = λ l. IsReadTo f l ((text ++ take i piece) ++ get_or piece i 0 ∷ []) in
    subst P (text_more text piece i h) (subst Q (sym (ap (λ n. take n (drop (i + 1) piece)) none)) is)

-- the end of the dataset inside a piece
pub ended_in : (text piece : List ℕ) (i used : ℕ) (d : Dataset) → i < length piece → used ≡ i + 1 → EndsDds ((text ++ take i piece) ++ get_or piece i 0 ∷ []) d → (used ≤ length piece) × EndsDds (text ++ take used piece) d
ended_in text piece i used d h e is =
    let P : List ℕ → Type 0 = λ t. EndsDds t d in
    (omega (arith, e), subst P (text_more text piece i h ∙ ap (λ n. text ++ take n piece) (sym e)) is)

-- behind a piece
pub whole_piece : (p : Parser) (word more : List ℕ) (began n m : ℕ) (piece text : List ℕ) (from i : ℕ) → length piece ≤ i → i ≤ length piece → n ≡ m → m ≡ length text → more ≡ word ++ slice_range piece from (length piece)
    → Reads p (word ++ slice_range piece from i) (text ++ take i piece) → began + length (left (text ++ take i piece)) ≡ length (text ++ take i piece)
    → Reads p (more ++ []) (text ++ piece) × (began + length (left (text ++ piece)) ≡ length (text ++ piece)) × (n + length piece ≡ length (text ++ piece))
whole_piece p word more began n m piece text from i past within e at grown reads began_is =
    let all : take i piece ≡ piece = take_all i piece past in
    let rest : slice_range piece from i ≡ slice_range piece from (length piece) = ap (slice_range piece from) (let same : i ≡ length piece = omega arith in same) in
    let part : more ++ [] ≡ word ++ slice_range piece from i = append-nil more ∙ grown ∙ ap (λ l. word ++ l) (sym rest) in
    let P : List ℕ → Type 0 = λ t. Reads p (more ++ []) (text ++ t) × (began + length (left (text ++ t)) ≡ length (text ++ t)) × (n + length piece ≡ length (text ++ t)) in
    let Q : List ℕ → Type 0 = λ w. Reads p w (text ++ take i piece) in
    subst P all (subst Q (sym part) reads, began_is, omega (arith, length-append text (take i piece), ap length all))
