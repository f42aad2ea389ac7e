-- What a reader says behind a piece, and what it stands after then. Of the piece it reads a front alone,
-- if there is no room for the rest within the limit.
use Rattle.std.proofs.Common.{◌≡◌, ℕ, ◌+◌, ◌-◌, ◌<◌, ◌≤◌, inl, List, [], ◌∷◌, ◌++◌, length, take, drop, sym, ap, subst, ◌∙◌, append_assoc, append-nil, length-append, take-append-drop, arith}
use Rattle.std.proofs.lemmas.List.{drop_all, length-take, take-append-le}
use Rattle.std.proofs.Math.Seq.{take-append-add}
use Rattle.dap_types.specs.Model.{Dataset}
use Rattle.dap_model.specs.Tokens.{tokens_from}
use Rattle.dds_text.specs.After.{EndsBehind, StaysBad, IsClipped}
use Rattle.dds_text.specs.Reading.{IsBadText, IsDone, IsUnfinished, limit}
use Rattle.dds_text.specs.inner.Standing.{IsRead, StopsAt, EndsDds}
use Rattle.dds_text.specs.inner.Words.{left}
use Rattle.dds_text.specs.declared.front.Front.{Front}
use Rattle.dds_text.proofs.Answered.{open_read, stopped_read, done_read, long_read}
use Rattle.dds_text.proofs.Bytes.{whole_tokens-append}
use Rattle.dds_text.proofs.Stops.{holds_open}

-- the limit is not reached
pub below : (n m most : ℕ) → n ≡ m → (n ≡ most → ⊥) → m ≤ most → m < most
below n m most e not le = omega (arith, e, not, le)

-- how much of a piece is read
pub clipped_at : (bytes piece : List ℕ) (n : ℕ) → n ≡ length bytes → length bytes < limit → IsClipped bytes (take (limit - n) piece) (drop (limit - n) piece)
clipped_at bytes piece n e short = (
  omega (arith, e, short, length-append bytes (take (limit - n) piece), length-take (limit - n) piece),
  λ less. drop_all (limit - n) piece (omega (arith, e, less, length-append bytes (take (limit - n) piece), length-take (limit - n) piece)),
)

-- the bytes go on
pub goes_on : (f : Front) (bytes : List ℕ) → IsRead f bytes → length bytes < limit → IsUnfinished bytes
goes_on f bytes (((s, runs, held, part), at), n) short = (open_read bytes s runs (holds_open f.parser s held), short)

pub piece_goes_on : (f : Front) (bytes clip rest : List ℕ) → rest ≡ [] → IsRead f (bytes ++ clip) → length (bytes ++ clip) < limit → IsRead f (bytes ++ (clip ++ rest)) × (length (bytes ++ (clip ++ rest)) < limit)
piece_goes_on f bytes clip rest none is short =
    let same : clip ≡ clip ++ rest = sym (append-nil clip) ∙ ap (λ l. clip ++ l) (sym none) in
    let P : List ℕ → Type 0 = λ l. IsRead f (bytes ++ l) × (length (bytes ++ l) < limit) in
    subst P same (is, short)

-- the limit is reached
pub too_long : (f : Front) (bytes clip rest : List ℕ) → IsRead f (bytes ++ clip) → length (bytes ++ clip) ≡ limit → StaysBad (bytes ++ (clip ++ rest)) limit
too_long f bytes clip rest (((s, runs, held, part), at), n) long more =
    let same : (bytes ++ clip) ++ (rest ++ more) ≡ (bytes ++ (clip ++ rest)) ++ more =
    sym (append_assoc (bytes ++ clip) rest more) ∙ ap (λ l. l ++ more) (append_assoc bytes clip rest) in
    let P : List ℕ → Type 0 = λ bs. IsBadText bs limit in
    subst P same (long_read (bytes ++ clip) (rest ++ more) (open_read (bytes ++ clip) s runs (holds_open f.parser s held)) long)

-- a bad token stays bad
stops_more : (bytes more : List ℕ) (place : ℕ) → StopsAt bytes place → StopsAt (bytes ++ more) place
stops_more bytes more place (before, after, bad, s, split, at, runs, none, is_open) = (
  before,
  after ++ tokens_from (left bytes) (length bytes) more,
  bad,
  s,
  whole_tokens-append bytes more ∙ ap (λ l. l ++ tokens_from (left bytes) (length bytes) more) split ∙ append_assoc before (bad ∷ after) (tokens_from (left bytes) (length bytes) more),
  at,
  runs,
  none,
  is_open,
)

stopped_text : (bytes : List ℕ) (place : ℕ) → StopsAt (take limit bytes) place → IsBadText bytes place
stopped_text bytes place (before, after, bad, s, split, at, runs, none, is_open) =
    let refused = stopped_read (take limit bytes) before after bad s split runs is_open none in
    let P : ℕ → Type 0 = λ p. IsBadText bytes p in
    subst P at (inl refused)

front_of : (bytes more : List ℕ) → length bytes ≤ limit → take limit (bytes ++ more) ≡ bytes ++ take (limit - length bytes) more
front_of bytes more le =
    let room : length bytes + (limit - length bytes) ≡ limit = omega (arith, le) in
    ap (λ n. take n (bytes ++ more)) (sym room) ∙ take-append-add bytes more (limit - length bytes)

pub bad_token : (bytes clip rest : List ℕ) (place : ℕ) → length (bytes ++ clip) ≤ limit → StopsAt (bytes ++ clip) place → StaysBad (bytes ++ (clip ++ rest)) place
bad_token bytes clip rest place le stops more =
    let same : (bytes ++ clip) ++ (rest ++ more) ≡ (bytes ++ (clip ++ rest)) ++ more =
    sym (append_assoc (bytes ++ clip) rest more) ∙ ap (λ l. l ++ more) (append_assoc bytes clip rest) in
    let P : List ℕ → Type 0 = λ bs. IsBadText bs place in
    let Q : List ℕ → Type 0 = λ bs. StopsAt bs place in
    subst P same
    (stopped_text ((bytes ++ clip) ++ (rest ++ more)) place
    (subst Q (sym (front_of (bytes ++ clip) (rest ++ more) le)) (stops_more (bytes ++ clip) (take (limit - length (bytes ++ clip)) (rest ++ more)) place stops)))

-- a dataset ends
pub ends_behind : (bytes clip rest : List ℕ) (used : ℕ) (d : Dataset) → length (bytes ++ clip) ≤ limit → used ≤ length clip → EndsDds (bytes ++ take used clip) d → EndsBehind (bytes ++ take used (clip ++ rest)) d
ends_behind bytes clip rest used d le within ends more =
    let same : take used clip ≡ take used (clip ++ rest) = sym (take-append-le used clip rest within) in
    let short : length (bytes ++ take used clip) ≤ limit = omega (arith, length-append bytes clip, length-append bytes (take used clip), length-take used clip) in
    let P : List ℕ → Type 0 = λ l. IsDone ((bytes ++ l) ++ more) (length (bytes ++ l)) d in
    subst P same (done_read (bytes ++ take used clip) more d ends short)

pub done_piece : (bytes piece : List ℕ) (used : ℕ) (d : Dataset) → used ≤ length piece → EndsBehind (bytes ++ take used piece) d → IsDone (bytes ++ piece) (length bytes + used) d
done_piece bytes piece used d within ends =
    let whole : (bytes ++ take used piece) ++ drop used piece ≡ bytes ++ piece = append_assoc bytes (take used piece) (drop used piece) ∙ ap (λ l. bytes ++ l) (take-append-drop used piece) in
    let n : length (bytes ++ take used piece) ≡ length bytes + used = omega (arith, length-append bytes (take used piece), length-take used piece) in
    let P : List ℕ → Type 0 = λ bs. IsDone bs (length (bytes ++ take used piece)) d in
    let Q : ℕ → Type 0 = λ k. IsDone (bytes ++ piece) k d in
    subst Q n (subst P whole (ends (drop used piece)))

pub bad_piece : (bytes : List ℕ) (place : ℕ) → StaysBad bytes place → IsBadText bytes place
bad_piece bytes place stays = let P : List ℕ → Type 0 = λ bs. IsBadText bs place in subst P (append-nil bytes) (stays [])

pub done_bytes : (bytes : List ℕ) (d : Dataset) → EndsBehind bytes d → IsDone bytes (length bytes) d
done_bytes bytes d ends = let P : List ℕ → Type 0 = λ bs. IsDone bs (length bytes) d in subst P (append-nil bytes) (ends [])

-- a piece behind what is bad
pub stays_bad : (bytes piece : List ℕ) (place : ℕ) → StaysBad bytes place → StaysBad (bytes ++ piece) place
stays_bad bytes piece place stays more = let P : List ℕ → Type 0 = λ bs. IsBadText bs place in subst P (sym (append_assoc bytes piece more)) (stays (piece ++ more))

-- nothing of a piece is used behind the end
pub nothing_used : (bytes piece : List ℕ) (d : Dataset) → EndsBehind bytes d → EndsBehind (bytes ++ take 0 piece) d
nothing_used bytes piece d ends = let P : List ℕ → Type 0 = λ bs. EndsBehind bs d in subst P (sym (append-nil bytes)) ends

pub ruleset pushed = (goes_on, piece_goes_on, too_long, bad_token, ends_behind, done_piece, bad_piece, done_bytes, stays_bad, nothing_used)
