-- What a framing under way has put is a front of what each body becomes that begins with its own.
use Rattle.std.proofs.Common.{◌≡◌, ℕ, suc, ◌+◌, ◌/◌, ◌<◌, ◌≤◌, ◌⊎◌, Bool, true, false, List, [], ◌∷◌, ◌++◌, length, take, drop, refl, sym, ap, ◌∙◌, arith, append_assoc, append-nil, length-append, length-drop, inl, inr}
use Rattle.std.specs.Prelude.{All}
use Rattle.std.specs.List.{flat_map}
use Rattle.std.proofs.Math.Seq.{drop-append_seam}
use Rattle.std.proofs.lemmas.Bool.{cases_lt, false≢true}
use Rattle.std.proofs.lemmas.List.{take_at, take-append-drop}
use Rattle.std.proofs.lemmas.List.Elements.{All-head, All-tail}
use Rattle.std.proofs.Math.Logic.{∥∥₁_elim, ∥∥₁_map, ∥∥₁_prop}
use Rattle.dap_http.specs.Frames.{IsFront, IsProperFront, chunk, chunked, first_pieces, framed, last_chunk, piece_size, pieces}
use Rattle.dap_http.specs.Framings.{IsUnfinished}
use Rattle.dap_http.specs.inner.UnderWay.{InFrames, piece_of}
use Rattle.dap_http.proofs.Gathering.{when-open, when-whole}

one-more-piece : (p rest : List ℕ) → length p ≡ 65536 → pieces (p ++ rest) ≡ p ∷ pieces rest
unfolding piece_size
one-more-piece p rest long =
    let count : (length (p ++ rest) + 65535) / 65536 ≡ suc ((length rest + 65535) / 65536) = omega (arith, length-append p rest, long) in
    let first : take 65536 (p ++ rest) ≡ p = take_at p rest 65536 long in
    let others : drop 65536 (p ++ rest) ≡ rest = ap (λ n. drop n (p ++ rest)) (sym long) ∙ drop-append_seam p rest in
    ap (λ n. first_pieces 65536 n (p ++ rest)) count
    ∙ ap (λ t. t ∷ first_pieces 65536 ((length rest + 65535) / 65536) (drop 65536 (p ++ rest))) first
    ∙ ap (λ t. p ∷ first_pieces 65536 ((length rest + 65535) / 65536) t) others

pub chunked-piece : (p rest : List ℕ) → length p ≡ 65536 → chunked (p ++ rest) ≡ chunk p ++ chunked rest
unfolding chunked
chunked-piece p rest long = ap (λ t. flat_map chunk t ++ last_chunk) (one-more-piece p rest long) ∙ append_assoc (chunk p) (flat_map chunk (pieces rest)) last_chunk

pub chunked-pieces : (ps : List (List ℕ)) (rest : List ℕ) → All (λ p. length p ≡ 65536) ps → chunked (flat_map (λ p. p) ps ++ rest) ≡ flat_map chunk ps ++ chunked rest
chunked-pieces [] rest all = refl
chunked-pieces (p ∷ ps) rest all =
    ap chunked (append_assoc p (flat_map (λ q. q) ps) rest)
    ∙ chunked-piece p (flat_map (λ q. q) ps ++ rest) (All-head (λ (q : List ℕ). length q ≡ 65536) p ps all)
    ∙ ap (λ t. chunk p ++ t) (chunked-pieces ps rest (All-tail (λ (q : List ℕ). length q ≡ 65536) p ps all))
    ∙ sym (append_assoc (chunk p) (flat_map chunk ps) (chunked rest))

-- a last chunk stands behind all others
pub chunked-some : (body : List ℕ) → 0 < length (chunked body)
unfolding chunked
chunked-some body = omega (arith, length-append (flat_map chunk (pieces body)) last_chunk)

-- whole pieces, and what follows them
pub framed-pieces : (m : Bool) (ps : List (List ℕ)) (rest : List ℕ) → All (λ p. length p ≡ 65536) ps → framed m (flat_map (λ p. p) ps ++ rest) ≡ flat_map (piece_of m) ps ++ framed m rest
framed-pieces m [] rest all = refl
framed-pieces true (p ∷ ps) rest all =
    ap chunked (append_assoc p (flat_map (λ q. q) ps) rest)
    ∙ chunked-piece p (flat_map (λ q. q) ps ++ rest) (All-head (λ (q : List ℕ). length q ≡ 65536) p ps all)
    ∙ ap (λ t. chunk p ++ t) (framed-pieces true ps rest (All-tail (λ (q : List ℕ). length q ≡ 65536) p ps all))
    ∙ sym (append_assoc (chunk p) (flat_map (piece_of true) ps) (chunked rest))
framed-pieces false (p ∷ ps) rest all =
    append_assoc p (flat_map (λ q. q) ps) rest
    ∙ ap (λ t. p ++ t) (framed-pieces false ps rest (All-tail (λ (q : List ℕ). length q ≡ 65536) p ps all))
    ∙ sym (append_assoc p (flat_map (piece_of false) ps) rest)

pub piece-framed : (m : Bool) (held more : List ℕ) → length held ≡ 65536 → framed m (held ++ more) ≡ piece_of m held ++ framed m more
piece-framed true held more full = chunked-piece held more full
piece-framed false held more full = refl

-- a body that is sent in chunks, or that has bytes, is not empty as it is sent
pub framed-some : (m : Bool) (text : List ℕ) → IsUnfinished m text → 0 < length (framed m text)
framed-some true text goes = chunked-some text
framed-some false text (inl some) = some
framed-some false text (inr chunks) = absurd (false≢true chunks)

pub goes-behind : (m : Bool) (held more : List ℕ) → IsUnfinished m more → IsUnfinished m (held ++ more)
goes-behind m held more (inl some) = inl (omega (arith, some, length-append held more))
goes-behind m held more (inr chunks) = inr chunks

-- what goes out before the body, and the body that is gathered and more
pub all-is : (m : Bool) (front frame body gained more : List ℕ) (from sent : ℕ) (w : InFrames m front frame from sent body gained)
    → front ++ framed m (body ++ more) ≡ (w.before ++ w.lead) ++ framed m (w.held ++ more)
all-is m front frame body gained more from sent w =
    let ps = w.pieces in
    ap (λ t. front ++ framed m (t ++ more)) w.body_is
    ∙ ap (λ t. front ++ framed m t) (append_assoc (flat_map (λ (p : List ℕ). p) ps) w.held more)
    ∙ ap (λ t. front ++ t) (framed-pieces m ps (w.held ++ more) w.whole)
    ∙ sym (append_assoc front (flat_map (piece_of m) ps) (framed m (w.held ++ more)))
    ∙ ap (λ t. t ++ framed m (w.held ++ more)) (sym w.goes_on)

-- what is not put yet of it
pub record Rest (m : Bool) (front frame body gained more : List ℕ) (from sent : ℕ) : Type 0 where
  pub rest : List ℕ
  pub is : front ++ framed m (body ++ more) ≡ gained ++ rest
  pub some : IsUnfinished m more → 0 < length rest
  pub left : from + 65536 ≤ length frame → sent < length frame → 0 < length rest

rest-open : (m : Bool) (front frame body gained more : List ℕ) (from sent : ℕ) (w : InFrames m front frame from sent body gained) → length frame < from + 65536 → sent ≡ 0 → Rest m front frame body gained more from sent
rest-open m front frame body gained more from sent w short none =
    let put : gained ≡ w.before = w.gained_is ∙ ap (λ n. w.before ++ take n frame) none ∙ append-nil w.before in
    let x = framed m (w.held ++ more) in
    record {
      rest = w.lead ++ x;
      is = all-is m front frame body gained more from sent w ∙ append_assoc w.before w.lead x ∙ ap (λ t. t ++ (w.lead ++ x)) (sym put);
      some = λ goes. omega (arith, length-append w.lead x, framed-some m (w.held ++ more) (goes-behind m w.held more goes));
      left = λ long less. absurd (omega (arith, long, short));
    }

rest-whole : (m : Bool) (front frame body gained more : List ℕ) (from sent : ℕ) (w : InFrames m front frame from sent body gained) → length w.held ≡ 65536 → frame ≡ w.lead ++ piece_of m w.held
    → Rest m front frame body gained more from sent
rest-whole m front frame body gained more from sent w full is =
    let p = piece_of m w.held in
    let y = framed m more in
    let split : (w.before ++ w.lead) ++ (p ++ y) ≡ w.before ++ (frame ++ y) =
    append_assoc w.before w.lead (p ++ y) ∙ ap (λ t. w.before ++ t) (sym (append_assoc w.lead p y)) ∙ ap (λ t. w.before ++ (t ++ y)) (sym is) in
    let cut : w.before ++ (frame ++ y) ≡ (w.before ++ take sent frame) ++ (drop sent frame ++ y) =
    ap (λ t. w.before ++ (t ++ y)) (sym (take-append-drop sent frame)) ∙ ap (λ t. w.before ++ t) (append_assoc (take sent frame) (drop sent frame) y)
    ∙ sym (append_assoc w.before (take sent frame) (drop sent frame ++ y)) in
    record {
      rest = drop sent frame ++ y;
      is = all-is m front frame body gained more from sent w ∙ ap (λ t. (w.before ++ w.lead) ++ t) (piece-framed m w.held more full) ∙ split ∙ cut
          ∙ ap (λ t. t ++ (drop sent frame ++ y)) (sym w.gained_is);
      some = λ goes. omega (arith, length-append (drop sent frame) y, framed-some m more goes);
      left = λ long less. omega (arith, length-append (drop sent frame) y, length-drop sent frame, less);
    }

pub rest-of : (m : Bool) (front frame body gained more : List ℕ) (from sent : ℕ) → InFrames m front frame from sent body gained → Rest m front frame body gained more from sent
rest-of m front frame body gained more from sent w = go (cases_lt (length frame) (from + 65536)) where
  go : (length frame < from + 65536) ⊎ (from + 65536 ≤ length frame) → Rest m front frame body gained more from sent
  go (inl short) =
      let (few, is, none) = when-open m w.lead frame w.held from sent w.from_is w.gathered short in
      rest-open m front frame body gained more from sent w short none
  go (inr long) =
      let (full, is, le) = when-whole m w.lead frame w.held from sent w.from_is w.gathered long in
      rest-whole m front frame body gained more from sent w full is

pub is-front : (part all : List ℕ) → IsProperFront part all → IsFront part all
is-front part all (rest, some, e) = (rest, e)

-- two facts that are there
pub both : {A B : Type 0} → ∥ A ∥₁ → ∥ B ∥₁ → ∥ A × B ∥₁
both {A} {B} a b = ∥∥₁_elim a ∥∥₁_prop (λ x. ∥∥₁_map b (λ y. (x, y)))
