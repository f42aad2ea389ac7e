-- Quoted texts: how a reader finds their pieces, and that a text has one list of them.
use Rattle.std.proofs.Math.Seq.{take-append_seam}
use Rattle.std.proofs.Common.{◌≡◌, List, [], ◌∷◌, ◌++◌, ℕ, ◌+◌, ◌-◌, ◌<◌, ◌≤◌, ◌≢◌, length, take, drop, get_or, refl, sym, ap, subst, ◌∙◌, append_assoc, append-nil, Bool, true, false, ◌||◌, not, ◌==◌, IsTrue, arith, ◌⊎◌, inl, inr, length-append}
use Rattle.std.specs.List.{list_all}
use Rattle.std.proofs.lemmas.Bool.{eqb-true, eqb-false, ne_eqb}
use Rattle.std.proofs.lemmas.List.{drop_all}
use Rattle.std.proofs.lemmas.List.Folds.{list_all-append}
use Rattle.std.proofs.lemmas.Grind.{flat_map-append}
use Rattle.plain_lemmas.proofs.Lists.{drop_next}
use Rattle.viable.specs.Quoted.{Piece, plain, escaped, piece_bytes, is_piece, piece_value, spelling, quoted_value, unescaped_from, unescape, ArePieces, IsOpen}
use Rattle.viable.proofs.Tests.{and_parts}

pub no_pieces : (text : List ℕ) (from : ℕ) → ArePieces text from from []
no_pieces text from = record { whole = refl; to_is = omega arith; each = refl }

more_pieces : (text : List ℕ) (from to next : ℕ) (pieces : List Piece) (p : Piece) → ArePieces text from to pieces → IsTrue (is_piece p) → drop to text ≡ piece_bytes p ++ drop next text → next ≡ to + length (piece_bytes p)
    → ArePieces text from next (pieces ++ p ∷ [])
more_pieces text from to next pieces p a ok e n = record {
  whole = a.whole ∙ ap (λ (x : List ℕ). spelling pieces ++ x) e ∙ sym (append_assoc (spelling pieces) (piece_bytes p) (drop next text)) ∙ ap (λ (x : List ℕ). x ++ drop next text) (sym is);
  to_is = let t : to ≡ from + length (spelling pieces) = a.to_is in let l : length (spelling (pieces ++ p ∷ [])) ≡ length (spelling pieces ++ piece_bytes p) = ap length is in omega (arith, t, n, l, length-append (spelling pieces) (piece_bytes p));
  each = rw (list_all-append is_piece pieces (p ∷ []), a.each, ok) refl;
}
  where
    is : spelling (pieces ++ p ∷ []) ≡ spelling pieces ++ piece_bytes p
    is = flat_map-append piece_bytes pieces (p ∷ []) ∙ ap (λ (x : List ℕ). spelling pieces ++ x) (append-nil (piece_bytes p))

pub one_plain : (text : List ℕ) (from to : ℕ) → (pieces : List Piece) × ArePieces text from to pieces → to < length text → get_or text to 0 ≢ 34 → get_or text to 0 ≢ 92
    → (pieces : List Piece) × ArePieces text from (to + 1) pieces
one_plain text from to (pieces, a) h quote backslash =
    let p : Piece = plain (get_or text to 0) in
    (pieces ++ p ∷ [], more_pieces text from to (to + 1) pieces p a (rw (ne_eqb _ 34 quote, ne_eqb _ 92 backslash) refl) (drop_next text to h) refl)

pub one_pair : (text : List ℕ) (from to : ℕ) → (pieces : List Piece) × ArePieces text from to pieces → to < length text → get_or text to 0 ≡ 92 → to + 1 < length text
    → (pieces : List Piece) × ArePieces text from (to + 2) pieces
one_pair text from to (pieces, a) h backslash h' =
    let p : Piece = escaped (get_or text (to + 1) 0) in
    let two : to + 1 + 1 ≡ to + 2 = omega arith in (
      pieces ++ p ∷ [],
      more_pieces text from to (to + 2) pieces p a refl
          (drop_next text to h ∙ ap (λ (x : ℕ). x ∷ drop (to + 1) text) backslash
          ∙ ap (λ (x : List ℕ). 92 ∷ x) (drop_next text (to + 1) h' ∙ ap (λ (k : ℕ). get_or text (to + 1) 0 ∷ drop k text) two)) refl,
    )

pub lone_backslash : (text : List ℕ) (at : ℕ) → at < length text → get_or text at 0 ≡ 92 → length text ≤ at + 1 → drop at text ≡ 92 ∷ []
lone_backslash text at h b e = drop_next text at h ∙ ap (λ (x : ℕ). x ∷ drop (at + 1) text) b ∙ ap (λ (x : List ℕ). 92 ∷ x) (drop_all (at + 1) text (omega arith))

plain_apart : (c b : ℕ) (xs ys : List ℕ) → IsTrue (is_piece (plain b)) → c ∷ xs ≡ b ∷ ys → (c ≡ 34) ⊎ (c ≡ 92) → ⊥
plain_apart c b xs ys ok e (inl h) = let z : not (34 == 34 || 34 == 92) ≡ true = subst (λ (x : ℕ). IsTrue (is_piece (plain x))) (let q : b ≡ c = cc in q ∙ h) ok in cc
plain_apart c b xs ys ok e (inr h) = let z : not (92 == 34 || 92 == 92) ≡ true = subst (λ (x : ℕ). IsTrue (is_piece (plain x))) (let q : b ≡ c = cc in q ∙ h) ok in cc

quote_apart : (xs ys : List ℕ) → 34 ∷ xs ≡ 92 ∷ ys → ⊥
quote_apart xs ys e = eqb-false 34 92 refl (let q : 34 ≡ 92 = cc in q)

-- a quoted text ends at its first quote
pub pieces_unique : (p q : List Piece) (x y : List ℕ) → spelling p ++ 34 ∷ x ≡ spelling q ++ 34 ∷ y → IsTrue (list_all is_piece p) → IsTrue (list_all is_piece q) → (p ≡ q) × (y ≡ x)
pieces_unique [] [] x y e vp vq = (refl, (let h : y ≡ x = cc in h))
pieces_unique [] (plain b ∷ q) x y e vp vq = absurd (plain_apart 34 b x _ (and_parts _ _ vq).0 e (inl refl))
pieces_unique [] (escaped b ∷ q) x y e vp vq = absurd (quote_apart x _ e)
pieces_unique (plain b ∷ p) [] x y e vp vq = absurd (plain_apart 34 b y _ (and_parts _ _ vp).0 (sym e) (inl refl))
pieces_unique (escaped b ∷ p) [] x y e vp vq = absurd (quote_apart y _ (sym e))
pieces_unique (plain b ∷ p) (plain c ∷ q) x y e vp vq =
    let same : b ≡ c = cc in let tail : spelling p ++ 34 ∷ x ≡ spelling q ++ 34 ∷ y = cc in
    let (ps, r) = pieces_unique p q x y tail (and_parts _ _ vp).1 (and_parts _ _ vq).1 in
    ((let g : plain b ∷ p ≡ plain c ∷ q = cc in g), r)
pieces_unique (escaped b ∷ p) (escaped c ∷ q) x y e vp vq =
    let same : b ≡ c = cc in let tail : spelling p ++ 34 ∷ x ≡ spelling q ++ 34 ∷ y = cc in
    let (ps, r) = pieces_unique p q x y tail vp vq in
    ((let g : escaped b ∷ p ≡ escaped c ∷ q = cc in g), r)
pieces_unique (plain b ∷ p) (escaped c ∷ q) x y e vp vq = absurd (plain_apart 92 b _ _ (and_parts _ _ vp).0 (sym e) (inr refl))
pieces_unique (escaped b ∷ p) (plain c ∷ q) x y e vp vq = absurd (plain_apart 92 c _ _ (and_parts _ _ vq).0 e (inr refl))

-- where no quote came, no quoted text ends
pub pieces_open : (p q : List Piece) (left y : List ℕ) → spelling p ++ left ≡ spelling q ++ 34 ∷ y → IsTrue (list_all is_piece p) → IsTrue (list_all is_piece q) → IsOpen left → ⊥
pieces_open [] [] left y e vp vq (inl h) = let c : [] ≡ 34 ∷ y = sym h ∙ e in cc
pieces_open [] [] left y e vp vq (inr h) = quote_apart y [] (sym e ∙ h)
pieces_open [] (plain b ∷ q) left y e vp vq (inl h) = let c : [] ≡ b ∷ (spelling q ++ 34 ∷ y) = sym h ∙ e in cc
pieces_open [] (plain b ∷ q) left y e vp vq (inr h) = plain_apart 92 b [] _ (and_parts _ _ vq).0 (sym h ∙ e) (inr refl)
pieces_open [] (escaped b ∷ q) left y e vp vq (inl h) = let c : [] ≡ 92 ∷ b ∷ (spelling q ++ 34 ∷ y) = sym h ∙ e in cc
pieces_open [] (escaped b ∷ q) left y e vp vq (inr h) = let c : 92 ∷ [] ≡ 92 ∷ b ∷ (spelling q ++ 34 ∷ y) = sym h ∙ e in cc
pieces_open (plain b ∷ p) [] left y e vp vq l = plain_apart 34 b y _ (and_parts _ _ vp).0 (sym e) (inl refl)
pieces_open (escaped b ∷ p) [] left y e vp vq l = quote_apart y _ (sym e)
pieces_open (plain b ∷ p) (plain c ∷ q) left y e vp vq l = pieces_open p q left y (let t : spelling p ++ left ≡ spelling q ++ 34 ∷ y = cc in t) (and_parts _ _ vp).1 (and_parts _ _ vq).1 l
pieces_open (escaped b ∷ p) (escaped c ∷ q) left y e vp vq l = pieces_open p q left y (let t : spelling p ++ left ≡ spelling q ++ 34 ∷ y = cc in t) vp vq l
pieces_open (plain b ∷ p) (escaped c ∷ q) left y e vp vq l = plain_apart 92 b _ _ (and_parts _ _ vp).0 (sym e) (inr refl)
pieces_open (escaped b ∷ p) (plain c ∷ q) left y e vp vq l = plain_apart 92 c _ _ (and_parts _ _ vq).0 e (inr refl)

-- the bytes of pieces stand for the text of the pieces
pub unescape_pieces : (p : List Piece) → IsTrue (list_all is_piece p) → unescape (spelling p) ≡ quoted_value p
unescape_pieces [] ok = refl
unescape_pieces (plain b ∷ p) ok = plain_one (b == 92) refl (unescape_pieces p (and_parts _ _ ok).1)
  where
    is : IsTrue (is_piece (plain b))
    is = (and_parts _ _ ok).0

    plain_one : (t : Bool) → (b == 92) ≡ t → unescape (spelling p) ≡ quoted_value p → unescape (spelling (plain b ∷ p)) ≡ quoted_value (plain b ∷ p)
    plain_one true e more = absurd (plain_apart 92 b [] [] is (ap (λ (x : ℕ). x ∷ []) (sym (eqb-true b 92 e))) (inr refl))
    plain_one false e more = rw e (ap (λ (x : List ℕ). b ∷ x) more)
unescape_pieces (escaped b ∷ p) ok = ap (λ (x : List ℕ). piece_value (escaped b) ++ x) (unescape_pieces p ok)

-- no byte is left
pub unescaped_end : (bytes value : List ℕ) (i : ℕ) (goal : List ℕ) → value ++ unescaped_from false (drop i bytes) ≡ goal → length bytes ≤ i → value ≡ goal
unescaped_end bytes value i goal e h =
    let d : drop i bytes ≡ [] = drop_all i bytes h in
    sym (append-nil value) ∙ (rw d at e)

pub unescaped_pending : (bytes value : List ℕ) (i : ℕ) (goal : List ℕ) → value ++ unescaped_from true (drop i bytes) ≡ goal → length bytes ≤ i → value ++ 92 ∷ [] ≡ goal
unescaped_pending bytes value i goal e h =
    let d : drop i bytes ≡ [] = drop_all i bytes h in
    (rw d at e)

pub unescaped_more : (bytes value value' : List ℕ) (pending next : Bool) (i : ℕ) (goal : List ℕ) → value ++ unescaped_from pending (drop i bytes) ≡ goal → i < length bytes
    → ((rest : List ℕ) → value' ++ unescaped_from next rest ≡ value ++ unescaped_from pending (get_or bytes i 0 ∷ rest))
    → value' ++ unescaped_from next (drop (i + 1) bytes) ≡ goal
unescaped_more bytes value value' pending next i goal e h s =
    s (drop (i + 1) bytes) ∙ ap (λ (x : List ℕ). value ++ unescaped_from pending x) (sym (drop_next bytes i h)) ∙ e

-- the bytes of pieces are a slice of the text
pub pieces_slice : (text : List ℕ) (from to : ℕ) (pieces : List Piece) → ArePieces text from to pieces → take (to - from) (drop from text) ≡ spelling pieces
pieces_slice text from to pieces a =
    let n : to - from ≡ length (spelling pieces) = (let p : to ≡ from + length (spelling pieces) = a.to_is in omega arith) in
    rw (n, a.whole) (take-append_seam (spelling pieces) (drop to text))
