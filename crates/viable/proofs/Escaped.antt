-- A text as the pieces of its escaped spelling.
use Rattle.std.proofs.Common.{◌≡◌, ℕ, Bool, true, false, ◌||◌, ◌==◌, List, [], ◌∷◌, ◌++◌, map, IsTrue, refl, ap, ◌∙◌}
use Rattle.std.specs.List.{list_all}
use Rattle.viable.specs.Quoted.{Piece, escape, escaped_piece, is_piece, piece_bytes, piece_value, quoted_value, spelling}

unfoldable pub pieces_of : List ℕ → List Piece
pieces_of text = map escaped_piece text

pub escape_is : (text : List ℕ) → escape text ≡ spelling (pieces_of text)
unfolding pieces_of escape
escape_is [] = refl
escape_is (b ∷ text) = ap (λ (z : List ℕ). piece_bytes (escaped_piece b) ++ z) (escape_is text)

one_piece : (b : ℕ) → IsTrue (is_piece (escaped_piece b)) × (piece_value (escaped_piece b) ≡ b ∷ [])
one_piece b = on (b == 34 || b == 92) refl
  where
    on : (c : Bool) → (b == 34 || b == 92) ≡ c → IsTrue (is_piece (escaped_piece b)) × (piece_value (escaped_piece b) ≡ b ∷ [])
    on true e = (rw e refl, rw e (rw e refl))
    on false e = (rw e (rw e refl), rw e refl)

pub pieces_fit : (text : List ℕ) → IsTrue (list_all is_piece (pieces_of text))
unfolding pieces_of
pieces_fit [] = refl
pieces_fit (b ∷ text) = rw ((one_piece b).0, pieces_fit text) refl

pub pieces_value : (text : List ℕ) → quoted_value (pieces_of text) ≡ text
unfolding pieces_of
pieces_value [] = refl
pieces_value (b ∷ text) = ap (λ (z : List ℕ). z ++ quoted_value (pieces_of text)) (one_piece b).1 ∙ ap (λ (z : List ℕ). b ∷ z) (pieces_value text)
