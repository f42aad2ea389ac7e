-- The bytes of a token are a slice of the text.
use Rattle.std.proofs.Common.{◌≡◌, List, [], ◌∷◌, ◌++◌, ℕ, ◌+◌, ◌-◌, length, take, drop, sym, ap, ◌∙◌, append_assoc, arith, length-append, Result, Ok, Err}
use Rattle.std.specs.Prelude.{IfOk}
use Rattle.std.proofs.lemmas.List.{drop-drop}
use Rattle.std.proofs.Math.Seq.{take-append_seam}
use Rattle.viable.specs.Quoted.{Piece, spelling, quoted_value, unescape}
use Rattle.viable.proofs.Pieces.{unescape_pieces}
use Rattle.text_tokens.specs.Tokens.{word, quoted, TokenAt}

pub word_slice : (signs text : List ℕ) (place behind : ℕ) (bytes : List ℕ) → TokenAt signs text place behind (word bytes) → take (behind - place) (drop place text) ≡ bytes
word_slice signs text place behind bytes t =
    let n : behind - place ≡ length bytes = (let p : behind ≡ place + length bytes = t.behind_is in omega arith) in
    let e : drop place text ≡ bytes ++ drop behind text = t.bytes_are in
    rw (n, e) (take-append_seam bytes (drop behind text))

-- those between the quotes
quoted_slice : (signs text : List ℕ) (place behind : ℕ) (pieces : List Piece) → TokenAt signs text place behind (quoted pieces) → take (behind - 1 - (place + 1)) (drop (place + 1) text) ≡ spelling pieces
quoted_slice signs text place behind pieces t =
    let p : behind ≡ place + length (34 ∷ (spelling pieces ++ 34 ∷ [])) = t.behind_is in
    let n : behind - 1 - (place + 1) ≡ length (spelling pieces) = omega (arith, p, length-append (spelling pieces) (34 ∷ [])) in
    let e : drop (place + 1) text ≡ spelling pieces ++ (34 ∷ drop behind text) =
    sym (drop-drop 1 place text) ∙ ap (drop 1) t.bytes_are ∙ append_assoc (spelling pieces) (34 ∷ []) (drop behind text) in
    rw (n, e) (take-append_seam (spelling pieces) (34 ∷ drop behind text))

-- what they stand for
pub quoted_is : (signs text : List ℕ) (place behind : ℕ) (pieces : List Piece) → TokenAt signs text place behind (quoted pieces) → unescape (take (behind - 1 - (place + 1)) (drop (place + 1) text)) ≡ quoted_value pieces
quoted_is signs text place behind pieces t = ap unescape (quoted_slice signs text place behind pieces t) ∙ unescape_pieces pieces t.is_one

pub quoted_ok : {A E : Type 0} (items : A → List ℕ) (text : List ℕ) (place behind : ℕ) (r : Result A E) → IfOk r (λ v. items v ≡ unescape (take (behind - 1 - (place + 1)) (drop (place + 1) text)))
    → IfOk r (λ v. (signs : List ℕ) (pieces : List Piece) → TokenAt signs text place behind (quoted pieces) → items v ≡ quoted_value pieces)
quoted_ok items text place behind (Ok v) is = λ signs pieces t. is ∙ quoted_is signs text place behind pieces t
quoted_ok items text place behind (Err e) is = tt
