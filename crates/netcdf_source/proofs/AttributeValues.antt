-- The values of an attribute: whole pieces one after the other, and a text without the zero bytes at
-- its end.
use Rattle.std.proofs.Common.{◌≡◌, ◌≢◌, ℕ, suc, ◌+◌, ◌-◌, ◌/◌, ◌<◌, ◌≤◌, List, [], ◌∷◌, ◌++◌, ◌==◌, length, map, take, drop, refl, sym, ap, ◌∙◌, arith, add-one, append_assoc, append-nil, get_or, lit<}
use Rattle.std.proofs.Math.Bool.{and-false}
use Rattle.std.proofs.Math.Nat.{add-div_left, div-eq_of_lt}
use Rattle.std.proofs.Math.Seq.{take-append_seam, drop-append_seam}
use Rattle.std.proofs.lemmas.Bool.{ne_eqb}
use Rattle.std.proofs.lemmas.List.{length-append, take_more}
use Rattle.plain_lemmas.proofs.Lists.{last_length}
use Rattle.das_text.specs.declared.entries.Word.{Word}
use Rattle.netcdf_source.specs.Attributes.{pieces, word_of}
use Rattle.netcdf_source.specs.Types.{size_of}
use Rattle.netcdf_source.specs.Values.{without_zeros}
use Rattle.netcdf_source.specs.declared.external_type.ExternalType.{ExternalType}
use Rattle.netcdf_source.specs.declared.external_type.ExternalType.TheVariants.{Byte, Char, Short, Int, Float, Double, UByte, UShort, UInt, Int64, UInt64}

-- a piece, and what is behind it
pub pieces-here : (n : ℕ) (front rest : List ℕ) → 0 < n → length front ≡ n → pieces n (front ++ rest) ≡ front ∷ pieces n rest
unfolding pieces
pieces-here n front rest some is =
    let count : length (front ++ rest) / n ≡ suc (length rest / n) =
    ap (λ k. k / n) (length-append front rest ∙ ap (λ k. k + length rest) is) ∙ add-div_left (length rest) some ∙ add-one (length rest / n) in
    let here : take n (front ++ rest) ≡ front = ap (λ k. take k (front ++ rest)) (sym is) ∙ take-append_seam front rest in
    let behind : drop n (front ++ rest) ≡ rest = ap (λ k. drop k (front ++ rest)) (sym is) ∙ drop-append_seam front rest in
    rw (count, here, behind)

-- fewer bytes than a piece has
pub pieces-end : (n : ℕ) (rest : List ℕ) → length rest < n → pieces n rest ≡ []
unfolding pieces
pieces-end n rest few =
    rw (div-eq_of_lt few)

-- the bytes before an end, with the last of them apart
last-of : (bytes : List ℕ) (end : ℕ) → 0 < end → end ≤ length bytes → take end bytes ≡ take (end - 1) bytes ++ get_or bytes (end - 1) 0 ∷ []
last-of bytes end some within =
    let e : end ≡ end - 1 + 1 = omega arith in
    ap (λ k. take k bytes) e ∙ take_more bytes (end - 1) 0 (omega arith)

-- a zero byte at the end goes
end-zero : (front : List ℕ) → without_zeros (front ++ 0 ∷ []) ≡ without_zeros front
end-zero [] = refl
end-zero (b ∷ bs) = rw (end-zero bs) refl

-- any other byte at the end stays, and all before it
end-other : (front : List ℕ) (b : ℕ) → b ≢ 0 → without_zeros (front ++ b ∷ []) ≡ front ++ b ∷ []
end-other [] b other = rw (ne_eqb b 0 other) refl
end-other (c ∷ bs) b other = rw (end-other bs b other, last_length bs b, and-false (c == 0)) refl

size-some : (t : ExternalType) → 0 < size_of t
size-some Byte = lit< tt
size-some Char = lit< tt
size-some Short = lit< tt
size-some Int = lit< tt
size-some Float = lit< tt
size-some Double = lit< tt
size-some UByte = lit< tt
size-some UShort = lit< tt
size-some UInt = lit< tt
size-some Int64 = lit< tt
size-some UInt64 = lit< tt

-- one word more
pub words-here : (t : ExternalType) (words new whole : List Word) (w : Word) (from front rest : List ℕ)
    → w ≡ word_of t front → new ≡ words ++ w ∷ [] → from ≡ front ++ rest → length front ≡ size_of t
    → words ++ map (word_of t) (pieces (size_of t) from) ≡ whole → new ++ map (word_of t) (pieces (size_of t) rest) ≡ whole
words-here t words new whole w from front rest word more cut is so_far =
    ap (λ ws. ws ++ map (word_of t) (pieces (size_of t) rest)) more
    ∙ append_assoc words (w ∷ []) (map (word_of t) (pieces (size_of t) rest))
    ∙ ap (λ v. words ++ v ∷ map (word_of t) (pieces (size_of t) rest)) word
    ∙ sym (ap (λ bytes. words ++ map (word_of t) (pieces (size_of t) bytes)) cut ∙ ap (λ ps. words ++ map (word_of t) ps) (pieces-here (size_of t) front rest (size-some t) is))
    ∙ so_far

-- no word is left
pub words-end : (t : ExternalType) (words whole : List Word) (rest : List ℕ) → length rest < size_of t
    → words ++ map (word_of t) (pieces (size_of t) rest) ≡ whole → words ≡ whole
words-end t words whole rest few so_far =
    sym (append-nil words) ∙ sym (ap (λ ps. words ++ map (word_of t) ps) (pieces-end (size_of t) rest few)) ∙ so_far

-- the byte before the end is zero, or stays
pub zero-before : (bytes : List ℕ) (end : ℕ) → 0 < end → end ≤ length bytes → get_or bytes (end - 1) 0 ≡ 0 → without_zeros (take (end - 1) bytes) ≡ without_zeros (take end bytes)
zero-before bytes end some within is =
    sym (ap without_zeros (last-of bytes end some within ∙ ap (λ b. take (end - 1) bytes ++ b ∷ []) is) ∙ end-zero (take (end - 1) bytes))

pub other-before : (bytes : List ℕ) (end : ℕ) → 0 < end → end ≤ length bytes → get_or bytes (end - 1) 0 ≢ 0 → without_zeros (take end bytes) ≡ take end bytes
other-before bytes end some within other =
    ap without_zeros (last-of bytes end some within) ∙ end-other (take (end - 1) bytes) (get_or bytes (end - 1) 0) other ∙ sym (last-of bytes end some within)

pub none-before : (bytes : List ℕ) (end : ℕ) → end ≤ 0 → without_zeros (take end bytes) ≡ take end bytes
none-before bytes end none = let e : end ≡ 0 = omega arith in rw e refl
