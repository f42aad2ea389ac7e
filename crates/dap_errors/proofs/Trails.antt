-- What stands behind an object is its end or has one first stray byte.
use Rattle.std.proofs.Common.{◌≡◌, List, ◌∷◌, ◌++◌, ℕ, length, refl, sym, ap, subst, ◌∙◌, append_assoc, not, IsTrue, inl, inr}
use Rattle.std.specs.List.{list_all}
use Rattle.plain_lemmas.proofs.Lists.{has_item}
use Rattle.viable.proofs.Runs.{run_unique}
use Rattle.text_tokens.specs.Tokens.{is_white}
use Rattle.dap_errors.specs.Reading.{IsEnd, IsStray}
use Rattle.text_tokens.proofs.Unique.{false_true}

-- white space up to a byte that is none
head_same : (a b : List ℕ) (c d : ℕ) (x y : List ℕ) → IsTrue (list_all is_white a) → IsTrue (list_all is_white b) → IsTrue (not (is_white c)) → IsTrue (not (is_white d)) → a ++ c ∷ x ≡ b ++ d ∷ y → (a ≡ b) × (c ≡ d) × (x ≡ y)
head_same a b c d x y wa wb nc nd e =
    let (same, rest) = run_unique is_white a b (c ∷ x) (d ∷ y) e wa wb nc nd in
    (same, (let g : c ≡ d = cc in g), (let g : x ≡ y = cc in g))

all_white_no : (xs a : List ℕ) (c : ℕ) (x : List ℕ) → IsTrue (list_all is_white xs) → xs ≡ a ++ c ∷ x → IsTrue (not (is_white c)) → ⊥
all_white_no xs a c x all e n = false_true (is_white c) (has_item is_white a c x (subst (λ (z : List ℕ). IsTrue (list_all is_white z)) e all)) n

-- behind one semicolon
seam : (before after : List ℕ) (b : ℕ) (rest : List ℕ) → (before ++ 59 ∷ after) ++ b ∷ rest ≡ before ++ 59 ∷ (after ++ b ∷ rest)
seam before after b rest = append_assoc before (59 ∷ after) (b ∷ rest)

pub end_not_stray : (xs : List ℕ) (n : ℕ) → IsEnd xs → IsStray xs n → ⊥
end_not_stray xs n (inl all) (trail, rest, b, is, count, stray, how) = all_white_no xs trail b rest all is stray
end_not_stray xs n (inr (before, after, wb, wa, is')) (trail, rest, b, is, count, stray, inl (white, other)) =
    other (head_same trail before b 59 rest after white wb stray refl (sym is ∙ is')).1
end_not_stray xs n (inr (before, after, wb, wa, is')) (trail, rest, b, is, count, stray, inr (before', after', wb', wa', t)) =
    let e : before' ++ 59 ∷ (after' ++ b ∷ rest) ≡ before ++ 59 ∷ after = sym (seam before' after' b rest) ∙ ap (λ (z : List ℕ). z ++ b ∷ rest) (sym t) ∙ sym is ∙ is' in
    all_white_no after after' b rest wa (sym (head_same before' before 59 59 (after' ++ b ∷ rest) after wb' wb refl refl e).2) stray

pub stray_same : (xs : List ℕ) (n m : ℕ) → IsStray xs n → IsStray xs m → n ≡ m
stray_same xs n m (trail, rest, b, is, count, stray, inl (white, other)) (trail', rest', b', is', count', stray', inl (white', other')) =
    count ∙ ap length (head_same trail trail' b b' rest rest' white white' stray stray' (sym is ∙ is')).0 ∙ sym count'
stray_same xs n m (trail, rest, b, is, count, stray, inl (white, other)) (trail', rest', b', is', count', stray', inr (before, after, wb, wa, t)) =
    let e : trail ++ b ∷ rest ≡ before ++ 59 ∷ (after ++ b' ∷ rest') = sym is ∙ is' ∙ ap (λ (z : List ℕ). z ++ b' ∷ rest') t ∙ seam before after b' rest' in
    absurd (other (head_same trail before b 59 rest (after ++ b' ∷ rest') white wb stray refl e).1)
stray_same xs n m (trail, rest, b, is, count, stray, inr (before, after, wb, wa, t)) (trail', rest', b', is', count', stray', inl (white, other)) =
    let e : trail' ++ b' ∷ rest' ≡ before ++ 59 ∷ (after ++ b ∷ rest) = sym is' ∙ is ∙ ap (λ (z : List ℕ). z ++ b ∷ rest) t ∙ seam before after b rest in
    absurd (other (head_same trail' before b' 59 rest' (after ++ b ∷ rest) white wb stray' refl e).1)
stray_same xs n m (trail, rest, b, is, count, stray, inr (before, after, wb, wa, t)) (trail', rest', b', is', count', stray', inr (before', after', wb', wa', t')) =
    let e : before ++ 59 ∷ (after ++ b ∷ rest) ≡ before' ++ 59 ∷ (after' ++ b' ∷ rest') =
    sym (seam before after b rest) ∙ ap (λ (z : List ℕ). z ++ b ∷ rest) (sym t) ∙ sym is ∙ is' ∙ ap (λ (z : List ℕ). z ++ b' ∷ rest') t' ∙ seam before' after' b' rest' in
    let (first, semicolon, behind) = head_same before before' 59 59 (after ++ b ∷ rest) (after' ++ b' ∷ rest') wb wb' refl refl e in
    let (second, byte, more) = head_same after after' b b' rest rest' wa wa' stray stray' behind in
    count ∙ ap length (t ∙ ap (λ (z : List ℕ). z ++ 59 ∷ after) first ∙ ap (λ (z : List ℕ). before' ++ 59 ∷ z) second ∙ sym t') ∙ sym count'
