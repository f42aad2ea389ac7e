-- Texts that are a word in any case.
use Rattle.std.proofs.Common.{◌≡◌, ℕ, Bool, true, false, List, [], ◌∷◌, map, IsTrue, ◌↔◌, ◌⊎◌, inl, inr, refl, sym, ap, ◌∙◌, arith}
use Rattle.std.specs.Prelude.{◌==◌}
use Rattle.std.specs.Char.{to_ascii_lowercase}
use Rattle.std.specs.Float.Parse.{lowercases_to}
use Rattle.std.proofs.lemmas.Bool.Decides.{nat_tests}
use Rattle.plain_lemmas.proofs.Truths.{both_true, true_or_false}

pub letters-same : (text word : List ℕ) → lowercases_to text word ≡ true → map to_ascii_lowercase text ≡ word
letters-same [] [] is = refl
letters-same [] (w ∷ ws) is = cc is
letters-same (c ∷ cs) [] is = cc is
letters-same (c ∷ cs) (w ∷ ws) is =
    let (here, rest) = both_true (to_ascii_lowercase c == w) (lowercases_to cs ws) is in
    let same : to_ascii_lowercase c ≡ w = grind (arith, nat_tests, here) in
    ap (λ x. x ∷ map to_ascii_lowercase cs) same ∙ ap (λ xs. w ∷ xs) (letters-same cs ws rest)

self-equal : (n : ℕ) → (n == n) ≡ true
self-equal n = grind (arith, nat_tests)

own-letters : (text : List ℕ) → lowercases_to text (map to_ascii_lowercase text) ≡ true
own-letters [] = refl
own-letters (c ∷ cs) = rw (self-equal (to_ascii_lowercase c)) (own-letters cs)

pub spelled : (r : Bool) (text word : List ℕ) → map to_ascii_lowercase word ≡ word → IsTrue r ↔ (map to_ascii_lowercase text ≡ map to_ascii_lowercase word) → r ≡ lowercases_to text word
spelled r text word lower test = by-case r (true_or_false (lowercases_to text word)) test
  where
    same : map to_ascii_lowercase text ≡ map to_ascii_lowercase word → lowercases_to text word ≡ true
    same is = ap (lowercases_to text) (sym (is ∙ lower)) ∙ own-letters text

    by-case : (r : Bool) → (lowercases_to text word ≡ true) ⊎ (lowercases_to text word ≡ false) → IsTrue r ↔ (map to_ascii_lowercase text ≡ map to_ascii_lowercase word) → r ≡ lowercases_to text word
    by-case true found (from, to) = sym (same (from refl))
    by-case false (inl is) (from, to) = let no : false ≡ true = to (letters-same text word is ∙ sym lower) in cc no
    by-case false (inr is) (from, to) = sym is
