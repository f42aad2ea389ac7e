-- The links that came back, beside the places that they went to.
use Rattle.std.proofs.Common.{◌≡◌, ℕ, List, [], ◌∷◌, ◌++◌, length, map, refl, ap, arith}
use Rattle.dap_outside.specs.MemDials.{place_of, told_back}
use Rattle.dap_outside.specs.declared.memory_dial.Called.{Called}
use Rattle.dap_outside.specs.declared.memory_link.MemLink.{MemLink}

-- one more link that came back, and where it went to
pub told-more : (cs : List Called) (ls : List MemLink) (c : Called) (l : MemLink) → length cs ≡ length ls → told_back (cs ++ c ∷ []) (ls ++ l ∷ []) ≡ told_back cs ls ++ (place_of c, l) ∷ []
told-more [] [] c l e = refl
told-more [] (k ∷ ls) c l e = absurd (omega (arith, e))
told-more (d ∷ cs) [] c l e = absurd (omega (arith, e))
told-more (d ∷ cs) (k ∷ ls) c l e = ap (λ t. (place_of d, k) ∷ t) (told-more cs ls c l (omega (arith, e)))

-- the links alone
pub told-links : (cs : List Called) (ls : List MemLink) → length cs ≡ length ls → map (λ (pair : (List ℕ × ℕ) × MemLink). pair.1) (told_back cs ls) ≡ ls
told-links [] [] e = refl
told-links [] (k ∷ ls) e = absurd (omega (arith, e))
told-links (d ∷ cs) [] e = absurd (omega (arith, e))
told-links (d ∷ cs) (k ∷ ls) e = ap (λ t. k ∷ t) (told-links cs ls (omega (arith, e)))
