-- Texts without the spaces at their ends.
use Rattle.std.proofs.Common.{◌≡◌, ℕ, true, false, List, [], ◌∷◌, ◌++◌, refl}
use Rattle.std.specs.Prelude.{◌==◌}
use Rattle.plain_lemmas.proofs.Lists.{last_length}
use Rattle.plain_lemmas.proofs.Truths.{and_false}
use Rattle.csv_source.specs.Cells.{without_end_spaces, without_front_spaces}

-- spaces in front
pub front-space : (text : List ℕ) (b : ℕ) (rest : List ℕ) → text ≡ b ∷ rest → (b == 32) ≡ true → without_front_spaces text ≡ without_front_spaces rest
unfolding without_front_spaces
front-space text b rest is space = rw (is, space) refl

pub front-other : (text : List ℕ) (b : ℕ) (rest : List ℕ) → text ≡ b ∷ rest → (b == 32) ≡ false → without_front_spaces text ≡ text
unfolding without_front_spaces
front-other text b rest is other = rw (is, other) refl

pub front-none : (text : List ℕ) → text ≡ [] → without_front_spaces text ≡ text
unfolding without_front_spaces
front-none text is = rw is refl

-- spaces behind
pub end-space : (text : List ℕ) → without_end_spaces (text ++ 32 ∷ []) ≡ without_end_spaces text
unfolding without_end_spaces
end-space [] = refl
end-space (b ∷ text) = rw (end-space text) refl

pub end-other : (text : List ℕ) (b : ℕ) → (b == 32) ≡ false → without_end_spaces (text ++ b ∷ []) ≡ text ++ b ∷ []
unfolding without_end_spaces
end-other [] b other = rw other refl
end-other (c ∷ text) b other = rw (end-other text b other, last_length text b, and_false (c == 32)) refl

pub end-none : without_end_spaces [] ≡ []
unfolding without_end_spaces
end-none = refl
