-- Lists of what was read.
use Rattle.std.proofs.Common.{◌≡◌, List, [], ◌∷◌, ◌++◌, map, refl, sym}
use Rattle.std.proofs.lemmas.List.{map-append}

-- one more item and one more value
pub map_with_last : {A B : Type 0} (f : A → B) (values : List B) (value : B) (xs : List A) (x : A) → values ≡ map f xs → value ≡ f x → values ++ value ∷ [] ≡ map f (xs ++ x ∷ [])
map_with_last f values value xs x e h = rw (e, h) (sym (map-append f xs (x ∷ [])))

pub not_empty : {A : Type 0} (xs : List A) (x : A) → xs ++ x ∷ [] ≡ [] → ⊥
not_empty [] x e = cc
not_empty (y ∷ xs) x e = cc

pub map_is_nil : {A B : Type 0} (f : A → B) (xs : List A) → map f xs ≡ [] → xs ≡ []
map_is_nil f [] e = refl
map_is_nil f (x ∷ xs) e = cc
