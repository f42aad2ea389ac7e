-- What clashes with what stands before it, one after the other.
use Rattle.std.proofs.Common.{◌≡◌, ℕ, ◌+◌, ◌<◌, Bool, true, false, not, ◌||◌, List, ◌∷◌, ◌++◌, take, drop, length, get_or, refl, ap, sym, ◌∙◌, take-append-drop}
use Rattle.std.proofs.lemmas.List.{map-append}
use Rattle.plain_lemmas.proofs.Lists.{drop_here}
use Rattle.netcdf_writer.specs.inner.Tables.{variable_view, variable_views}
use Rattle.netcdf_writer.specs.declared.lent.Lent.{Lent}

module _ {X : Type 0} (clash : List X → List X → Bool) (more : (earlier us vs : List X) → clash earlier (us ++ vs) ≡ (clash earlier us || clash (earlier ++ us) vs)) where
  pub found : (earlier front mid back all : List X) → all ≡ front ++ (mid ++ back) → clash earlier front ≡ false → clash (earlier ++ front) mid ≡ true → clash earlier all ≡ true
  found earlier front mid back all is none hit =
      ap (clash earlier) is ∙ more earlier front (mid ++ back) ∙ ap (λ b. b || clash (earlier ++ front) (mid ++ back)) none ∙ more (earlier ++ front) mid back
      ∙ ap (λ b. b || clash ((earlier ++ front) ++ mid) back) hit

  pub passed : (earlier front mid now : List X) → now ≡ front ++ mid → clash earlier front ≡ false → clash (earlier ++ front) mid ≡ false → clash earlier now ≡ false
  passed earlier front mid now is none free =
      ap (clash earlier) is ∙ more earlier front mid ∙ ap (λ b. b || clash (earlier ++ front) mid) none ∙ free

pub split : {X : Type 0} (xs : List X) (i : ℕ) (x : X) → i < length xs → x ≡ get_or xs i x → xs ≡ take i xs ++ x ∷ drop (i + 1) xs
split xs i x lt is = sym (take-append-drop i xs) ∙ ap (λ l. take i xs ++ l) (drop_here xs i x lt is)

pub views_split : (xs : List Lent) (i : ℕ) (x : Lent) → i < length xs → x ≡ get_or xs i x → variable_views xs ≡ variable_views (take i xs) ++ variable_view x ∷ variable_views (drop (i + 1) xs)
views_split xs i x lt is = ap variable_views (split xs i x lt is) ∙ map-append variable_view (take i xs) (x ∷ drop (i + 1) xs)

pub not_yes : (b : Bool) → true ≡ not b → b ≡ false
not_yes false e = refl
not_yes true e = cc

pub not_no : (b : Bool) → false ≡ not b → b ≡ true
not_no true e = refl
not_no false e = cc
