-- Tests and sums over lists, one item more.
use Rattle.std.proofs.Common.{◌≡◌, ◌+◌, Bool, true, false, ◌||◌, List, [], ◌∷◌, ◌++◌, refl, ap, ◌∙◌, arith}
use Rattle.std.specs.List.{list_any}
use Rattle.plain_lemmas.proofs.Truths.{or_false}
use Rattle.netcdf_source.specs.Parts.{share, shares}
use Rattle.netcdf_source.specs.declared.header.Dimension.{Dimension}
use Rattle.netcdf_source.specs.declared.header.Variable.{Variable}

or_assoc : (a b c : Bool) → (a || (b || c)) ≡ ((a || b) || c)
or_assoc true b c = refl
or_assoc false b c = refl

pub list_any-push : {X : Type 0} (p : X → Bool) (xs : List X) (x : X) → list_any p (xs ++ x ∷ []) ≡ (list_any p xs || p x)
list_any-push p [] x = or_false (p x)
list_any-push p (y ∷ ys) x = ap (λ (b : Bool). p y || b) (list_any-push p ys x) ∙ or_assoc (p y) (list_any p ys) (p x)

pub shares-push : (dims : List Dimension) (vs : List Variable) (v : Variable) → shares dims (vs ++ v ∷ []) ≡ shares dims vs + share dims v.dimensions v.external_type
unfolding shares
shares-push dims [] v = omega arith
shares-push dims (w ∷ vs) v = omega (arith, shares-push dims vs v)
