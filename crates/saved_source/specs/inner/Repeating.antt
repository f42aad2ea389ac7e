-- What is told of names that are not served.
use Rattle.std.specs.Prelude.{◌≡◌, ℕ, ⊤, Option, Some}
use Rattle.saved_source.specs.declared.refusal.SavedRefusal.{SavedRefusal}
use Rattle.saved_source.specs.declared.refusal.SavedRefusal.TheVariants.{RepeatedName, Memory}

-- it is the first member, or memory was wanted
abbrev pub Tells : Option ℕ → SavedRefusal → Type 0
Tells first (RepeatedName n) = first ≡ Some n
Tells first Memory = ⊤
Tells first refusal = ⊥
