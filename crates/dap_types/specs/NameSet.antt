-- Names as a set: which names are among them, whatever their order.
use Rattle.std.specs.Prelude.{◌≡◌, ℕ, List, ◌∷◌}
use Rattle.std.specs.List.{list_any}
use Rattle.std.specs.Str.{bytes_eq}

-- the same names, in any order
abbrev pub AreSameNames : List (List ℕ) → List (List ℕ) → Type 0
AreSameNames names others = (n : List ℕ) → list_any (bytes_eq n) names ≡ list_any (bytes_eq n) others

-- the names, and this one beside them
abbrev pub HasAlso : List (List ℕ) → List ℕ → List (List ℕ) → Type 0
HasAlso names name more = AreSameNames more (name ∷ names)
