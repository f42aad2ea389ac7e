-- Words by their names.
use Rattle.std.proofs.Common.{◌≡◌, List, ℕ, map, refl, sym, Bool, true, false, IsTrue}
use Rattle.std.specs.Prelude.{◌↔◌}
use Rattle.std.specs.Char.{to_ascii_lowercase}
use Rattle.std.specs.Str.{str_eq_ignore_ascii_case}
use Rattle.std.proofs.lemmas.Slice.Eq.{bytes_eq-Decides}

-- two tests of one fact
same_test : (a b : Bool) → (IsTrue a → IsTrue b) → (IsTrue b → IsTrue a) → a ≡ b
same_test true b f g = sym (f refl)
same_test false false f g = refl
same_test false true f g = g refl

pub same_name : (result : Bool) (name bytes : List ℕ) → (IsTrue result ↔ (map to_ascii_lowercase name ≡ map to_ascii_lowercase bytes)) → result ≡ str_eq_ignore_ascii_case name bytes
same_name result name bytes h =
    let d = bytes_eq-Decides (map to_ascii_lowercase name) (map to_ascii_lowercase bytes) in
    same_test result (str_eq_ignore_ascii_case name bytes) (λ y. d.1 (h.0 y)) (λ y. h.1 (d.0 y))
