-- What is told of the files whose names begin with a prefix are bytes.
use Rattle.std.proofs.Common.{◌≡◌, ◌∙◌, ℕ, List, ◌++◌, Option, Some, None, ap, refl}
use Rattle.std.specs.Prelude.{unwrap_or}
use Rattle.std.proofs.lemmas.Option.{none-some}
use Rattle.dap_outside.specs.Files.{Told, IsBytes}
use Rattle.dap_cases.specs.Prefixed.{told_below}

pub below_are_bytes : (told : Told) (prefix : List ℕ) (named : List ℕ → Option (List ℕ)) (name bytes : List ℕ)
    → ((all : List ℕ → Option (List ℕ)) (whole own : List ℕ) → told ≡ Some all → all whole ≡ Some own → IsBytes own)
    → told_below prefix told ≡ Some named → named name ≡ Some bytes → IsBytes bytes
below_are_bytes None prefix named name bytes are is holds = absurd (none-some named is)
below_are_bytes (Some files) prefix named name bytes are is holds = are files (prefix ++ name) bytes refl (ap (λ f. f name) (ap (λ o. unwrap_or o named) is) ∙ holds)
