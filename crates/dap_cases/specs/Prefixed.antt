-- The files of a shelf whose names begin with a prefix, by what stands behind it.
use Rattle.std.specs.Prelude.{ℕ, List, ◌++◌, drop, length, Option, Some, None}
use Rattle.dap_outside.specs.Files.{Told}

abbrev pub told_below : List ℕ → Told → Told
told_below prefix None = None
told_below prefix (Some files) = Some (λ name. files (prefix ++ name))

-- what stands behind the prefix in the name of a file
abbrev pub name_below : List ℕ → Option (List ℕ) → Option (List ℕ)
name_below prefix None = None
name_below prefix (Some name) = Some (drop (length prefix) name)
