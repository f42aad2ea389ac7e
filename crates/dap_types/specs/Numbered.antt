-- What an index of members answers, and what it answers once paths are added to it in order.
use Rattle.std.specs.Prelude.{◌≡◌, ℕ, ◌+◌, List, ◌++◌, length, map, Option, Result, Ok, Err}
use Rattle.std.specs.Cmp.Lexicographic.{pointwise}
use Rattle.std.specs.List.{position_from}
use Rattle.std.specs.Option.{option_or}
use Rattle.std.specs.Str.{bytes_eq}
use Rattle.indexmap.specs.IndexMap.{get_by}
use Rattle.dap_types.specs.declared.index.Index.{Index}
use Rattle.dap_types.specs.declared.memory.Memory.{Memory}

-- the number that a path has in an index
abbrev pub number_in : Index → List (List ℕ) → Option ℕ
number_in index path = get_by (λ k. pointwise bytes_eq path k.items) index.numbers

-- a path has the number that it had, or that of its first place among these, the first of which is n
abbrev pub Adds : (List (List ℕ) → Option ℕ) → (List (List ℕ) → Option ℕ) → ℕ → List (List (List ℕ)) → Type 0
Adds old new n paths = (q : List (List ℕ)) → new q ≡ option_or (old q) (position_from (pointwise bytes_eq q) n paths)

-- they are added, and the answer is the number behind the last
abbrev pub Numbers : (List (List ℕ) → Option ℕ) → (List (List ℕ) → Option ℕ) → ℕ → List (List (List ℕ)) → Result ℕ Memory → Type 0
Numbers old new n paths (Ok next) = (next ≡ n + length paths) × Adds old new n paths
Numbers old new n paths (Err e) = Unit {0}

-- the paths of parts, below the path of their whole
abbrev pub under : List (List ℕ) → List (List (List ℕ)) → List (List (List ℕ))
under whole ps = map (λ p. whole ++ p) ps
