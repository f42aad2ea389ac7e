-- What sources and sinks do to the bytes that they tell.
use Rattle.std.specs.Prelude.{◌≡◌, ◌<◌, ◌≤◌, ℕ, List, ◌++◌, length, take, Option, Some, None, ⊤}
use Rattle.std.specs.Io.KnownBytes.{Appends, Consumes}

-- some of the bytes, from the front, were appended, and at least one was not
abbrev pub AppendsFront : Option (List ℕ) → Option (List ℕ) → List ℕ → Type 0
AppendsFront old new bytes = (k : ℕ) × (k < length bytes) × Appends old new (take k bytes)

-- some of the bytes, from the front, were appended, or all
abbrev pub AppendsSome : Option (List ℕ) → Option (List ℕ) → List ℕ → Type 0
AppendsSome old new bytes = (k : ℕ) × (k ≤ length bytes) × Appends old new (take k bytes)

-- the first bytes of a buffer were taken
abbrev pub ConsumesFront : Option (List ℕ) → Option (List ℕ) → List ℕ → Type 0
ConsumesFront old new into = (k : ℕ) × (k ≤ length into) × Consumes old new (take k into)

-- what is left is a suffix of the whole input, and both are told or neither
abbrev pub EndsWith : Option (List ℕ) → Option (List ℕ) → Type 0
EndsWith None None = ⊤
EndsWith None (Some left) = ⊥
EndsWith (Some whole) None = ⊥
EndsWith (Some whole) (Some left) = (taken : List ℕ) × (whole ≡ taken ++ left)
