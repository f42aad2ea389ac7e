-- What a shelf tells of its files.
use Rattle.std.specs.Prelude.{◌≡◌, ◌<◌, ℕ, All, List, length, take, drop, Option, Some, None, ⊤}

-- the files by name, where a shelf tells them
abbrev pub Told : Type 0
Told = Option (List ℕ → Option (List ℕ))

-- What a search answers over told files: a file that tells that name and its bytes, or none exactly where there is none.
abbrev pub Finds : {F : Type 0} → Told → (F → Option (List ℕ)) → (F → Option (List ℕ)) → List ℕ → Option F → Type 0
Finds None name_of content name found = ⊤
Finds (Some files) name_of content name None = files name ≡ None
Finds (Some files) name_of content name (Some file) =
    (bytes : List ℕ) × (files name ≡ Some bytes) × (name_of file ≡ Some name) × (content file ≡ Some bytes)

-- a file whose bytes are told has as many as its size says
abbrev pub HasSize : Option (List ℕ) → ℕ → Type 0
HasSize None size = ⊤
HasSize (Some bytes) size = size ≡ length bytes

-- what was read from a place on, where the bytes of the file are told
abbrev pub Reads : Option (List ℕ) → ℕ → List ℕ → Type 0
Reads None at into = ⊤
Reads (Some bytes) at into = into ≡ take (length into) (drop at bytes)

-- each number is that of a byte
abbrev pub IsBytes : List ℕ → Type 0
IsBytes bytes = All (λ byte. byte < 256) bytes
