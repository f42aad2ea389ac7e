-- Files in memory.
use Rattle.std.specs.Prelude.{ℕ, List, [], ◌∷◌, length, Option, Some, None, if◌then◌else◌, slice_get}
use Rattle.std.specs.Option.{option_map, option_map_or}
use Rattle.std.specs.Str.{bytes_eq}
use Rattle.dap_outside.specs.declared.memory_shelf.MemFile.{MemFile}

-- the bytes of the first file of a name
abbrev pub bytes_named : List MemFile → List ℕ → Option (List ℕ)
bytes_named [] name = None
bytes_named (file ∷ files) name = if bytes_eq file.name name then Some file.bytes else bytes_named files name

-- the bytes of the file at a place
abbrev pub bytes_at : List MemFile → ℕ → Option (List ℕ)
bytes_at files place = option_map (λ file. file.bytes) (slice_get files place)

abbrev pub size_at : List MemFile → ℕ → ℕ
size_at files place = option_map_or (λ file. length file.bytes) (slice_get files place) 0

-- the name of the file at a place
abbrev pub name_at : List MemFile → ℕ → Option (List ℕ)
name_at files place = option_map (λ file. file.name) (slice_get files place)
