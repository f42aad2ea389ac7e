-- The name of a file's dataset (DAP 2.0, identifiers; the rules are this project's).
use Rattle.std.specs.Prelude.{ℕ, List, [], ◌∷◌, ◌==◌, if◌then◌else◌}
use Rattle.std.specs.List.{after_last, flat_map}
use Rattle.dap_types.specs.Names.{escaped_byte}

-- what stands behind the last `/` of a file's name, or the whole name
unfoldable pub segment : List ℕ → List ℕ
segment file_name = after_last (λ b. b == 47) file_name

-- a byte of the name of a file's dataset: as in every name of a file, but a `.` stays
abbrev pub dataset_name_byte : ℕ → List ℕ
dataset_name_byte b = if b == 46 then 46 ∷ [] else escaped_byte b

-- the name of a file's dataset
abbrev pub dataset_name : List ℕ → List ℕ
dataset_name file_name = flat_map dataset_name_byte (segment file_name)
