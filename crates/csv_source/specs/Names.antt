-- The name of the Sequence of a table (DAP 2.0, identifiers; the rules are this project's).
use Rattle.std.specs.Prelude.{ℕ, ◌-◌, Bool, List, length, take, drop, codes, if◌then◌else◌}
use Rattle.std.specs.Str.{bytes_eq}
use Rattle.dap_types.specs.Names.{file_id}
use Rattle.file_names.specs.Names.{segment}

-- whether the bytes end with these ones, and what stands before those
abbrev pub has_suffix : List ℕ → List ℕ → Bool
has_suffix suffix bytes = bytes_eq (drop (length bytes - length suffix) bytes) suffix

abbrev pub before_suffix : List ℕ → List ℕ → List ℕ
before_suffix suffix bytes = take (length bytes - length suffix) bytes

-- the bytes without these ones at their end, where they end so
abbrev pub without_suffix : List ℕ → List ℕ → List ℕ
without_suffix suffix bytes = if has_suffix suffix bytes then before_suffix suffix bytes else bytes

-- as that of the dataset, without `.csv` and with every `.` escaped
abbrev pub sequence_name : List ℕ → List ℕ
sequence_name file_name = file_id (without_suffix (codes ".csv") (segment file_name))
