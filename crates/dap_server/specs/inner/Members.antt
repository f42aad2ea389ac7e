-- The files of the lines of a list, as a shelf gives them.
use Rattle.std.specs.Prelude.{◌≡◌, ◌⊎◌, ◌≤◌, ℕ, ◌+◌, ◌*◌, List, length, min, sum_by, take, Option, Some, None, IsSome}
use Rattle.std.specs.List.{AllZip}
use Rattle.std.specs.Option.{option_map_or}
use Rattle.dap_types.specs.Limits.{most_header}
use Rattle.dap_outside.specs.Files.{Told}
use Rattle.netcdf_source.specs.File.{FileHeader}
use Rattle.dap_errors.specs.declared.cause.Cause.{Cause}
use Rattle.dap_errors.specs.declared.cause.Cause.TheVariants.{Damaged}
use Rattle.dap_errors.specs.declared.file_cause.FileCause.TheVariants.{BadMember}
use Rattle.dap_server.specs.Costs.{IsBadAmong, IsBehindLines, most_of_names}
use Rattle.dap_server.specs.Joins.{Member}
use Rattle.dap_server.specs.inner.Opening.{IsRead}
use Rattle.dap_server.specs.declared.no_answer.Stop.{Stop}
use Rattle.dap_server.specs.declared.no_answer.Stop.TheVariants.{Refused, ShelfFault, Memory}

-- the header is that of the member
abbrev pub IsHeaderOf : FileHeader → Member → Type 0
IsHeaderOf h m = (h.contents ≡ m.contents) × (h.length ≡ length m.bytes)

-- the file has the bytes of the member, and tells them where the shelf tells its files
abbrev pub IsFileOf : {F : Type 0} → Told → (F → Option (List ℕ)) → (F → ℕ) → F → Member → Type 0
IsFileOf told content size_of file m = IsRead (content file) m.bytes × (IsSome told → content file ≡ Some m.bytes) × (size_of file ≡ length m.bytes)

abbrev pub AreHeadersOf : List FileHeader → List Member → Type 0
AreHeadersOf headers ms = AllZip IsHeaderOf headers ms

abbrev pub AreFilesOf : {F : Type 0} → Told → (F → Option (List ℕ)) → (F → ℕ) → List F → List Member → Type 0
AreFilesOf told content size_of files ms = AllZip (IsFileOf told content size_of) files ms

-- the most that is read of the file of a name for its header
abbrev pub most_in_line : Told → List ℕ → ℕ
most_in_line None name = most_header
most_in_line (Some files) name = option_map_or (λ file. min (length file) most_header) (files name) 0

-- and of the files of some names in turn
abbrev pub most_in_lines : Told → List (List ℕ) → ℕ
most_in_lines None names = length names * most_header
most_in_lines (Some files) names = most_of_names files names

-- and of those of the first of them, so many, each as if the others were there
abbrev pub most_in_first : Told → ℕ → List (List ℕ) → ℕ
most_in_first told count names = sum_by (λ name. most_in_line told name) (take count names)

-- where a line is told, nothing was asked in it, or no more than the front of its file, which counts then
abbrev pub AsksLine : Told → List ℕ → ℕ → Cause → ℕ → ℕ → Type 0
AsksLine told name line cause before now =
    (count : ℕ) → IsBehindLines cause count → ((line ≡ count + 1) × (now ≤ before)) ⊎ ((line ≡ count) × (now ≤ before + most_in_line told name))

-- and in the lines before it no more than the fronts of theirs
abbrev pub AsksLines : Told → List (List ℕ) → Cause → ℕ → ℕ → Type 0
AsksLines told names cause before now = (count : ℕ) → IsBehindLines cause count → now ≤ before + most_in_first told count names

-- whatever comes of them, no more was asked than the fronts of the files up to a line that is bad
abbrev pub AsksToBad : Told → List (List ℕ) → ℕ → ℕ → Type 0
AsksToBad told names before now = (line : ℕ) → IsBadAmong told names line → now ≤ before + most_in_first told line names

-- the stop of a line whose file has no header for that stop
abbrev pub bad_member : ℕ → Stop → Stop
bad_member line (Refused why) = Refused (Damaged (BadMember line))
bad_member line ShelfFault = ShelfFault
bad_member line Memory = Memory
