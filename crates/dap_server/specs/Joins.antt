-- A stored file that lists netCDF files, a name a line, which are served as one dataset, joined along the record
-- dimension (netCDF classic format; the list is this project's). The causes for which it has none are those of the
-- list, then those of its lines in order, then those of files that are not joined.
use Rattle.std.specs.Prelude.{◌≡◌, ◌⊎◌, ℕ, ◌+◌, List, [], ◌∷◌, length, map, Option, Some, None, Result, Ok, Err}
use Rattle.dap_outside.specs.Files.{Told}
use Rattle.dap_errors.specs.declared.cause.Cause.{Cause}
use Rattle.dap_errors.specs.declared.cause.Cause.TheVariants.{Damaged}
use Rattle.dap_errors.specs.declared.file_cause.FileCause.{FileCause}
use Rattle.dap_errors.specs.declared.file_cause.FileCause.TheVariants as causes
use Rattle.netcdf_source.specs.Header.{IsHeader}
use Rattle.netcdf_source.specs.declared.header.Contents.{Contents}
use Rattle.join_source.specs.Causes.{IsCause}
use Rattle.join_source.specs.Lists.{list_of}
use Rattle.join_source.specs.Members.{CanJoin, joined_attributes, joined_dataset}
use Rattle.join_source.specs.Trees.{joined_trees}
use Rattle.join_source.specs.declared.refusal.JoinRefusal.{JoinRefusal}
use Rattle.join_source.specs.declared.refusal.JoinRefusal.TheVariants as joins
use Rattle.join_source.specs.declared.refusal.ListRefusal.{ListRefusal}
use Rattle.join_source.specs.declared.refusal.ListRefusal.TheVariants as lists
use Rattle.dap_server.specs.Headers.{IsHeaderCause, MayFind, Stored, front}
use Rattle.dap_server.specs.Steps.{Is, Then}

-- ---- The list.

-- the cause for which bytes are no list. Want of memory is none
abbrev pub list_cause : ListRefusal → Option FileCause
list_cause lists.TooLong = Some causes.JoinTooLong
list_cause (lists.BadLine line) = Some (causes.BadLine line)
list_cause lists.Memory = None

-- the names that a list has, or why it is none
abbrev pub Lists : List ℕ → Result (List (List ℕ)) Cause → Type 0
Lists bytes (Ok names) = list_of bytes ≡ Ok names
Lists bytes (Err cause) =
    (refusal : ListRefusal) × (why : FileCause) × (list_of bytes ≡ Err refusal) × (list_cause refusal ≡ Some why) × (cause ≡ Damaged why)

-- ---- Its lines.

-- a file that is joined, and what its header says
pub record Member : Type 0 where
  pub contents : Contents
  pub bytes : List ℕ

-- a line with that number, from 1, has the name of a file with a header, or of none, or of one without a header
abbrev pub IsMember : Told → ℕ → List ℕ → Result Member Cause → Type 0
IsMember told line name (Ok m) = MayFind told name (Some m.bytes) × IsHeader m.contents (front m.bytes) (length m.bytes)
IsMember told line name (Err cause) =
    (MayFind told name None × (cause ≡ Damaged (causes.NoMember line)))
    ⊎ ((file : List ℕ) × (why : Cause) × MayFind told name (Some file) × IsHeaderCause (front file) (length file) why × (cause ≡ Damaged (causes.BadMember line)))

-- so it is in one line after the other
abbrev pub Members : Told → ℕ → List (List ℕ) → Result (List Member) Cause → Type 0
Members told line [] = Is (Ok [])
Members told line (name ∷ names) = Then (IsMember told line name) (λ m. Then (Members told (line + 1) names) (λ ms. Is (Ok (m ∷ ms))))

-- ---- The files together.

abbrev pub contents_in : List Member → List Contents
contents_in ms = map (λ m. m.contents) ms

abbrev pub bytes_in : List Member → List (List ℕ)
bytes_in ms = map (λ m. m.bytes) ms

-- the cause for which headers are not joined. Want of memory is none
abbrev pub join_cause : JoinRefusal → Option FileCause
join_cause joins.NoRecord = Some causes.NoRecord
join_cause (joins.Differs line) = Some (causes.Differs line)
join_cause joins.TooManyRecords = Some causes.TooManyRecords
join_cause joins.Memory = None

-- what files with these headers have together, under the name of their list
abbrev pub stored_together : List ℕ → List Contents → List (List ℕ) → Stored
stored_together name cs files = record { dataset = joined_dataset cs name; trees = joined_trees cs files; attributes = joined_attributes cs }

abbrev pub joined_stored : List ℕ → List Member → Stored
joined_stored name ms = stored_together name (contents_in ms) (bytes_in ms)

abbrev pub AreJoined : List ℕ → List Member → Result Stored Cause → Type 0
AreJoined name ms (Ok stored) = CanJoin (contents_in ms) × (stored ≡ joined_stored name ms)
AreJoined name ms (Err cause) =
    (refusal : JoinRefusal) × (why : FileCause) × IsCause (contents_in ms) refusal × (join_cause refusal ≡ Some why) × (cause ≡ Damaged why)

-- what a list of this name and these bytes has
abbrev pub IsJoined : Told → List ℕ → List ℕ → Result Stored Cause → Type 0
IsJoined told name bytes = Then (Lists bytes) (λ names. Then (Members told 1 names) (AreJoined name))
