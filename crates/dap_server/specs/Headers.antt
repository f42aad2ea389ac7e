-- What a shelf may have of its files, and the header at the front of a netCDF file, or the first cause for which
-- there is none (netCDF classic format).
use Rattle.std.specs.Prelude.{◌≡◌, ℕ, ⊤, List, take, Option, Some, None}
use Rattle.dap_types.specs.Limits.{most_header}
use Rattle.dap_types.specs.Model.{Dataset, Tree}
use Rattle.dap_outside.specs.Files.{Told}
use Rattle.das_text.specs.Model.{Attributes}
use Rattle.dap_errors.specs.declared.cause.Cause.{Cause}
use Rattle.dap_errors.specs.declared.cause.Cause.TheVariants.{Damaged}
use Rattle.dap_errors.specs.declared.file_cause.FileCause.{FileCause}
use Rattle.dap_errors.specs.declared.file_cause.FileCause.TheVariants as causes
use Rattle.netcdf_source.specs.Header.{IsFirst}
use Rattle.netcdf_source.specs.declared.refusal.HeaderRefusal.{HeaderRefusal}
use Rattle.netcdf_source.specs.declared.refusal.HeaderRefusal.TheVariants as header

-- files by name
abbrev pub Files : Type 0
Files = List ℕ → Option (List ℕ)

-- files that a shelf may have: those that it tells, or any where it tells none
abbrev pub MayHave : Told → Files → Type 0
MayHave None files = ⊤
MayHave (Some told) files = files ≡ told

-- what may be found by a name: what the told files have, or anything where none are told
abbrev pub MayFind : Told → List ℕ → Option (List ℕ) → Type 0
MayFind None name found = ⊤
MayFind (Some files) name found = files name ≡ found

pub record Stored : Type 0 where
  pub dataset : Dataset
  pub trees : List Tree
  pub attributes : Attributes

-- the bytes in which a header has to end
abbrev pub front : List ℕ → List ℕ
front bytes = take most_header bytes

-- the cause for which the first bytes of a file are no header. Want of memory is none
abbrev pub header_cause : HeaderRefusal → Option FileCause
header_cause header.NotCdf = Some causes.NotCdf
header_cause header.Streaming = Some causes.Streaming
header_cause (header.BadField place) = Some (causes.BadField place)
header_cause header.HeaderCut = Some causes.HeaderCut
header_cause header.HeaderTooLong = Some causes.HeaderTooLong
header_cause (header.PastEnd var) = Some (causes.PastEnd var)
header_cause header.Memory = None

-- those first bytes of a file of that length are no header, for this cause
abbrev pub IsHeaderCause : List ℕ → ℕ → Cause → Type 0
IsHeaderCause first len cause =
    (refusal : HeaderRefusal) × (why : FileCause) × IsFirst refusal first len × (header_cause refusal ≡ Some why) × (cause ≡ Damaged why)
