-- The bytes that are a header, and the first thing that fails in those that are none.
use Rattle.std.specs.Prelude.{◌≡◌, ℕ, ◌-◌, ◌<◌, ◌≤◌, ◌⊎◌, List, [], ◌∷◌, ◌++◌, length, Some, None, Result, Ok, Err}
use Rattle.dap_types.specs.Limits.{most_header}
use Rattle.netcdf_source.specs.Fields.{Ends}
use Rattle.netcdf_source.specs.Grammar.{HeaderTree, contents, header_fields}
use Rattle.netcdf_source.specs.Parts.{past_end}
use Rattle.netcdf_source.specs.Versions.{version_byte}
use Rattle.netcdf_source.specs.declared.header.Contents.{Contents}
use Rattle.netcdf_source.specs.declared.file.Header.{Header}
use Rattle.netcdf_source.specs.declared.refusal.HeaderRefusal.{HeaderRefusal}
use Rattle.netcdf_source.specs.declared.refusal.HeaderRefusal.TheVariants as refusals
use Rattle.netcdf_source.specs.declared.failure.Failure.{Failure}
use Rattle.netcdf_source.specs.declared.failure.Failure.TheVariants.{Cut, Streaming, Bad}
use Rattle.netcdf_source.specs.declared.version.Version.{Version}

-- what a header says
abbrev pub contents_of : Header → Contents
contents_of h = h.contents

-- CDF and the byte of the version
abbrev pub magic : Version → List ℕ
magic version = 0x43 ∷ 0x44 ∷ 0x46 ∷ version_byte version ∷ []

unfoldable pub HasNoMagic : List ℕ → Type 0
HasNoMagic front = (version : Version) (rest : List ℕ) → front ≡ magic version ++ rest → ⊥

-- The bytes begin with a magic, and run along the fields of a header.
pub record Stands (h : HeaderTree) (front : List ℕ) (end : Result (List ℕ) Failure) : Type 0 where
  pub body : List ℕ
  pub begins : front ≡ magic h.version ++ body
  pub ends : Ends (header_fields h) body end

-- The first bytes of a file of that length are a header, which says this, and each variable ends
-- within the file.
abbrev pub IsHeader : Contents → List ℕ → ℕ → Type 0
IsHeader c front file_len = (h : HeaderTree) × (rest : List ℕ) × Stands h front (Ok rest) × (contents h ≡ c) × (past_end c file_len ≡ None)

-- This is the first thing that fails in the first bytes of a file of that length.
abbrev pub IsFirst : HeaderRefusal → List ℕ → ℕ → Type 0
IsFirst refusals.NotCdf front file_len = HasNoMagic front
IsFirst refusals.HeaderCut front file_len = (h : HeaderTree) × Stands h front (Err Cut) × (file_len ≤ most_header)
IsFirst refusals.HeaderTooLong front file_len = (h : HeaderTree) × Stands h front (Err Cut) × (most_header < file_len)
IsFirst refusals.Streaming front file_len = (h : HeaderTree) × Stands h front (Err Streaming)
IsFirst (refusals.BadField place) front file_len = (h : HeaderTree) × (left : ℕ) × Stands h front (Err (Bad left)) × (place ≡ length front - left)
IsFirst (refusals.PastEnd var) front file_len = (h : HeaderTree) × (rest : List ℕ) × Stands h front (Ok rest) × (past_end (contents h) file_len ≡ Some var)
IsFirst refusals.Memory front file_len = ⊥

-- These first bytes stop within a magic or a field, and nothing before it fails.
abbrev pub IsCut : List ℕ → Type 0
IsCut front = (length front < 4) ⊎ ((h : HeaderTree) × Stands h front (Err Cut))
