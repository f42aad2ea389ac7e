-- Why headers are not joined.
use Rattle.std.specs.Prelude.{◌≡◌, ◌≢◌, ℕ, ⊤, ◌+◌, ◌<◌, List, ◌∷◌, ◌++◌, All, None, length}
use Rattle.dap_types.specs.Limits.{most_elements}
use Rattle.netcdf_source.specs.Mapping.{records_of, HaveSameShape}
use Rattle.netcdf_source.specs.declared.header.Contents.{Contents}
use Rattle.join_source.specs.Members.{all_records, first_of}
use Rattle.join_source.specs.declared.refusal.JoinRefusal.{JoinRefusal}
use Rattle.join_source.specs.declared.refusal.JoinRefusal.TheVariants.{NoRecord, Differs, TooManyRecords, Memory}

-- the header with that number, from 1, is the first one that has not the shape of the first
pub record FirstToDiffer (cs : List Contents) (line : ℕ) : Type 0 where
  pub before : List Contents
  pub other : Contents
  pub behind : List Contents
  pub parts : cs ≡ before ++ other ∷ behind
  pub number : line ≡ length before + 1
  pub same : All (HaveSameShape (first_of cs)) before
  pub differs : HaveSameShape (first_of cs) other → ⊥

-- the first cause
abbrev pub IsCause : List Contents → JoinRefusal → Type 0
IsCause cs NoRecord = records_of (first_of cs) ≡ None
IsCause cs (Differs line) = (records_of (first_of cs) ≢ None) × FirstToDiffer cs line
IsCause cs TooManyRecords = (records_of (first_of cs) ≢ None) × All (HaveSameShape (first_of cs)) cs × (most_elements < all_records cs)
IsCause cs Memory = ⊤
