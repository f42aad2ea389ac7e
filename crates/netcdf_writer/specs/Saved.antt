-- What becomes of a dataset that is stored.
use Rattle.std.specs.Prelude.{◌≡◌, ℕ, List, ◌≤◌, false, true, length, Option, Some, None, map}
use Rattle.std.specs.Io.KnownBytes.{Appends}
use Rattle.dap_types.specs.Limits.{most_written}
use Rattle.dap_types.specs.Model.{Dataset, Tree}
use Rattle.dap_types.specs.View.{tree_view}
use Rattle.dap_types.specs.WellFormed.{IsWellFormed}
use Rattle.dap_model.specs.Fits.{FitsAll}
use Rattle.dap_model.specs.Xdr.{xdr}
use Rattle.dap_outside.specs.Streams.{AppendsFront}
use Rattle.xdr_decode.specs.declared.filled.Filled.{Filled}
use Rattle.netcdf_writer.specs.Causes.{unsavable}
use Rattle.netcdf_writer.specs.File.{cdf, is_header_too_long}
use Rattle.netcdf_writer.specs.Outcomes.{OnWritten, OnUnsavable, OnHeaderTooLong, OnWriteFault, WhereNothingPut}
use Rattle.netcdf_writer.specs.Variables.{variables}
use Rattle.netcdf_writer.specs.declared.stored.Stored.{Stored}

-- a dataset with its values, few enough to be kept in memory
pub record IsSmall (d : Dataset) (ts : List Tree) : Type 0 where
  pub well_formed : IsWellFormed d
  pub fits : FitsAll d.members ts
  pub few : length (xdr d ts) ≤ most_written

-- nothing stands against storing it
abbrev pub IsSavable : Dataset → List Tree → Type 0
IsSavable d ts = (unsavable d ts ≡ None) × (is_header_too_long (variables d ts) ≡ false)

-- the answer to a dataset in memory: what the sink gained by it
pub record Stores (d : Dataset) (ts : List Tree) (before now : Option (List ℕ)) (answer : Stored) : Type 0 where
  -- the whole file, where there is no cause and the header is not too long
  pub written : OnWritten (λ bytes. IsSavable d ts × (bytes ≡ length (cdf (variables d ts))) × Appends before now (cdf (variables d ts))) answer
  -- the first cause
  pub cause : OnUnsavable (λ member why. unsavable d ts ≡ Some (member, why)) answer
  pub too_long : OnHeaderTooLong ((unsavable d ts ≡ None) × (is_header_too_long (variables d ts) ≡ true)) answer
  -- a front of the file
  pub stopped : OnWriteFault (IsSavable d ts × AppendsFront before now (cdf (variables d ts))) answer
  pub nothing_put : WhereNothingPut (now ≡ before) answer

abbrev pub trees_in : Filled → List Tree
trees_in f = map tree_view f.values
