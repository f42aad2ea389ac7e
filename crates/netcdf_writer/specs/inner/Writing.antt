-- What becomes of variables that are put.
use Rattle.std.specs.Prelude.{◌≡◌, ℕ, List, false, true, length, Option}
use Rattle.std.specs.Io.KnownBytes.{Appends}
use Rattle.dap_outside.specs.Streams.{AppendsFront}
use Rattle.netcdf_writer.specs.File.{cdf, is_header_too_long}
use Rattle.netcdf_writer.specs.Variables.{Variable}
use Rattle.netcdf_writer.specs.declared.stored.Stored.{Stored}
use Rattle.netcdf_writer.specs.declared.stored.Stored.TheVariants.{Written, HeaderTooLong, WriteFault, Memory}

abbrev pub WritesPlanned : List Variable → Option (List ℕ) → Option (List ℕ) → Stored → Type 0
WritesPlanned vs before now (Written bytes) = (is_header_too_long vs ≡ false) × (bytes ≡ length (cdf vs)) × Appends before now (cdf vs)
WritesPlanned vs before now HeaderTooLong = (is_header_too_long vs ≡ true) × (now ≡ before)
WritesPlanned vs before now WriteFault = (is_header_too_long vs ≡ false) × AppendsFront before now (cdf vs)
WritesPlanned vs before now Memory = now ≡ before
WritesPlanned vs before now answer = ⊥
