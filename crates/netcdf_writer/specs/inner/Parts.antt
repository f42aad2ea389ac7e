-- Variables whose values have as many bytes as their part.
use Rattle.std.specs.Prelude.{[], if◌then◌else◌, ◌≡◌, ◌<◌, ◌^◌, ℕ, List, false, length}
use Rattle.std.specs.List.{AllByRecursion}
use Rattle.dap_model.specs.Fits.{values_in}
use Rattle.netcdf_writer.specs.File.{part_bytes, values_bytes}
use Rattle.netcdf_writer.specs.Variables.{Variable, is_record, part}

-- the bytes of a variable that is not over the record dimension
abbrev pub fixed_part : Variable → List ℕ
fixed_part v = if is_record v then [] else part_bytes v

abbrev pub IsFilled : Variable → Type 0
IsFilled v = is_record v ≡ false → (length (values_bytes v.base (values_in v.tree)) ≡ part v) × (part v < 2 ^ 32)

unfoldable pub AreFilled : List Variable → Type 0
AreFilled vs = AllByRecursion IsFilled vs
