use Rattle.std.proofs.Common.{◌≡◌, drop}
use Rattle.std.specs.List.{list_any}
use Rattle.netcdf_writer.specs.Causes.{is_misnamed}
use Rattle.netcdf_writer.proofs.causes.have_bad_names.Given as goal

abbrev pub invariant-loop-array : goal.invariant-loop-array
invariant-loop-array l = list_any is_misnamed (drop l.array-index l.arrays) ≡ list_any is_misnamed l.arrays
