use Rattle.std.proofs.Common.{◌≡◌, drop}
use Rattle.netcdf_source.specs.Mapping.{differ}
use Rattle.netcdf_source.proofs.mapping.differ.Given as goal

abbrev pub invariant-loop-i : goal.invariant-loop-i
invariant-loop-i l = differ (drop l.i l.ids) ≡ differ l.ids
