use Rattle.std.proofs.Common.{◌≡◌, ◌++◌, drop}
use Rattle.netcdf_source.specs.Mapping.{leaves_from}
use Rattle.netcdf_source.proofs.leaves.leaves.Given as goal

abbrev pub invariant-loop-i : goal.invariant-loop-i
invariant-loop-i l = l.leaves.items ++ leaves_from l.contents l.i (drop l.i l.contents.variables) ≡ leaves_from l.contents 0 l.contents.variables
