use Rattle.std.proofs.Common.{◌≡◌, take}
use Rattle.netcdf_source.proofs.copies.variables.Given as goal

abbrev pub invariant-loop-item : goal.invariant-loop-item
invariant-loop-item l = l.copies ≡ take l.item-index l.variables
