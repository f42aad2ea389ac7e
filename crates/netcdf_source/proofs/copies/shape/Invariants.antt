use Rattle.std.proofs.Common.{◌≡◌, take}
use Rattle.netcdf_source.proofs.copies.shape.Given as goal

abbrev pub invariant-loop-id : goal.invariant-loop-id
invariant-loop-id l = l.shape ≡ take l.id-index l.ids
