use Rattle.std.proofs.Common.{◌≡◌, ◌++◌, map, take}
use Rattle.netcdf_source.specs.Mapping.{coordinate_at}
use Rattle.netcdf_source.proofs.leaves.push_coordinates.Given as goal

abbrev pub invariant-loop-id : goal.invariant-loop-id
invariant-loop-id l = l.leaves.items ≡ l.initial.leaves.items ++ map (coordinate_at l.contents) (take l.id-index l.ids)
