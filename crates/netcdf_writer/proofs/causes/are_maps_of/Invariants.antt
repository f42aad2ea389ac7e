use Rattle.std.proofs.Common.{◌≡◌, drop}
use Rattle.std.specs.Cmp.Lexicographic.{pointwise}
use Rattle.netcdf_writer.specs.Causes.{is_map_of}
use Rattle.netcdf_writer.proofs.causes.are_maps_of.Given as goal

abbrev pub invariant-loop-k : goal.invariant-loop-k
invariant-loop-k l = pointwise is_map_of (drop l.k l.maps) (drop l.k l.dims) ≡ pointwise is_map_of l.maps l.dims
