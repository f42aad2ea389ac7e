use Rattle.std.proofs.Common.{◌≡◌, ◌++◌, drop}
use Rattle.netcdf_source.specs.Mapping.{maps_of}
use Rattle.netcdf_source.proofs.mapping.maps_of.Given as goal

abbrev pub invariant-loop-id : goal.invariant-loop-id
invariant-loop-id l = l.maps ++ maps_of l.contents (drop l.id-index l.ids) ≡ maps_of l.contents l.ids
