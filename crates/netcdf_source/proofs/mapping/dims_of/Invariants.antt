use Rattle.std.proofs.Common.{◌≡◌, map, take}
use Rattle.netcdf_source.specs.Mapping.{dim_of}
use Rattle.netcdf_source.proofs.mapping.dims_of.Given as goal

abbrev pub invariant-loop-id : goal.invariant-loop-id
invariant-loop-id l = l.dims ≡ map (dim_of l.contents) (take l.id-index l.ids)
