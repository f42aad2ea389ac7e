use Rattle.std.proofs.Common.{◌≡◌, map, take}
use Rattle.dap_types.specs.Names.{file_id}
use Rattle.netcdf_source.proofs.ids.dimension_ids.Given as goal

abbrev pub invariant-loop-dimension : goal.invariant-loop-dimension
invariant-loop-dimension l = l.ids ≡ map (λ d. file_id d.name) (take l.dimension-index l.dimensions)
