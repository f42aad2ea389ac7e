use Rattle.std.proofs.Common.{◌≡◌, ◌++◌, map, drop}
use Rattle.netcdf_source.specs.Mapping.{is_grid}
use Rattle.netcdf_source.proofs.mapping.grids.Given as goal

abbrev pub invariant-loop-variable : goal.invariant-loop-variable
invariant-loop-variable l = l.grids.items ++ map (is_grid l.contents) (drop l.variable-index l.contents.variables) ≡ map (is_grid l.contents) l.contents.variables
