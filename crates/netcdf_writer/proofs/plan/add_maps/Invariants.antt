use Rattle.std.proofs.Common.{List, ◌++◌, take}
use Rattle.netcdf_writer.specs.Variables.{Variable}
use Rattle.netcdf_writer.specs.inner.Planned.{AreMaps}
use Rattle.netcdf_writer.specs.inner.Tables.{variable_views}
use Rattle.netcdf_writer.proofs.plan.add_maps.Given as goal

abbrev pub invariant-loop-map : goal.invariant-loop-map
invariant-loop-map l = (earlier : List Variable) → AreMaps l.fn.maps earlier → AreMaps l.maps (earlier ++ variable_views (take l.map-index l.own))
