use Rattle.std.proofs.Common.{◌≡◌, ◌++◌, drop, filter}
use Rattle.netcdf_writer.specs.inner.Planned.{new_in}
use Rattle.netcdf_writer.specs.inner.Tables.{variable_views}
use Rattle.netcdf_writer.proofs.plan.new_maps.Given as goal

abbrev pub invariant-loop-map : goal.invariant-loop-map
invariant-loop-map l = variable_views l.out.items ++ filter (new_in l.names l.maps) (variable_views (drop l.map-index l.own)) ≡ filter (new_in l.names l.maps) (variable_views l.own)
