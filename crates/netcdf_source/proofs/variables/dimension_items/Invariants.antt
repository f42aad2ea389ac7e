use Rattle.std.proofs.Common.{◌≡◌, ◌-◌, []}
use Rattle.netcdf_source.specs.inner.Reading.{next_id, times}
use Rattle.netcdf_source.proofs.variables.dimension_items.Given as goal

abbrev pub invariant-loop : goal.invariant-loop
invariant-loop l = times (next_id l.width l.dimensions) (l.rank - l.counter) l.ids l.rest ≡ times (next_id l.width l.dimensions) l.rank [] l.bytes
