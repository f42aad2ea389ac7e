use Rattle.std.proofs.Common.{◌≡◌, ◌-◌, [], map}
use Rattle.std.specs.List.{list_any}
use Rattle.dap_types.specs.NameSet.{AreSameNames}
use Rattle.netcdf_source.specs.Grammar.{is_record_dimension}
use Rattle.netcdf_source.specs.inner.Reading.{next_dimension, times}
use Rattle.netcdf_source.proofs.dimensions.items.Given as goal

abbrev pub invariant-loop : goal.invariant-loop
invariant-loop l = (times (next_dimension l.width) (l.count - l.counter) l.dimensions l.rest ≡ times (next_dimension l.width) l.count [] l.bytes) × AreSameNames l.names (map (λ b. b.name) l.dimensions) × (l.has_records ≡ list_any is_record_dimension l.dimensions)
