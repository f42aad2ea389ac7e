use Rattle.std.proofs.Common.{◌≡◌, ◌-◌, ◌≤◌, ◌^◌, [], map}
use Rattle.dap_types.specs.NameSet.{AreSameNames}
use Rattle.netcdf_source.specs.Parts.{shares}
use Rattle.netcdf_source.specs.inner.Reading.{next_variable, times}
use Rattle.netcdf_source.proofs.variables.items.Given as goal

abbrev pub invariant-loop : goal.invariant-loop
invariant-loop l = (times (next_variable l.version l.dimensions) (l.count - l.counter) l.variables l.rest ≡ times (next_variable l.version l.dimensions) l.count [] l.bytes) × AreSameNames l.names (map (λ b. b.name) l.variables) × (l.sum ≡ shares l.dimensions l.variables) × (l.sum ≤ 2 ^ 62)
