use Rattle.std.proofs.Common.{◌≡◌, ◌-◌}
use Rattle.netcdf_source.specs.inner.Unread.{behind_at}
use Rattle.netcdf_source.proofs.attributes.behind.Given as goal

abbrev pub invariant-loop : goal.invariant-loop
invariant-loop l = behind_at l.version (l.count - l.counter) l.rest ≡ behind_at l.version l.count l.bytes
