use Rattle.std.proofs.Common.{ap, length, arith}
use Rattle.netcdf_source.proofs.Counted.{few_members}
use Rattle.netcdf_source.proofs.file.Header.members.Goals as goal

pub overflow_cast-result : goal.overflow_cast-result
overflow_cast-result c = omega (arith, c.len.ensures, ap length c.self.invariant.3, few_members c.self.inside.contents c.self.invariant.0)
