use Rattle.std.proofs.Common.{take}
use Rattle.netcdf_writer.specs.inner.Planned.{AreTops}
use Rattle.netcdf_writer.specs.inner.Tables.{top_views}
use Rattle.netcdf_writer.proofs.plan.by_name.Given as goal

abbrev pub invariant-loop-top : goal.invariant-loop-top
invariant-loop-top l = AreTops l.names (top_views (take l.top-index l.tops))
