use Rattle.std.proofs.Common.{◌≡◌, ◌+◌, [], take, drop, sum_by}
use Rattle.dap_types.specs.Model.{count}
use Rattle.netcdf_writer.specs.Causes.{first_cause}
use Rattle.netcdf_writer.specs.inner.Planned.{IsPlanned}
use Rattle.netcdf_writer.specs.inner.Tables.{top_views}
use Rattle.netcdf_writer.proofs.plan.planned.Given as goal

abbrev pub invariant-loop-top : goal.invariant-loop-top
invariant-loop-top l = record {
  planned : IsPlanned l.plan (top_views l.tops) (top_views (take l.top-index l.tops));
  number : l.number ≡ 1 + sum_by (λ top. count top.0) (top_views (take l.top-index l.tops));
  cause : first_cause (top_views l.tops) [] 1 (top_views l.tops) ≡ first_cause (top_views l.tops) (top_views (take l.top-index l.tops)) l.number (top_views (drop l.top-index l.tops));
}
