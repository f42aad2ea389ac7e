use Rattle.std.proofs.Common.{sym, ◌∙◌, subst}
use Rattle.netcdf_writer.specs.inner.Planned.{AreTops}
use Rattle.netcdf_writer.proofs.Listing.{no_tops, tops_all, tops_more, top_views_more}
use Rattle.netcdf_writer.proofs.plan.by_name.Goals as goal

pub loop-top-init : goal.loop-top-init
loop-top-init c = no_tops _ c.new-names.ensures

pub loop-top-preserved : goal.loop-top-preserved
loop-top-preserved c =
    subst (AreTops c.add.new.self) (sym (top_views_more c.args.tops.now c.loop-top.top-index c.top-item.result c.loop-top-test.true c.top-item.is))
    (tops_more c.loop-top.names c.add.new.self _ c.top-item.result _ c.loop-top.invariant c.in_ok-add.ensures (c.bytes.ensures ∙ c.name.ensures))

pub returns : goal.returns
returns c = tops_all _ c.args.tops.now c.loop-top.top-index c.loop-top-test.false c.loop-top.invariant
