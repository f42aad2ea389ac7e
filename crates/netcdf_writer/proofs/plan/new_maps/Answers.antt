use Rattle.std.proofs.Common.{}
use Rattle.netcdf_writer.specs.inner.Planned.{new_in}
use Rattle.netcdf_writer.proofs.Listing.{keep_end, keep_step}
use Rattle.netcdf_writer.proofs.plan.new_maps.Goals as goal

pub loop-map-preserved : goal.loop-map-preserved
loop-map-preserved c =
    keep_step (new_in c.args.names.now c.args.maps.now) c.args.own.now c.loop-map.map-index c.map-item.result _ _ _ c.loop-map-test.true c.map-item.is c.loop-map.invariant c.in_ok-push_new.ensures

pub returns : goal.returns
returns c = keep_end (new_in c.args.names.now c.args.maps.now) c.args.own.now c.loop-map.map-index _ _ c.loop-map-test.false c.loop-map.invariant
