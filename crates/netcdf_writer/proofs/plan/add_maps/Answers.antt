use Rattle.std.proofs.Common.{◌++◌, append_assoc, sym, ap, ◌∙◌, subst, take}
use Rattle.netcdf_writer.specs.inner.Planned.{AreMaps}
use Rattle.netcdf_writer.specs.inner.Tables.{variable_views}
use Rattle.netcdf_writer.proofs.Listing.{maps_more, views_more}
use Rattle.netcdf_writer.proofs.plan.add_maps.Goals as goal

pub loop-map-preserved : goal.loop-map-preserved
loop-map-preserved c earlier are =
    let front = variable_views (take c.loop-map.map-index c.args.own.now) in
    subst (AreMaps c.add.new.self)
    (append_assoc earlier front _ ∙ ap (λ l. earlier ++ l) (sym (views_more c.args.own.now c.loop-map.map-index c.map-item.result c.loop-map-test.true c.map-item.is)))
    (maps_more c.loop-map.maps c.add.new.self _ c.map-item.result (earlier ++ front) (c.loop-map.invariant earlier are) c.in_ok-add.ensures c.bytes.ensures)
