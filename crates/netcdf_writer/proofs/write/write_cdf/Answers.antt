use Rattle.std.proofs.Common.{map, ap, ◌∙◌}
use Rattle.dap_types.specs.View.{dataset_view, members_view, tree_view}
use Rattle.netcdf_writer.specs.Saved.{trees_in}
use Rattle.netcdf_writer.specs.Variables.{tops_of}
use Rattle.netcdf_writer.specs.inner.Tables.{top_views, variable_views}
use Rattle.netcdf_writer.proofs.Fitting.{stored_filled, tops_few}
use Rattle.netcdf_writer.proofs.write.write_cdf.Goals as goal

pub planned-requires : goal.planned-requires
planned-requires g c =
    let is = ap top_views c.deref.ensures.value ∙ c.in-Ok.ensures ∙ ap (λ l. tops_of (members_view l) (map tree_view c.items-2.result.now)) c.items.ensures
    ∙ ap (λ l. tops_of (members_view c.args.filled.now.dataset.members) (map tree_view l)) c.items-2.ensures in
    tops_few (dataset_view c.args.filled.now.dataset) (trees_in c.args.filled.now) (top_views c.deref.result.now) is c.requires.well_formed

pub write_planned-requires : goal.write_planned-requires
write_planned-requires g c =
    let is = ap top_views c.deref.ensures.value ∙ c.in-Ok.ensures ∙ ap (λ l. tops_of (members_view l) (map tree_view c.items-2.result.now)) c.items.ensures
    ∙ ap (λ l. tops_of (members_view c.args.filled.now.dataset.members) (map tree_view l)) c.items-2.ensures in
    let told = c.in-Ok-planned.ensures in
    let both = stored_filled (dataset_view c.args.filled.now.dataset) (trees_in c.args.filled.now) (top_views c.deref.result.now) (variable_views c.in-Ok-planned.plan.variables.items) is told.1.variables told.0 c.requires.fits c.requires.few in
    record { planned = (top_views c.deref.result.now, told.1); filled = both.0; few = both.1 }
