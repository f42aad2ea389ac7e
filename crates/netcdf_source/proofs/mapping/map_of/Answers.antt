use Rattle.netcdf_source.proofs.MapNames.{map_offered}
use Rattle.netcdf_source.proofs.mapping.map_of.Goals as goal

pub element_dims-requires-clause-offered : goal.element_dims-requires-clause-offered
element_dims-requires-clause-offered c = map_offered c.args.contents.now c.args.id c.args.variable.now c.requires.coordinate
