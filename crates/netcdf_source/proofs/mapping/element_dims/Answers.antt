use Rattle.netcdf_source.proofs.Offered.{elements_small}
use Rattle.netcdf_source.proofs.mapping.element_dims.Goals as goal

pub dims_of-requires-clause-sizes : goal.dims_of-requires-clause-sizes
dims_of-requires-clause-sizes c = rw c.element_dimensions-ids.ensures (elements_small c.args.contents.now c.args.variable.now c.requires.offered)
