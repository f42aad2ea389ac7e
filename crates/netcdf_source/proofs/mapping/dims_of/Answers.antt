use Rattle.netcdf_source.specs.inner.Told.{AreSmall}
use Rattle.netcdf_source.proofs.mapping.dims_of.Goals as goal

pub dim_of-requires-clause-size : goal.dim_of-requires-clause-size
unfolding AreSmall
dim_of-requires-clause-size c = c.requires.sizes c.loop-id.id-index 0 c.loop-id-test.true
