use Rattle.std.proofs.Common.{}
use Rattle.netcdf_writer.proofs.Dimensions.{no_dims}
use Rattle.netcdf_writer.proofs.dims.Dims.new.Goals as goal

pub returns : goal.returns
returns c = no_dims _ c.new.ensures.items c.new-2.ensures
