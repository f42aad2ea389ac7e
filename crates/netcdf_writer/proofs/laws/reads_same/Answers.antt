use Rattle.netcdf_writer.proofs.ReadsSame.{reads_same}
use Rattle.netcdf_writer.proofs.laws.reads_same.Goals as goal

pub returns : goal.returns
returns c = record { law = reads_same }
