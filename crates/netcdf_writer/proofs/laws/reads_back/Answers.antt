use Rattle.netcdf_writer.proofs.ReadsBack.{reads_back}
use Rattle.netcdf_writer.proofs.laws.reads_back.Goals as goal

pub returns : goal.returns
returns c = record { law = reads_back }
