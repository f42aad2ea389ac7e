use Rattle.netcdf_writer.proofs.Deciding.{first_bytes_decide}
use Rattle.netcdf_writer.proofs.laws.first_bytes_decide.Goals as goal

pub returns : goal.returns
returns c = record { law = first_bytes_decide }
