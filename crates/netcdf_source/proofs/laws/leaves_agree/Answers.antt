use Rattle.netcdf_source.proofs.Members.{leaves_agree}
use Rattle.netcdf_source.proofs.laws.leaves_agree.Goals as goal

pub returns : goal.returns
returns c = record { law = leaves_agree }
