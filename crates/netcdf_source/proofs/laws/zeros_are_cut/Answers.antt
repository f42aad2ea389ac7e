use Rattle.netcdf_source.proofs.Zeros.{zeros_are_cut}
use Rattle.netcdf_source.proofs.laws.zeros_are_cut.Goals as goal

pub returns : goal.returns
returns c = record { law = zeros_are_cut }
