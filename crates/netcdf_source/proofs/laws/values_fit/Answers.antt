use Rattle.netcdf_source.proofs.Fitting.{values_fit}
use Rattle.netcdf_source.proofs.laws.values_fit.Goals as goal

pub returns : goal.returns
returns c = record { law = values_fit }
