use Rattle.netcdf_source.proofs.Fitting.{values_are_placed}
use Rattle.netcdf_source.proofs.laws.values_are_placed.Goals as goal

pub returns : goal.returns
returns c = record { law = values_are_placed }
