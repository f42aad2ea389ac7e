use Rattle.netcdf_source.proofs.Joined.{dataset_is_well_formed}
use Rattle.netcdf_source.proofs.laws.dataset_is_well_formed.Goals as goal

pub returns : goal.returns
returns c = record { law = dataset_is_well_formed }
