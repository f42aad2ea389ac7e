use Rattle.netcdf_source.proofs.HeaderNames.{dataset_has_words}
use Rattle.netcdf_source.proofs.laws.dataset_has_words.Goals as goal

pub returns : goal.returns
returns c = record { law = dataset_has_words }
