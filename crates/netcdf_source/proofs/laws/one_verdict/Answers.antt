use Rattle.netcdf_source.proofs.OneVerdict.{one_verdict}
use Rattle.netcdf_source.proofs.laws.one_verdict.Goals as goal

pub returns : goal.returns
returns c = record { law = one_verdict }
