use Rattle.netcdf_source.proofs.OneVerdict.{each_has_verdict}
use Rattle.netcdf_source.proofs.laws.each_has_verdict.Goals as goal

pub returns : goal.returns
returns c = record { law = each_has_verdict }
