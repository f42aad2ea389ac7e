use Rattle.netcdf_source.proofs.FloatTexts.{text64}
use Rattle.netcdf_source.proofs.das.text64.Goals as goal

pub returns : goal.returns
returns c = text64 c.args.bits c.of64.result c.of64.ensures
