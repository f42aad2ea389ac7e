use Rattle.netcdf_source.proofs.FloatTexts.{text32}
use Rattle.netcdf_source.proofs.das.text32.Goals as goal

pub returns : goal.returns
returns c = text32 c.args.bits c.of32.result c.of32.ensures
