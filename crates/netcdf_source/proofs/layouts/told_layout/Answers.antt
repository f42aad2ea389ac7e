use Rattle.std.proofs.Common.{sym, ◌∙◌}
use Rattle.netcdf_source.proofs.Offered.{offered_size}
use Rattle.netcdf_source.proofs.layouts.told_layout.Goals as goal

pub layout-requires-clause-size : goal.layout-requires-clause-size
layout-requires-clause-size c = offered_size c.args.contents.now c.args.variable.now (sym c.is_offered.ensures ∙ c.if-is_offered.true)
