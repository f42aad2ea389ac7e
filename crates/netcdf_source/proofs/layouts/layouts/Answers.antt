use Rattle.std.proofs.Common.{◌<◌, length}
use Rattle.netcdf_source.proofs.Steps.{steps_at}
use Rattle.netcdf_source.proofs.layouts.layouts.Goals as goal

pub told_layout-requires-clause-steps : goal.told_layout-requires-clause-steps
told_layout-requires-clause-steps c =
    let vs = c.args.contents.now.variables in
    let lt : c.loop-variable.variable-index < length vs = rw (← c.items-variable-items.ensures) c.loop-variable-test.true in
    rw (c.variable-item.is, c.items-variable-items.ensures) (steps_at c.args.contents.now vs c.requires.steps c.loop-variable.variable-index _ lt)
