use Rattle.std.proofs.Common.{◌≡◌, ◌≤◌, ◌^◌, min, ◌+◌, arith}
use Rattle.netcdf_source.specs.Parts.{part}
use Rattle.netcdf_source.specs.inner.Sound.{HasSize}
use Rattle.netcdf_source.proofs.extents.part_of.Goals as goal

pub returns-clause-part : goal.returns-clause-part
unfolding HasSize
returns-clause-part c =
    let fits : part c.args.dimensions.now c.args.variable.now.dimensions c.args.variable.now.external_type ≤ 2 ^ 62 = c.requires in
    let e : c.part.result ≡ min (part c.args.dimensions.now c.args.variable.now.dimensions c.args.variable.now.external_type) (2 ^ 62 + 1) = rw (← c.items.ensures) c.part.ensures in
    omega (arith, fits, e)

pub returns-clause-limit : goal.returns-clause-limit
unfolding HasSize
returns-clause-limit c =
    let fits : part c.args.dimensions.now c.args.variable.now.dimensions c.args.variable.now.external_type ≤ 2 ^ 62 = c.requires in
    let e : c.part.result ≡ min (part c.args.dimensions.now c.args.variable.now.dimensions c.args.variable.now.external_type) (2 ^ 62 + 1) = rw (← c.items.ensures) c.part.ensures in
    omega (arith, fits, e)
