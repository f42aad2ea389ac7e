use Rattle.std.proofs.Common.{◌<◌, ◌^◌, arith}
use Rattle.netcdf_writer.specs.Variables.{room_by_itself}
use Rattle.netcdf_writer.specs.inner.Tables.{variable_view}
use Rattle.netcdf_writer.proofs.Headers.{fixed_summed}
use Rattle.netcdf_writer.proofs.header.fixed_bytes.Goals as goal

pub overflow_add-bytes : goal.overflow_add-bytes
overflow_add-bytes c =
    let sum = fixed_summed c.args.variables.now c.loop-variable.variable-index c.variable-item.result c.loop-variable-test.true c.variable-item.is in
    let few : room_by_itself (variable_view c.variable-item.result) < 2 ^ 32 = omega (arith, sum.1, c.requires) in
    let same = c.room_by_itself-bytes.ensures few in
    omega (arith, sum.1, c.requires, same, c.loop-variable.invariant)

pub loop-variable-preserved : goal.loop-variable-preserved
loop-variable-preserved c =
    let sum = fixed_summed c.args.variables.now c.loop-variable.variable-index c.variable-item.result c.loop-variable-test.true c.variable-item.is in
    let few : room_by_itself (variable_view c.variable-item.result) < 2 ^ 32 = omega (arith, sum.1, c.requires) in
    let same = c.room_by_itself-bytes.ensures few in
    omega (arith, sum.0, same, c.loop-variable.invariant)
