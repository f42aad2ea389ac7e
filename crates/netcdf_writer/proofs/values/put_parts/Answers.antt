use Rattle.std.proofs.Common.{◌∙◌}
use Rattle.dap_outside.proofs.Passing.{puts_failed, way_ends, way_failed, way_more}
use Rattle.netcdf_writer.proofs.Listing.{data_end, data_step, filled_step}
use Rattle.netcdf_writer.proofs.values.put_parts.Goals as goal

pub put_fixed-requires : goal.put_fixed-requires
put_fixed-requires g c = (filled_step c.args.variables.now c.loop-variable.variable-index c.variable-item.result c.loop-variable-test.true c.variable-item.is c.loop-variable.invariant.filled).0

pub returns-in_err-put_fixed-clause-puts : goal.returns-in_err-put_fixed-clause-puts
returns-in_err-put_fixed-clause-puts g c =
    puts_failed c.from_residual.result _ _ _ _ _ c.from_residual.ensures.0
    (way_failed _ _ _ _ _ _ _ _ _ (data_step c.args.variables.now c.loop-variable.variable-index c.variable-item.result c.loop-variable-test.true c.variable-item.is) c.loop-variable.invariant.way c.in_err-put_fixed.ensures.puts)

pub loop-variable-preserved : goal.loop-variable-preserved
loop-variable-preserved g c =
    let kept = c.loop-variable.invariant in
    record {
      way = way_more _ _ _ _ _ _ _ _ _ _ (data_step c.args.variables.now c.loop-variable.variable-index c.variable-item.result c.loop-variable-test.true c.variable-item.is) kept.way c.in_ok-put_fixed.ensures.puts;
      filled = (filled_step c.args.variables.now c.loop-variable.variable-index c.variable-item.result c.loop-variable-test.true c.variable-item.is kept.filled).1;
      count = c.in_ok-put_fixed.ensures.cause.kept ∙ kept.count;
      beside = c.put_fixed.ensures.beside ∙ kept.beside;
    }

pub returns-clause-puts : goal.returns-clause-puts
returns-clause-puts g c = way_ends _ _ _ _ _ _ (data_end c.args.variables.now c.loop-variable.variable-index c.loop-variable-test.false) c.loop-variable.invariant.way
