use Rattle.std.proofs.Common.{arith, sym}
use Rattle.viable.proofs.Runs.{run_more}
use Rattle.constraint_parse.proofs.scan.run_end.Goals as goal

pub loop-to-preserved : goal.loop-to-preserved
loop-to-preserved c = record {
  low = omega arith;
  high = omega arith;
  run = (_, run_more _ _ _ _ c.loop-to.invariant.run.0 c.loop-to.invariant.run.1 c.loop-to-test.true (sym c.if-is_in.ensures));
}
