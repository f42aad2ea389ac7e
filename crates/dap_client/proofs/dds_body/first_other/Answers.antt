use Rattle.std.proofs.Common.{◌∙◌, sym, arith}
use Rattle.dap_client.proofs.DdsBodies.{all_white, more_white}
use Rattle.dap_client.proofs.dds_body.first_other.Goals as goal

pub loop-at-preserved : goal.loop-at-preserved
loop-at-preserved c = record {
  within = omega (arith, c.loop-at-test.true);
  white = more_white c.args.piece.now c.loop-at.at c.loop-at-test.true c.loop-at.invariant.white (sym c.is_white.ensures ∙ c.if-not-is_white.false);
}

pub returns : goal.returns
returns c = all_white c.args.piece.now c.loop-at.at (omega (arith, c.loop-at-test.false)) c.loop-at.invariant.white
