use Rattle.std.proofs.Common.{◌++◌, ◌+◌, take, arith, subst}
use Rattle.dap_errors.specs.Reading.{IsBad}
use Rattle.dap_client.proofs.Objects.{piece_end, piece_step, stray_in}
use Rattle.dap_client.proofs.object.trail.Goals as goal

pub returns-in-None-clause-object : goal.returns-in-None-clause-object
returns-in-None-clause-object c bytes is o more =
    subst (λ n. IsBad ((bytes ++ c.args.piece.now) ++ more) (n + c.loop-at.at)) is
    (stray_in bytes c.args.piece.now c.loop-at.at c.loop-at-test.true (rw c.in-None.is at (c.with_byte.ensures (bytes ++ take c.loop-at.at c.args.piece.now) c.args.object (c.loop-at.invariant.stands bytes is o))) more)

pub loop-at-preserved : goal.loop-at-preserved
loop-at-preserved c = record {
  within = omega (arith, c.loop-at-test.true);
  stands = λ bytes is o. piece_step bytes c.args.piece.now c.loop-at.at c.args.object c.in-Some.came c.loop-at-test.true (rw c.in-Some.is at (c.with_byte.ensures (bytes ++ take c.loop-at.at c.args.piece.now) c.args.object (c.loop-at.invariant.stands bytes is o)));
}

pub returns-clause-object : goal.returns-clause-object
returns-clause-object c bytes is o = piece_end bytes c.args.piece.now c.loop-at.at c.args.object c.loop-at.semicolon (omega (arith, c.loop-at-test.false)) (c.loop-at.invariant.stands bytes is o)
