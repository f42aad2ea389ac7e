use Rattle.dap_outside.proofs.Fronts.{on_err}
use Rattle.dap_commands.proofs.Pieces.{pieces-front}
use Rattle.dap_commands.proofs.lines.put_each.Goals as goal

pub returns-in_err-put_all-clause-err : goal.returns-in_err-put_all-clause-err
returns-in_err-put_all-clause-err g c =
    on_err _ _ (pieces-front _ _ _ c.args.pieces.now c.loop-piece.piece-index _ c.loop-piece-test.true c.loop-piece.invariant.bytes c.in_err-put_all.ensures.err)
