use Rattle.std.proofs.Common.{◌++◌, take}
use Rattle.dap_client.proofs.DataLines.{bad_in, ended_in}
use Rattle.dap_client.proofs.data_line.DataLine.read.Goals as goal

pub returns-in-Ended : goal.returns-in-Ended
returns-in-Ended c bytes o =
    ended_in bytes c.args.piece.now c.loop-at.at c.loop-at-test.true (rw c.in-Ended.is at (c.next.ensures (bytes ++ take c.loop-at.at c.args.piece.now) (c.loop-at.invariant.stands bytes o)))

pub returns-in-Differs : goal.returns-in-Differs
returns-in-Differs c bytes o =
    bad_in c.loop-at.line.come bytes c.args.piece.now c.loop-at.at c.loop-at-test.true (c.loop-at.invariant.stands bytes o) (rw c.in-Differs.is at (c.next.ensures (bytes ++ take c.loop-at.at c.args.piece.now) (c.loop-at.invariant.stands bytes o)))
