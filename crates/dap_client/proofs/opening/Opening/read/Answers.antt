use Rattle.std.proofs.Common.{◌++◌, take}
use Rattle.dap_client.proofs.Openings.{whole_in}
use Rattle.dap_client.proofs.opening.Opening.read.Goals as goal

pub returns-in-Whole : goal.returns-in-Whole
returns-in-Whole c bytes o =
    whole_in bytes c.args.piece.now c.loop-byte.byte-index c.loop-byte-test.true (rw c.in-Whole.is at (c.next.ensures (bytes ++ take c.loop-byte.byte-index c.args.piece.now) (c.loop-byte.invariant.stands bytes o)))
