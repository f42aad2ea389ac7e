use Rattle.std.proofs.Common.{length}
use Rattle.xdr_decode.proofs.ArrayElements.{RowsRead}
use Rattle.xdr_decode.proofs.trees.rows.Given as goal

abbrev pub invariant-loop-rows : goal.invariant-loop-rows
invariant-loop-rows l = RowsRead l.columns l.rows l.bytes l.rest

abbrev pub decreases-loop-rows : goal.decreases-loop-rows
decreases-loop-rows l = length l.rest
