use Rattle.xdr_decode.proofs.Turns.{CellsRead}
use Rattle.xdr_decode.proofs.trees.cells.Given as goal

abbrev pub invariant-loop-column : goal.invariant-loop-column
invariant-loop-column l = CellsRead l.columns l.column-index l.cells l.bytes l.rest
