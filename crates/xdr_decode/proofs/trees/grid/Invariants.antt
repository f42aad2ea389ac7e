use Rattle.std.proofs.Common.{◌+◌, ◌∷◌}
use Rattle.xdr_decode.proofs.Turns.{ArraysRead}
use Rattle.xdr_decode.proofs.trees.grid.Given as goal

abbrev pub invariant-loop-map : goal.invariant-loop-map
invariant-loop-map l = ArraysRead (l.own ∷ l.maps) (l.map-index + 1) l.trees l.bytes l.rest
