use Rattle.std.proofs.Common.{length, ◌-◌, ◌≤◌, List}
use Rattle.viable.specs.Quoted.{Piece, ArePieces}
use Rattle.viable.proofs.quoted.pieces_end.Given as goal

abbrev pub invariant-loop-at : goal.invariant-loop-at
invariant-loop-at l = record {
  low : l.from ≤ l.at;
  high : l.at ≤ length l.text;
  pieces : (pieces : List Piece) × ArePieces l.text l.from l.at pieces;
}

abbrev pub decreases-loop-at : goal.decreases-loop-at
decreases-loop-at l = length l.text - l.at
