use Rattle.xdr_decode.proofs.Lined.{Same}
use Rattle.xdr_decode.proofs.data_line.literal.Given as goal

abbrev pub invariant-loop-at : goal.invariant-loop-at
invariant-loop-at l = Same l.bytes l.text l.at
