use Rattle.std.proofs.Common.{length}
use Rattle.xdr_decode.proofs.line.+put_indexes.Given as goal

abbrev pub decreases-put_indexes : goal.decreases-put_indexes
decreases-put_indexes g l = length l.dims.now
