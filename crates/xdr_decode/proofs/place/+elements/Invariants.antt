use Rattle.std.proofs.Common.{length}
use Rattle.xdr_decode.proofs.place.+elements.Given as goal

abbrev pub decreases-elements : goal.decreases-elements
decreases-elements l = length l.dims.now
