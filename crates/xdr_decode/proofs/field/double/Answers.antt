use Rattle.xdr_decode.proofs.Judging.{double_good}
use Rattle.xdr_decode.proofs.field.double.Goals as goal

pub returns : goal.returns
returns c = record { good = λ want own is asks. double_good own c.args.bits want is c.ranges.bits.fits asks }
