use Rattle.xdr_decode.proofs.Judging.{number_good, number_bad}
use Rattle.xdr_decode.proofs.field.number.Goals as goal

pub returns-in-Some-clause-good : goal.returns-in-Some-clause-good
returns-in-Some-clause-good c = λ want whole asks. number_good c.args.base c.args.bits c.in-Some.whole want c.in-Some.ensures c.ranges.bits.fits whole asks

pub returns-in-None-clause-bad : goal.returns-in-None-clause-bad
returns-in-None-clause-bad c = λ want whole asks. number_bad c.args.base c.args.bits want c.in-None.ensures c.ranges.bits.fits whole asks
