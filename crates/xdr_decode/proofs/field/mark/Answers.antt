use Rattle.xdr_decode.proofs.Judging.{row_good, end_good, mark_bad}
use Rattle.xdr_decode.proofs.field.mark.Goals as goal

pub returns-then-bits-eq1509949440-clause-good : goal.returns-then-bits-eq1509949440-clause-good
returns-then-bits-eq1509949440-clause-good c = λ want asks. row_good c.args.bits want c.if-bits-eq1509949440.true asks

pub returns-then-bits-eq2768240640-clause-good : goal.returns-then-bits-eq2768240640-clause-good
returns-then-bits-eq2768240640-clause-good c = λ want asks. end_good c.args.bits want c.if-bits-eq2768240640.true asks

pub returns-clause-bad : goal.returns-clause-bad
returns-clause-bad c = λ want asks. mark_bad c.args.bits want c.ranges.bits.fits c.if-bits-eq1509949440.false c.if-bits-eq2768240640.false asks
