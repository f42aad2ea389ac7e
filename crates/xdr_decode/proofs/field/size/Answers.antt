use Rattle.std.proofs.Common.{arith}
use Rattle.xdr_decode.proofs.Judging.{size_good, size_bad}
use Rattle.xdr_decode.proofs.field.size.Goals as goal

pub returns-then-bits-gt2147483647-clause-bad : goal.returns-then-bits-gt2147483647-clause-bad
returns-then-bits-gt2147483647-clause-bad c = λ want base txt asks. size_bad base c.args.bits want (omega (arith, c.if-bits-gt2147483647.true)) c.ranges.bits.fits txt asks

pub returns-else-bits-gt2147483647-clause-good : goal.returns-else-bits-gt2147483647-clause-good
returns-else-bits-gt2147483647-clause-good c = λ want base txt asks. size_good base c.args.bits want (omega (arith, c.if-bits-gt2147483647.false)) txt asks
