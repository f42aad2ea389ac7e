use Rattle.xdr_decode.proofs.Judging.{filler_good, filler_bad}
use Rattle.xdr_decode.proofs.field.filler.Goals as goal

pub returns-then-is_zeros-clause-good : goal.returns-then-is_zeros-clause-good
returns-then-is_zeros-clause-good c = λ want asks. filler_good c.args.count c.args.own.now want c.requires c.if-is_zeros.ensures asks

pub returns-else-is_zeros-clause-bad : goal.returns-else-is_zeros-clause-bad
returns-else-is_zeros-clause-bad c = λ want asks. filler_bad c.args.count c.args.own.now want c.requires c.if-is_zeros.ensures asks
