use Rattle.std.proofs.Common.{sym, ◌∙◌}
use Rattle.xdr_decode.proofs.Judging.{count_good, count_bad}
use Rattle.xdr_decode.proofs.field.count.Goals as goal

pub returns-then-from-wanted-clause-good : goal.returns-then-from-wanted-clause-good
returns-then-from-wanted-clause-good c = λ want asks. count_good c.args.wanted c.args.bits want (sym c.if-from-wanted.true ∙ c.from.ensures) c.ranges.bits.fits asks

pub returns-else-from-wanted-clause-bad : goal.returns-else-from-wanted-clause-bad
returns-else-from-wanted-clause-bad c = λ want asks. count_bad c.args.wanted c.args.bits want (λ same. c.if-from-wanted.false (c.from.ensures ∙ same)) c.ranges.bits.fits asks
