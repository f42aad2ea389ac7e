use Rattle.std.proofs.Common.{subst}
use Rattle.xdr_decode.proofs.Judging.{float_good}
use Rattle.xdr_decode.specs.inner.Asked.{Asks}
use Rattle.xdr_decode.specs.declared.field.Ask.TheVariants.{Value}
use Rattle.xdr_decode.proofs.field.value.Goals as goal

pub returns-in-Float32-clause-good : goal.returns-in-Float32-clause-good
returns-in-Float32-clause-good c = λ want apart asks. float_good c.args.bits want c.ranges.bits.fits (subst (λ b. Asks (Value b) want) c.in-Float32.is asks)
