use Rattle.std.proofs.Common.{sym, subst}
use mir.Val.{to_z, of_z}
use Rattle.std.specs.Int.{w64}
use Rattle.xdr_decode.specs.inner.Asked.{IsGood}
use Rattle.xdr_decode.specs.declared.field.Token.TheVariants.{Whole}
use Rattle.xdr_decode.proofs.Judging.{packed_good}
use Rattle.xdr_decode.proofs.field.packed.Goals as goal

pub returns : goal.returns
returns c = record { good = λ want own is asks. subst (λ z. IsGood want own (Whole (to_z w64 (of_z w64 z)))) (sym c.from.ensures) (packed_good own c.args.byte want is c.ranges.byte.fits asks) }
