use Rattle.std.proofs.Common.{◌∷◌, [], sym, subst, IfErr, IfOk}
use Rattle.xdr_decode.proofs.Valued.{other_fields, other_want}
use Rattle.xdr_decode.specs.inner.Taken.{Spelt, Stops, element_want}
use Rattle.xdr_decode.proofs.values.element.Goals as goal

pub returns-in-Byte-clause-stop : goal.returns-in-Byte-clause-stop
returns-in-Byte-clause-stop c = λ path. subst (λ b. IfErr c.packed.result (Stops (element_want b path ∷ []) c.args.bytes.now)) (sym c.in-Byte.is) (c.packed.ensures.stop path)

pub returns-in_default-clause-read : goal.returns-in_default-clause-read
returns-in_default-clause-read c = subst (λ f. IfOk c.value.result (λ r. Spelt (f r.0) c.args.bytes.now r.1.now)) (sym (other_fields c.args.base c.in_default.not-Byte)) c.value.ensures.read

pub returns-in_default-clause-stop : goal.returns-in_default-clause-stop
returns-in_default-clause-stop c = λ path. subst (λ w. IfErr c.value.result (Stops (w ∷ []) c.args.bytes.now)) (sym (other_want c.args.base path c.in_default.not-Byte)) (c.value.ensures.stop path)
