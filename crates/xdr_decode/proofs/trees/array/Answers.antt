use Rattle.std.proofs.Common.{◌++◌, IfErr, subst, sym}
use Rattle.dap_types.specs.Model.{product, sizes}
use Rattle.xdr_fields.specs.Wants.{array_wants}
use Rattle.xdr_decode.specs.inner.Taken.{Stops}
use Rattle.xdr_decode.proofs.trees.array.Goals as goal

pub returns-in-Byte-clause-stop : goal.returns-in-Byte-clause-stop
returns-in-Byte-clause-stop c = λ above.
    subst (λ b. IfErr c.packed.result (Stops (array_wants b (above ++ c.args.decl.now.name) (sizes c.args.decl.now) (product (sizes c.args.decl.now))) c.args.bytes.now)) (sym c.in-Byte.is)
    (rw c.items-dims.ensures at (c.packed.ensures.stop (above ++ c.args.decl.now.name)))

pub returns-in-Text-clause-stop : goal.returns-in-Text-clause-stop
returns-in-Text-clause-stop c = λ above.
    subst (λ b. IfErr c.texts.result (Stops (array_wants b (above ++ c.args.decl.now.name) (sizes c.args.decl.now) (product (sizes c.args.decl.now))) c.args.bytes.now)) (sym c.in-Text.is)
    (rw c.items-dims.ensures at (c.texts.ensures.stop (above ++ c.args.decl.now.name)))

pub returns-in-Url-clause-stop : goal.returns-in-Url-clause-stop
returns-in-Url-clause-stop c = λ above.
    subst (λ b. IfErr c.texts-in-Url.result (Stops (array_wants b (above ++ c.args.decl.now.name) (sizes c.args.decl.now) (product (sizes c.args.decl.now))) c.args.bytes.now)) (sym c.in-Url.is)
    (rw c.items-dims.ensures at (c.texts-in-Url.ensures.stop (above ++ c.args.decl.now.name)))

pub returns-in_default-clause-fits : goal.returns-in_default-clause-fits
returns-in_default-clause-fits c = rw c.items-dims.ensures at c.numbers.ensures.fits

pub returns-in_default-clause-read : goal.returns-in_default-clause-read
returns-in_default-clause-read c = c.numbers.ensures.read

pub returns-in_default-clause-stop : goal.returns-in_default-clause-stop
returns-in_default-clause-stop c = λ above. rw c.items-dims.ensures at (c.numbers.ensures.stop (above ++ c.args.decl.now.name))
