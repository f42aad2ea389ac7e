use Rattle.std.proofs.Common.{sym, subst}
use Rattle.dap_types.specs.Model.{array}
use Rattle.xdr_decode.specs.inner.Moving.{Moves}
use Rattle.xdr_decode.specs.inner.Places.{IsStage}
use Rattle.xdr_decode.proofs.place.behind_in_array.Goals as goal

pub returns-in-Elements-clause-moves : goal.returns-in-Elements-clause-moves
returns-in-Elements-clause-moves c = λ above t placed.
    subst (λ s. Moves above (array c.args.decl.now) s t c.behind_element.result) (sym c.in-Elements.is) (c.behind_element.ensures.moves above t (subst (IsStage (array c.args.decl.now)) c.in-Elements.is placed))
