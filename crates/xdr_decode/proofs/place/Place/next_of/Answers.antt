use Rattle.std.proofs.Common.{sym, subst, ap, arith}
use Rattle.xdr_decode.proofs.Asking.{element_asked, element_wide, leaf_array}
use Rattle.xdr_decode.proofs.place.Place.next_of.Goals as goal
use Rattle.xdr_decode.specs.inner.Asked.{width_of}
use Rattle.xdr_decode.specs.inner.Places.{AsksFirst, stage_wants}

pub returns-in-Elements-clause-asks : goal.returns-in-Elements-clause-asks
returns-in-Elements-clause-asks c = λ above m is placed.
    subst (λ ask. AsksFirst ask (stage_wants above m c.args.self.now.stage)) (sym c.element.ensures)
    (element_asked above c.in-Array.array.now m c.args.self.now.stage c.in-Elements.field-0 c.in-Elements.field-1 c.in-Elements.is (leaf_array c.args.leaf c.in-Array.array m c.in-Array.is is) placed)

pub returns-in-Elements-clause-empty : goal.returns-in-Elements-clause-empty
returns-in-Elements-clause-empty c = λ none. absurd (omega (arith, element_wide c.in-Array.array.now.base, ap width_of c.element.ensures, none))
