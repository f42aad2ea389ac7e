use Rattle.std.proofs.Common.{arith, refl}
use Rattle.xdr_decode.proofs.Moving.{moves_element}
use Rattle.xdr_decode.proofs.place.behind_element.Goals as goal

pub returns-clause-moves : goal.returns-clause-moves
returns-clause-moves c = λ above t placed.
    moves_element above c.args.decl.now _ c.behind_elements.result t c.args.at c.args.count c.saturating_add.result refl placed (omega (arith, placed.1, c.saturating_add.ensures, c.ranges.count.fits))
    (c.behind_elements.ensures.wants above) c.behind_elements.ensures.stage
