use Rattle.std.proofs.Common.{map, subst, sym}
use Rattle.join_source.specs.Bodies.{FitsFiles}
use Rattle.join_source.specs.Pieces.{AreTold}
use Rattle.dap_commands.proofs.answer.put_joined.Goals as goal

pub stream-requires-clause-fits : goal.stream-requires-clause-fits
stream-requires-clause-fits g c lifetimes outlive = subst (λ fs. FitsFiles c.args.body (map (g.S.Shelf.size_of c.args.shelf.now) fs)) (sym c.items_mut.ensures.value) c.requires.fits

pub returns-in-Sent-clause-put : goal.returns-in-Sent-clause-put
returns-in-Sent-clause-put g c = λ contents told. c.in-Sent.ensures.body contents (subst (λ fs. AreTold (map (g.S.Shelf.content c.args.shelf.now) fs) contents) (sym c.items_mut.ensures.value) told)

pub returns-in-ShelfFault-clause-put : goal.returns-in-ShelfFault-clause-put
returns-in-ShelfFault-clause-put g c = λ contents told. c.in-ShelfFault.ensures.body contents (subst (λ fs. AreTold (map (g.S.Shelf.content c.args.shelf.now) fs) contents) (sym c.items_mut.ensures.value) told)

pub returns-clause-put : goal.returns-clause-put
returns-clause-put g c = λ contents told. c.in-WriteFault.ensures.body contents (subst (λ fs. AreTold (map (g.S.Shelf.content c.args.shelf.now) fs) contents) (sym c.items_mut.ensures.value) told)

pub returns-clause-stops : goal.returns-clause-stops
returns-clause-stops g c = λ contents told is. c.in-WriteFault.ensures.stops contents (subst (λ fs. AreTold (map (g.S.Shelf.content c.args.shelf.now) fs) contents) (sym c.items_mut.ensures.value) told)
