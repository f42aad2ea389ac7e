use Rattle.std.proofs.Common.{[]}
use Rattle.dap_types.specs.View.{members_view}
use Rattle.xdr_decode.proofs.Asking.{some_spot}
use Rattle.xdr_decode.proofs.Passed.{runs}
use Rattle.xdr_decode.proofs.place.Place.numbers_of.Goals as goal

pub returns-in-Some-clause-numbers : goal.returns-in-Some-clause-numbers
returns-in-Some-clause-numbers c = λ at all here none many placed.
    let ms = members_view c.args.decls.now in
    let lent = c.in-Some.ensures [] in
    let is = some_spot ms c.path.result.now c.args.self.now.path.items lent.0 c.path.ensures lent.1 in
    runs ms c.args.self.now lent.0 c.run_of.result at all c.args.count none is placed here many (c.run_of.ensures.elements lent.0.leaf lent.2) c.run_of.ensures.count
