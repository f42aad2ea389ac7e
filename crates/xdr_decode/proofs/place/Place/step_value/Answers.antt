use Rattle.std.proofs.Common.{subst, ◌≡◌, List, ℕ, [], None}
use Rattle.dap_types.specs.View.{members_view}
use Rattle.xdr_decode.proofs.Asking.{next_some, some_spot}
use Rattle.xdr_decode.proofs.Moving.{stepped, stepped_nowhere}
use Rattle.xdr_decode.specs.inner.Places.{spot}
use Rattle.xdr_decode.proofs.place.Place.step_value.Goals as goal

pub returns-in-Some-clause-wants : goal.returns-in-Some-clause-wants
returns-in-Some-clause-wants c = λ w ws f none room placed early first goes read.
    let ms = members_view c.args.decls.now in
    let lent = c.in-Some.ensures [] in
    let at = some_spot ms c.path.result.now c.args.self.now.path.items lent.0 c.path.ensures lent.1 in
    let stays = (next_some ms c.args.self.now lent.0 none at placed).1 in
    (stepped ms c.args.self.now (record { path = c.args.self.now.path; stage = c.args.self.now.stage; text = c.behind_token-self.result }) c.settle.new.self c.args.token c.behind-stage.result lent.0 w ws f none placed at (c.behind-stage.ensures.moves lent.0.above lent.0.leaf lent.2 stays early)
    (c.settle.ensures.settled room) c.behind_token-self.ensures at first goes read).0

pub returns-in-Some-clause-placed : goal.returns-in-Some-clause-placed
returns-in-Some-clause-placed c = λ w ws f none room placed early first goes read.
    let ms = members_view c.args.decls.now in
    let lent = c.in-Some.ensures [] in
    let at = some_spot ms c.path.result.now c.args.self.now.path.items lent.0 c.path.ensures lent.1 in
    let stays = (next_some ms c.args.self.now lent.0 none at placed).1 in
    (stepped ms c.args.self.now (record { path = c.args.self.now.path; stage = c.args.self.now.stage; text = c.behind_token-self.result }) c.settle.new.self c.args.token c.behind-stage.result lent.0 w ws f none placed at (c.behind-stage.ensures.moves lent.0.above lent.0.leaf lent.2 stays early)
    (c.settle.ensures.settled room) c.behind_token-self.ensures at first goes read).1

pub returns-in-None-clause-wants : goal.returns-in-None-clause-wants
returns-in-None-clause-wants c = λ w ws f none room placed early first goes read.
    let P : List ℕ → Type 0 = λ p. spot p [] (members_view c.args.decls.now) ≡ None in
    absurd (stepped_nowhere (members_view c.args.decls.now) c.args.self.now w ws none (subst P c.path.ensures (c.in-None.ensures [])) first)
