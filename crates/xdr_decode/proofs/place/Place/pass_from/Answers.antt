use Rattle.std.proofs.Common.{◌≡◌, ◌-◌, ◌≤◌, ◌∙◌, List, ℕ, [], None, ap, drop, subst, arith}
use Rattle.dap_types.specs.View.{members_view}
use Rattle.xdr_decode.proofs.Asking.{some_spot}
use Rattle.xdr_decode.proofs.Passed.{passed_nowhere, passed_to}
use Rattle.xdr_decode.specs.inner.Places.{spot, wants_left}
use Rattle.xdr_decode.proofs.place.Place.pass_from.Goals as goal

pub returns-in-Some-clause-wants : goal.returns-in-Some-clause-wants
returns-in-Some-clause-wants c = λ room placed here none left.
    let ms = members_view c.args.decls.now in
    let p = c.args.self.now in
    let from : ℕ = c.args.from in
    let at : ℕ = c.saturating_add-at.result in
    let lent = c.in-Some.ensures [] in
    let is = some_spot ms c.path.result.now p.path.items lent.0 c.path.ensures lent.1 in
    let to : at - from ≡ c.args.more = omega (arith, c.saturating_add-at.ensures, left, c.ranges.count.fits) in
    let low : from ≤ at = omega (arith, c.saturating_add-at.ensures, c.ranges.from.fits) in
    let on = passed_to ms p c.settle.new.self lent.0 c.in-Some.leaf c.elements_from-stage.result from at c.args.count none is lent.2 placed here low (omega (arith, to, left))
    c.elements_from-stage.ensures.wants c.elements_from-stage.ensures.stage (c.settle.ensures.settled room) in
    (on.0 ∙ ap (λ k. drop k (wants_left ms p)) to, on.1)

pub returns-in-None-clause-wants : goal.returns-in-None-clause-wants
returns-in-None-clause-wants c = λ room placed here none left.
    let P : List ℕ → Type 0 = λ p. spot p [] (members_view c.args.decls.now) ≡ None in
    passed_nowhere (members_view c.args.decls.now) c.args.self.now c.args.more none (subst P c.path.ensures (c.in-None.ensures [])) placed
