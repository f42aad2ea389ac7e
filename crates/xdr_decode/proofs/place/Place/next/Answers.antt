use Rattle.std.proofs.Common.{◌≡◌, List, ℕ, [], None, inl, inr, sym, subst}
use Rattle.dap_types.specs.View.{members_view}
use Rattle.xdr_decode.proofs.Asking.{asks_more, next_none, next_some, next_padding, some_spot}
use Rattle.xdr_decode.proofs.place.Place.next.Goals as goal
use Rattle.xdr_decode.specs.inner.Places.{AsksFirst, spot, stage_wants}

pub returns-in-Padding-clause-next : goal.returns-in-Padding-clause-next
returns-in-Padding-clause-next c = λ placed. next_padding (members_view c.args.decls.now) c.args.self.now c.in-Padding.size c.fill.result c.in-Padding.is c.fill.ensures

pub returns-in-None-clause-next : goal.returns-in-None-clause-next
returns-in-None-clause-next c = λ placed.
    let P : List ℕ → Type 0 = λ p. spot p [] (members_view c.args.decls.now) ≡ None in
    next_none (members_view c.args.decls.now) c.args.self.now c.in-Nothing.is (subst P c.path.ensures (c.in-None.ensures []))

pub returns-in-Some-clause-next : goal.returns-in-Some-clause-next
returns-in-Some-clause-next c = λ placed.
    let lent = c.in-Some.ensures [] in
    let same = some_spot (members_view c.args.decls.now) c.path.result.now c.args.self.now.path.items lent.0 c.path.ensures lent.1 in
    let next = next_some (members_view c.args.decls.now) c.args.self.now lent.0 c.in-Nothing.is same placed in
    subst (AsksFirst c.next_of.result) (sym next.0) (asks_more c.next_of.result (stage_wants lent.0.above lent.0.leaf c.args.self.now.stage) lent.0.behind (c.next_of.ensures.asks lent.0.above lent.0.leaf lent.2 next.1))

pub returns-in-Padding-clause-empty : goal.returns-in-Padding-clause-empty
returns-in-Padding-clause-empty c = λ none. inl (c.in-Padding.size, c.in-Padding.is)

pub returns-in-Some-clause-empty : goal.returns-in-Some-clause-empty
returns-in-Some-clause-empty c = λ none.
    let lent = c.in-Some.ensures [] in
    let same = some_spot (members_view c.args.decls.now) c.path.result.now c.args.self.now.path.items lent.0 c.path.ensures lent.1 in
    inr (c.in-Nothing.is, c.next_of.ensures.empty none, lent.0, same)
