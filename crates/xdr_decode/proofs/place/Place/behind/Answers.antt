use Rattle.std.proofs.Common.{refl, sym, subst}
use Rattle.xdr_decode.proofs.Asking.{leaf_array}
use Rattle.xdr_decode.proofs.Moving.{leaf_sequence}
use Rattle.xdr_decode.specs.inner.Moving.{Moves}
use Rattle.xdr_decode.specs.inner.Places.{IsStage}
use Rattle.xdr_decode.proofs.place.Place.behind.Goals as goal

pub returns-in-Array-clause-moves : goal.returns-in-Array-clause-moves
returns-in-Array-clause-moves c = λ above m is placed early.
    let same = leaf_array c.args.leaf c.in-Array.decl m c.in-Array.is is in
    subst (λ n. Moves above n c.args.self.now.stage c.args.token c.behind_in_array.result) same
    (c.behind_in_array.ensures.moves above c.args.token (subst (λ n. IsStage n c.args.self.now.stage) (sym same) placed))

pub returns-in-Sequence-clause-moves : goal.returns-in-Sequence-clause-moves
returns-in-Sequence-clause-moves c = λ above m is placed early.
    let same = leaf_sequence c.args.leaf c.in-Sequence.field-0 c.in-Sequence.columns m c.in-Sequence.is is in
    subst (λ n. Moves above n c.args.self.now.stage c.args.token c.behind_in_rows.result) same
    (c.behind_in_rows.ensures.moves above c.in-Sequence.field-0.now c.in-Sequence.columns.now refl (subst (λ n. IsStage n c.args.self.now.stage) (sym same) placed) early)
