use Rattle.std.proofs.Common.{[], None, refl, sym, subst, arith}
use Rattle.xdr_decode.proofs.Pushing.{in_state, pushed_all}
use Rattle.xdr_decode.proofs.Turning.{reads_stays}
use Rattle.xdr_decode.proofs.decoder.Decoder.judge_on.Goals as goal
use Rattle.xdr_decode.specs.inner.Pushing.{IsPushed}

pub returns-clause-pushes : goal.returns-clause-pushes
returns-clause-pushes c = λ bytes put reads all.
    let piece = c.args.piece.now in
    let q = c.look-pushed.new.self in
    subst (λ s. IsPushed None None (in_state q s) piece bytes put c.look-pushed.result) (sym c.state_behind-self.ensures)
    (pushed_all q None None None [] [] piece bytes put c.look-pushed.result refl c.look-pushed.ensures.answer (omega (arith, c.requires, c.look-pushed.ensures.place)) (c.look-pushed.ensures.sees bytes put (reads_stays c.args.self.now bytes put reads)) tt)
