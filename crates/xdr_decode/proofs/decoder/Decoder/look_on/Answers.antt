use Rattle.std.proofs.Common.{Ok, subst}
use Rattle.xdr_decode.proofs.Looking.{quiet}
use Rattle.xdr_decode.proofs.decoder.Decoder.look_on.Goals as goal
use Rattle.xdr_decode.specs.inner.Turning.{Falls}

pub returns-in-Some-clause-looks : goal.returns-in-Some-clause-looks
returns-in-Some-clause-looks c = λ bytes put s small.
    let (text, stays) = c.in-Some.ensures.passes bytes put s small in record { gained = text; is_left = (c.in-Some.ensures.within, stays); puts = quiet text }

pub returns-in-None-clause-looks : goal.returns-in-None-clause-looks
returns-in-None-clause-looks c = rw c.in-None.ensures.still at c.look_next.ensures.looks

pub returns-in-None-clause-falls : goal.returns-in-None-clause-falls
returns-in-None-clause-falls c = subst (λ r. Falls r c.look_next.new.self c.args.rest.now (Ok c.look_next.result)) c.in-None.ensures.still c.look_next.ensures.falls
