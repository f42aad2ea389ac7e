use Rattle.std.proofs.Common.{[], length, refl, take}
use Rattle.xdr_decode.proofs.Decoded.{done_none, done_whole, text_bad}
use Rattle.xdr_decode.proofs.decode.dataset.Goals as goal

pub unreachable-requires : goal.unreachable-requires
unreachable-requires c =
    let stands = c.new-reader.ensures.stands in
    let ended = rw c.in-Done.is at (c.in_ok-push.ensures.done [] stands) in
    let after = rw c.in-Done.is at (c.in_ok-push.ensures.stands [] stands) in
    done_none c.args.body.now c.in-Done.used [] refl ended (λ d. c.in-None.ensures.dataset (take c.in-Done.used c.args.body.now) after (length (take c.in-Done.used c.args.body.now)) d)

pub returns-in-Bad-clause-refused : goal.returns-in-Bad-clause-refused
returns-in-Bad-clause-refused c =
    let bad = rw c.in-Bad.is at (c.in_ok-push.ensures.bad [] c.new-reader.ensures.stands) in
    text_bad c.args.body.now _ _ bad.0 c.new-reader.ensures.start bad.1 bad.2

pub returns-in-Some-clause-read : goal.returns-in-Some-clause-read
returns-in-Some-clause-read c =
    let stands = c.new-reader.ensures.stands in
    let ended = rw c.in-Done.is at (c.in_ok-push.ensures.done [] stands) in
    let after = rw c.in-Done.is at (c.in_ok-push.ensures.stands [] stands) in
    done_whole c.args.body.now c.in-Done.used _ ended.0 (c.in-Some.ensures.dataset (take c.in-Done.used c.args.body.now) after)
