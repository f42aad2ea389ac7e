use Rattle.std.proofs.Common.{arith, drop, length, refl}
use Rattle.std.proofs.lemmas.List.{drop_all}
use Rattle.soak.proofs.Shown.{read-is}
use Rattle.soak.proofs.round_trip.read.Goals as goal

pub returns-in-Complete : goal.returns-in-Complete
returns-in-Complete c = λ start is.
    let (taken, text, rest, consumes, appends, tells) = c.in-Complete.ensures.tells in
    let source = c.read_reply.new.source in
    let shown = c.bytes-shown.result.now in
    read-is start c.args.records c.in-Complete.bytes c.elements_of.result (length shown) c.sum_of.result c.args.reply taken (drop source.at source.bytes) rest text shown _ _ _ source.ended
    c.requires.some c.requires.few is c.new-source.ensures.left consumes (λ e. drop_all source.at source.bytes (omega (arith, source.at_end e))) c.in_ok-out.ensures.written c.bytes-shown.ensures.told
    appends tells c.elements_of.ensures refl c.sum_of.ensures
