use Rattle.dap_errors.proofs.Reading.{object_of, stray_of, bad_of, unended_of, long_of, front_within}
use Rattle.dap_errors.proofs.read.read.Goals as goal

pub stray-requires : goal.stray-requires
stray-requires c = front_within c.args.text.now c.in-Ok.behind (let le = c.in-Ok.ensures.within in rw c.front_of.ensures at le)

pub returns-in-None-clause-object : goal.returns-in-None-clause-object
returns-in-None-clause-object c =
    object_of c.args.text.now c.in-Ok.object c.in-Ok.behind (let stood = c.in-Ok.ensures.stands in rw c.front_of.ensures at stood) c.in-None.ensures

pub returns-in-Some-clause-bad : goal.returns-in-Some-clause-bad
returns-in-Some-clause-bad c =
    rw c.at.ensures (stray_of c.args.text.now c.in-Ok.object c.in-Ok.behind c.in-Some.place (let stood = c.in-Ok.ensures.stands in rw c.front_of.ensures at stood) c.in-Some.ensures)

pub returns-in-Err-Bad-clause-bad : goal.returns-in-Err-Bad-clause-bad
returns-in-Err-Bad-clause-bad c =
    let stopped = c.in-Err-Bad.ensures.stands in
    let here = rw (c.front_of.ensures, c.in-Err-Bad.field-0-is) at stopped in
    rw c.at-in-Err-Bad.ensures (bad_of c.args.text.now c.in-Err-Bad.place here)

pub returns-then-text-lt-LIMIT-clause-cut : goal.returns-then-text-lt-LIMIT-clause-cut
returns-then-text-lt-LIMIT-clause-cut c =
    let stopped = c.in-Err-End.ensures.stands in
    let here = rw (c.front_of.ensures, c.in-Err-End.field-0-is) at stopped in
    (unended_of c.args.text.now here, c.if-text-lt-LIMIT.true)

pub returns-else-text-lt-LIMIT-clause-bad : goal.returns-else-text-lt-LIMIT-clause-bad
returns-else-text-lt-LIMIT-clause-bad c =
    let stopped = c.in-Err-End.ensures.stands in
    let here = rw (c.front_of.ensures, c.in-Err-End.field-0-is) at stopped in
    rw c.at-else-text-lt-LIMIT.ensures (long_of c.args.text.now here c.if-text-lt-LIMIT.false)
