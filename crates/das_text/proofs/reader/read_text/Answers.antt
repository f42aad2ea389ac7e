use Rattle.das_text.specs.View.{attributes_view}
use Rattle.das_text.proofs.Scanning.{das_of, trailing_of, is_bad, is_unended, is_long, front_within}
use Rattle.das_text.proofs.reader.read_text.Goals as goal

pub stray-requires : goal.stray-requires
stray-requires c = front_within c.args.text.now c.in-Ok.behind (let le = c.in-Ok.ensures.within in rw c.front_of.ensures at le)

pub returns-in-None-clause-das : goal.returns-in-None-clause-das
returns-in-None-clause-das c =
    das_of c.args.text.now c.in-Ok.behind (attributes_view c.in-Ok.attributes) (let stood = c.in-Ok.ensures.stands in rw c.front_of.ensures at stood) c.in-None.ensures

pub returns-in-Some-clause-trailing : goal.returns-in-Some-clause-trailing
returns-in-Some-clause-trailing c =
    rw c.trailing_at.ensures (trailing_of c.args.text.now c.in-Ok.behind c.in-Some.place (attributes_view c.in-Ok.attributes) (let stood = c.in-Ok.ensures.stands in rw c.front_of.ensures at stood) c.in-Some.ensures)

pub returns-in-Err-Bad-clause-bad : goal.returns-in-Err-Bad-clause-bad
returns-in-Err-Bad-clause-bad c =
    let stopped = c.in-Err-Bad.ensures.stands in
    let here = rw (c.front_of.ensures, c.in-Err-Bad.field-0-is) at stopped in
    rw c.bad_at.ensures (is_bad c.args.text.now c.in-Err-Bad.place here)

pub returns-then-text-lt-LIMIT-clause-cut : goal.returns-then-text-lt-LIMIT-clause-cut
returns-then-text-lt-LIMIT-clause-cut c =
    let stopped = c.in-Err-End.ensures.stands in
    let here = rw (c.front_of.ensures, c.in-Err-End.field-0-is) at stopped in
    (is_unended c.args.text.now here, c.if-text-lt-LIMIT.true)

pub returns-else-text-lt-LIMIT-clause-bad : goal.returns-else-text-lt-LIMIT-clause-bad
returns-else-text-lt-LIMIT-clause-bad c =
    let stopped = c.in-Err-End.ensures.stands in
    let here = rw (c.front_of.ensures, c.in-Err-End.field-0-is) at stopped in
    rw c.bad_at-else-text-lt-LIMIT.ensures (is_long c.args.text.now here c.if-text-lt-LIMIT.false)
