use Rattle.std.proofs.Common.{◌≤◌, ◌+◌, ◌-◌, arith, length}
use Rattle.std.proofs.lemmas.Bool.Decides.{nat_tests}
use Rattle.xdr_values.proofs.TextRuns.{elements_end, elements_next, some_left}
use Rattle.xdr_values.proofs.elements.behind_texts.Goals as goal

pub loop-init : goal.loop-init
loop-init c = λ vs rest long st. record { values = vs; long = omega (arith, long); stand = st }

pub loop-preserved : goal.loop-preserved
loop-preserved c = λ vs rest long st.
    elements_next c.args.base (c.args.count - c.loop.counter) (c.args.count - (c.loop.counter + 1)) c.loop.rest.now rest c.value.result.1.now c.requires (omega (arith, c.loop-test.true)) (c.loop.invariant vs rest long st) c.value.ensures.rest

pub returns-then-is_empty : goal.returns-then-is_empty
returns-then-is_empty c = λ vs rest long st.
    let some : 4 ≤ length c.loop.rest.now = some_left c.args.base (c.args.count - c.loop.counter) c.loop.rest.now rest c.requires (omega (arith, c.loop-test.true)) (c.loop.invariant vs rest long st) in
    absurd (grind (arith, nat_tests))

pub returns : goal.returns
returns c = λ vs rest long st. elements_end c.args.base (c.args.count - c.loop.counter) c.loop.rest.now rest (omega (arith, c.loop-test.false)) (c.loop.invariant vs rest long st)
