use Rattle.std.proofs.Common.{arith}
use Rattle.dap_client.proofs.Objects.{bad_stays}
use Rattle.dap_client.proofs.object.judged.Goals as goal

pub returns-in-Ok-clause-object : goal.returns-in-Ok-clause-object
returns-in-Ok-clause-object c =
    let found = c.in-Ok.ensures.object in
    let whole = rw c.as_slice.ensures.value at found in
    c.in_ok-open-in-Ok.ensures c.in-Ok.object whole

pub returns-in-Err-Bad-clause-object : goal.returns-in-Err-Bad-clause-object
returns-in-Err-Bad-clause-object c more =
    let bad = c.in-Err-Bad.ensures.bad in
    let here = rw (c.as_slice.ensures.value, c.in-Err-Bad.field-0-is) at bad in
    rw c.in-Err-Bad.place-is (bad_stays c.args.front.items c.in-Err-Bad.place (omega (arith, c.requires)) here more)
