use Rattle.std.proofs.Common.{refl, sym, subst, inl, inr, arith}
use Rattle.dap_client.proofs.DasBodies.{bad_stays, trailing_stays}
use Rattle.dap_client.specs.inner.DasBodies.{IsDasBody}
use Rattle.dap_client.proofs.das_body.judged.Goals as goal

pub returns-in-Ok-clause-body : goal.returns-in-Ok-clause-body
returns-in-Ok-clause-body c = (omega (arith, c.requires), rw c.as_slice.ensures.value at c.in-Ok.ensures.das)

pub returns-in-Err-Bad-clause-body : goal.returns-in-Err-Bad-clause-body
returns-in-Err-Bad-clause-body c =
    let here = rw (c.as_slice.ensures.value, c.in-Err-Bad.field-0-is) at c.in-Err-Bad.ensures.bad in
    subst (IsDasBody c.args.front.items) (sym c.wrong.ensures) (omega (arith, c.requires), λ more. inl (bad_stays c.args.front.items c.in-Err-Bad.place (omega (arith, c.requires)) here more, refl))

pub returns-in-Err-Trailing-clause-body : goal.returns-in-Err-Trailing-clause-body
returns-in-Err-Trailing-clause-body c =
    let here = rw (c.as_slice.ensures.value, c.in-Err-Trailing.field-0-is) at c.in-Err-Trailing.ensures.trailing in
    subst (IsDasBody c.args.front.items) (sym c.wrong-in-Err-Trailing.ensures) (omega (arith, c.requires), λ more. inr (inl (trailing_stays c.args.front.items c.in-Err-Trailing.place (omega (arith, c.requires)) here more, refl)))
