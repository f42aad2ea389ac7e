use Rattle.std.proofs.Common.{◌++◌, sym, subst, arith, append_assoc, length-append}
use Rattle.dap_client.specs.Verdict.{JudgesDasText, bad}
use Rattle.dap_client.proofs.das_body.DasBody.followed.Goals as goal

pub returns-in-Front-clause-body : goal.returns-in-Front-clause-body
returns-in-Front-clause-body c bytes is long o = let front = rw c.in-Front.is at o in absurd (omega (arith, long, front.1))

pub returns-in-Wrong-clause-body : goal.returns-in-Wrong-clause-body
returns-in-Wrong-clause-body c bytes is long o =
    let (within, stays) = rw c.in-Wrong.is at o in
    (omega (arith, within, length-append bytes c.args.piece.now), λ more. subst (λ l. JudgesDasText l (bad c.in-Wrong.field.kind c.in-Wrong.field.place)) (sym (append_assoc bytes c.args.piece.now more)) (stays (c.args.piece.now ++ more)))

pub returns-in-White-clause-body : goal.returns-in-White-clause-body
returns-in-White-clause-body c bytes is long o = let white = rw c.in-White.is at o in c.read_white.ensures.body bytes is long white.1
