use Rattle.std.proofs.Common.{◌++◌, sym, subst, arith, append_assoc, length-append}
use Rattle.dap_client.specs.Verdict.{JudgesDasText, bad}
use Rattle.dap_client.proofs.das_body.DasBody.read.Goals as goal

pub gather-requires-clause-short : goal.gather-requires-clause-short
gather-requires-clause-short c = rw c.in-Front.is at c.requires.short

pub gather-requires-clause-small : goal.gather-requires-clause-small
gather-requires-clause-small c = let short = rw c.in-Front.is at c.requires.short in omega (arith, short, c.requires.small)

pub returns-in-Wrong-clause-body : goal.returns-in-Wrong-clause-body
returns-in-Wrong-clause-body c bytes is o =
    let (within, stays) = rw c.in-Wrong.is at o in
    (omega (arith, within, length-append bytes c.args.piece.now), λ more. subst (λ l. JudgesDasText l (bad c.in-Wrong.field.kind c.in-Wrong.field.place)) (sym (append_assoc bytes c.args.piece.now more)) (stays (c.args.piece.now ++ more)))

pub returns-in-White-clause-body : goal.returns-in-White-clause-body
returns-in-White-clause-body c bytes is o = let white = rw c.in-White.is at o in c.read_white.ensures.body bytes is white.0 white.1
