use Rattle.std.proofs.Common.{[], subst, append-nil}
use Rattle.dap_client.specs.Verdict.{JudgesDasText, bad}
use Rattle.dap_client.proofs.das_body.DasBody.finish.Goals as goal

pub returns-clause-bad : goal.returns-clause-bad
returns-clause-bad c bytes is o =
    let (long, stays) = rw c.in-Wrong.is at o in
    subst (λ l. JudgesDasText l (bad c.in-Wrong.field.kind c.in-Wrong.field.place)) (append-nil bytes) (stays [])
