use Rattle.std.proofs.Common.{[], subst, append-nil}
use Rattle.dap_client.specs.Verdict.{JudgesDds, bad}
use Rattle.dap_client.proofs.dds_body.DdsBody.finish.Goals as goal

pub returns-clause-bad : goal.returns-clause-bad
returns-clause-bad c bytes is o =
    let stays = rw c.in-Wrong.is at o in
    subst (λ l. JudgesDds l (bad c.in-Wrong.field.kind c.in-Wrong.field.place)) (append-nil bytes) (stays [])
