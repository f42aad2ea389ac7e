use Rattle.std.proofs.Common.{subst, sym}
use Rattle.dap_client.proofs.TextBodies.{das_wrong, dds_wrong, match_on}
use Rattle.dap_client.specs.Verdict.{Form}
use Rattle.dap_client.specs.inner.DasBodies.{IsDasBody}
use Rattle.dap_client.specs.inner.DdsBodies.{IsDdsBody}
use Rattle.dap_client.specs.inner.TextBodies.{IsWrong}
use Rattle.dap_client.proofs.text_body.TextBody.wrong.Goals as goal

pub returns-in-Dds : goal.returns-in-Dds
returns-in-Dds c = match_on c.wrong.result _ _ c.wrong.ensures
    (λ field is form bytes none o.
    let (same, body) = rw c.in-Dds.is at o in
    subst (λ (f : Form). IsWrong f field bytes) (sym same) (dds_wrong field bytes none (subst (IsDdsBody bytes) is body)))

pub returns-in-Das : goal.returns-in-Das
returns-in-Das c = match_on c.wrong-in-Das.result _ _ c.wrong-in-Das.ensures
    (λ field is form bytes none o.
    let (same, opening, body) = rw c.in-Das.is at o in
    let (long, stays) = subst (IsDasBody bytes) is body in
    subst (λ (f : Form). IsWrong f field bytes) (sym same) (das_wrong field bytes none long stays))
