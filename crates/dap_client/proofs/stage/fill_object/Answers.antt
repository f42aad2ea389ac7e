use Rattle.std.proofs.Common.{[], sym, subst}
use Rattle.dap_client.proofs.Begun.{error_refused}
use Rattle.dap_client.proofs.Filling.{full_object, short_not_full}
use Rattle.dap_client.specs.inner.Stages.{IsStage}
use Rattle.dap_client.proofs.stage.fill_object.Goals as goal

pub returns-in-Bad-clause-stage : goal.returns-in-Bad-clause-stage
returns-in-Bad-clause-stage c bytes full error o =
    let bad = rw c.in-Bad.is at o in subst (λ s. IsStage s bytes []) (sym c.refused.ensures) (error_refused bytes c.in-Bad.place error bad)

pub returns-in-Behind-clause-stage : goal.returns-in-Behind-clause-stage
returns-in-Behind-clause-stage c bytes full error o =
    let behind = rw c.in-Behind.is at o in subst (λ s. IsStage s bytes []) (sym c.full.ensures) (full_object bytes _ _ full error behind)

pub returns-clause-stage : goal.returns-clause-stage
returns-clause-stage c bytes full error o = let front = rw c.in-Front.is at o in absurd (short_not_full bytes full front.1)
