use Rattle.std.proofs.Common.{[], refl, sym, subst}
use Rattle.dap_client.proofs.Begun.{error_few, error_refused}
use Rattle.dap_client.specs.inner.Stages.{IsStage, WhereFailed}
use Rattle.dap_client.proofs.stage.in_object.Goals as goal

pub returns-in-Open : goal.returns-in-Open
returns-in-Open c = record { stage = λ bytes s. let (error, object) = rw c.in-Open.is at s in (error, object, refl); cause = tt }

pub returns-in-Bad : goal.returns-in-Bad
returns-in-Bad c = record {
  stage = λ bytes s. (let (error, bad) = rw c.in-Bad.is at s in subst (λ t. IsStage t bytes []) (sym c.refused.ensures) (error_refused bytes c.in-Bad.place error bad));
  cause = subst (WhereFailed ⊥) (sym c.refused.ensures) tt;
}

pub returns-in-Spent : goal.returns-in-Spent
returns-in-Spent c = record { stage = λ bytes s. (error_few bytes 65536 (rw c.in-Spent.is at s), refl); cause = tt }
