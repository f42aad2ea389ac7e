use Rattle.std.proofs.Common.{refl, sym, subst, inl}
use Rattle.dap_client.specs.Verdict.{JudgesDasText, bad}
use Rattle.dap_client.specs.inner.DasBodies.{WhereRefused}
use Rattle.dap_client.proofs.das_body.refused.Goals as goal

pub returns-in-Bad : goal.returns-in-Bad
returns-in-Bad c bytes is b t cut = let here = rw c.in-Bad.is at b in subst (WhereRefused (λ field. JudgesDasText bytes (bad field.kind field.place))) (sym c.refusal.ensures) (inl (here, refl))
