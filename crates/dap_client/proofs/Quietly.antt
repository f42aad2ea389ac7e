-- Over a sink that never fails no reader fails.
use Rattle.std.proofs.Common.{◌≤◌, arith}
use Rattle.dap_outside.specs.Causes.{Rose}
use Rattle.dap_client.specs.inner.Stages.{WhereFailed}
use Rattle.dap_client.specs.declared.stage.Stage.{Stage}
use Rattle.dap_client.specs.declared.stage.Stage.TheVariants as stage

pub never_rose : Rose 0 0 → ⊥
never_rose rose = let up : 1 ≤ 0 = omega (arith, rose) in absurd (omega (arith, up))

pub never_failed : (s : Stage) → WhereFailed (Rose 0 0) s → WhereFailed ⊥ s
never_failed (stage.First word front reader) cause = tt
never_failed (stage.Error object) cause = tt
never_failed (stage.Text reader) cause = tt
never_failed (stage.Line dataset line) cause = tt
never_failed (stage.Values decoder) cause = tt
never_failed (stage.Refused field) cause = tt
never_failed (stage.Full field) cause = tt
never_failed stage.Failed cause = never_rose cause
never_failed stage.Spent cause = tt
